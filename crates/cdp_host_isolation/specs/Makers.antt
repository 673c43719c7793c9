-- Histories that several workers keep: each entry carries the number of its maker, and each session has an owner.
use Rattle.std.specs.Prelude.{◌≡◌, ◌≢◌, ℕ, zero, suc, List, [], ◌∷◌, ◌++◌, map, All, ◌==◌, if◌then◌else◌, slice_get, Option, Some, None}
use Rattle.cdp_host_isolation.specs.Histories.{Entry, Attach, Tell, Take, Detach, Ran, Shut}

-- ---- makers

-- an entry without its maker
abbrev pub entry_of : {E : Type 0} → ℕ × E → E
entry_of made = made.1

-- the entries of a history without their makers
abbrev pub entries_of : {E : Type 0} → List (ℕ × E) → List E
entries_of history = map entry_of history

-- the entries of one maker, in order
abbrev pub by : {E : Type 0} → ℕ → List (ℕ × E) → List E
by k [] = []
by k (made ∷ history) = if made.0 == k then made.1 ∷ by k history else by k history

-- ---- the owners of sessions

-- the owners of the sessions, in order of attaching, behind one entry more: who attaches a session owns it
abbrev pub owners_behind : List ℕ → ℕ → Entry → List ℕ
owners_behind owners k Attach = owners ++ k ∷ []
owners_behind owners k (Tell s text) = owners
owners_behind owners k (Take s) = owners
owners_behind owners k (Detach s) = owners
owners_behind owners k (Ran n moment gone) = owners
owners_behind owners k Shut = owners

-- who owns each session after a whole history
abbrev pub owners_from : List ℕ → List (ℕ × Entry) → List ℕ
owners_from owners [] = owners
owners_from owners (made ∷ history) = owners_from (owners_behind owners made.0 made.1) history

-- the owner of the session of this number, if there is one; the number 0 is nobody's
abbrev pub owner_of : ℕ → List ℕ → Option ℕ
owner_of zero owners = None
owner_of (suc i) owners = slice_get owners i

-- this maker left the attach of the session of this number
abbrev pub Owns : ℕ → ℕ → List (ℕ × Entry) → Type 0
Owns k s history = owner_of s (owners_from [] history) ≡ Some k

-- ---- histories in which each session is its owner's

-- of these sessions a maker may name its own, and the number 0
abbrev pub MayName : List ℕ → ℕ → ℕ → Type 0
MayName owners k zero = Unit {0}
MayName owners k (suc i) = slice_get owners i ≡ Some k

-- an entry of a session has that session's owner as its maker
abbrev pub IsOwned : List ℕ → ℕ → Entry → Type 0
IsOwned owners k Attach = Unit {0}
IsOwned owners k (Tell s text) = MayName owners k s
IsOwned owners k (Take s) = MayName owners k s
IsOwned owners k (Detach s) = MayName owners k s
IsOwned owners k (Ran n moment gone) = Unit {0}
IsOwned owners k Shut = Unit {0}

-- so has each entry of a history, where these own the sessions before it
abbrev pub AreOwned : List ℕ → List (ℕ × Entry) → Type 0
AreOwned owners [] = Unit {0}
AreOwned owners (made ∷ history) =
    IsOwned owners made.0 made.1 × AreOwned (owners_behind owners made.0 made.1) history

-- ---- what is taken

-- the entry takes no texts of the session of this number
abbrev pub IsNoTake : ℕ → Entry → Type 0
IsNoTake s Attach = Unit {0}
IsNoTake s (Tell r text) = Unit {0}
IsNoTake s (Take r) = r ≢ s
IsNoTake s (Detach r) = Unit {0}
IsNoTake s (Ran n moment gone) = Unit {0}
IsNoTake s Shut = Unit {0}

-- none of these entries takes the texts of this session
abbrev pub TakesNone : ℕ → List Entry → Type 0
TakesNone s entries = All (IsNoTake s) entries
