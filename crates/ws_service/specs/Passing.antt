-- How a pass goes on by some turns.
use Rattle.std.specs.Prelude.{◌≡◌, ◌⊎◌, ℕ, List, ◌∷◌, ◌++◌, false}
use Rattle.cdp_host_isolation.specs.Histories.{Entry, Attach, Tell, Take, Detach, Ran, Shut}
use Rattle.cdp_host_isolation.specs.Makers.{Owns, by}
use Rattle.history_lock.specs.Histories.{Begins}
use Rattle.history_lock.specs.Passes.{PassState, IsSamePass}
use Rattle.cdp_host_turns.specs.Debuggings.{Debugging, IsHistory, handed}
use Rattle.cdp_host_turns.specs.Presences.{IsThere}

-- a text of a session is told, or its texts are taken, where the session is attached and the program wasn't shut
abbrev pub IsThereFor : Debugging → List (ℕ × Entry) → Entry → Type 0
IsThereFor d front Attach = Unit {0}
IsThereFor d front (Tell s text) = IsThere d s front
IsThereFor d front (Take s) = (s ≡ 0) ⊎ IsThere d s front
IsThereFor d front (Detach s) = Unit {0}
IsThereFor d front (Ran steps moment lost) = Unit {0}
IsThereFor d front Shut = Unit {0}

-- A history goes on to a longer one: each text that this maker tells, and each taking of texts, found its session
-- there. So where one finds the session gone, a detach stands in its place.
abbrev pub FindsThere : Debugging → ℕ → List (ℕ × Entry) → List (ℕ × Entry) → Type 0
FindsThere d k old new =
    (front rest : List (ℕ × Entry)) (entry : Entry) → Begins old front → new ≡ front ++ (k, entry) ∷ rest
    → IsThereFor d front entry

-- it left these entries, one after another among those of others
pub record Goes (d : Debugging) (p q : PassState Entry) (entries : List Entry) : Type 0 where
  pub own : by p.number q.seen ≡ by p.number p.seen ++ entries
  pub longer : Begins p.seen q.seen
  pub history : IsHistory d p.seen → IsHistory d q.seen
  pub same : IsSamePass p q
  pub free : q.in_turn ≡ false
  pub there : FindsThere d p.number p.seen q.seen

-- it left these entries, and these texts were handed out to one of its sessions
pub record Serves (d : Debugging) (s : ℕ) (p q : PassState Entry) (entries : List Entry) (texts : List (List ℕ)) : Type 0 where
  pub goes : Goes d p q entries
  pub handed_out : handed d s q.seen ≡ handed d s p.seen ++ texts
  pub owns : Owns p.number s q.seen

-- an entry of a history, of whatever maker, came when what was before it was so
abbrev pub FoundAt : (List (ℕ × Entry) → Type 0) → Entry → List (ℕ × Entry) → Type 0
FoundAt R entry h =
    (front : List (ℕ × Entry)) × (rest : List (ℕ × Entry)) × (maker : ℕ)
    × (h ≡ front ++ (maker, entry) ∷ rest) × R front

-- at some time a history was so
abbrev pub Was : (List (ℕ × Entry) → Type 0) → List (ℕ × Entry) → Type 0
Was R h = (front : List (ℕ × Entry)) × Begins front h × R front
