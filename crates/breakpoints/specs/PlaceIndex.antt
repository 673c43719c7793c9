-- Which sessions have breakpoints at which places.
use Rattle.std.specs.Prelude.{◌≡◌, ℕ, Bool, false, not, ◌&&◌, ◌||◌, List, [], ◌∷◌, map, filter, nat_eq, IsTrue}
use Rattle.std.specs.declared.cmp.Ordering.{Ordering}
use Rattle.std.specs.Ordering.{is_lt, nat_cmp, ordering_then}
use Rattle.std.specs.List.{list_any}
use Rattle.std.specs.List.Sorted.{IsStrictlySortedBy}
use Rattle.cdp_text.specs.declared.position.Place.{Place}
use Rattle.breakpoints.specs.declared.holding.Holding.{Holding}
use Rattle.breakpoints.specs.Hits.{same_place, has_place}
use Rattle.breakpoints.specs.PlaceOrder.{place_cmp}

-- ---- a session and a place

-- a pair is of a place
abbrev pub is_at_place : Place → Holding → Bool
is_at_place place h = same_place h.place place

-- a pair is of a session and a place
abbrev pub is_pair : ℕ → Place → Holding → Bool
is_pair session place h = is_at_place place h && nat_eq session h.session

-- a session has a place
abbrev pub holds : ℕ → Place → List Holding → Bool
holds session place index = list_any (is_pair session place) index

-- a session has each of these places
abbrev pub HoldsAll : ℕ → List Place → List Holding → Type 0
HoldsAll session places index = (place : Place) → IsTrue (has_place place places) → IsTrue (holds session place index)

-- ---- all pairs

-- the session of a pair
abbrev pub session_of : Holding → ℕ
session_of h = h.session

-- a pair isn't of a session
abbrev pub is_of_another : ℕ → Holding → Bool
is_of_another session h = not (nat_eq h.session session)

-- the pairs of all other sessions
abbrev pub without_session : ℕ → List Holding → List Holding
without_session session index = filter (is_of_another session) index

-- the sessions that have a place, in the order of the pairs
abbrev pub holders_at : Place → List Holding → List ℕ
holders_at place index = map session_of (filter (is_at_place place) index)

-- a pair stays where a session is to have these places alone
abbrev pub stays : ℕ → List Place → Holding → Bool
stays session places h = is_of_another session h || has_place h.place places

-- ---- changes

-- a session has these places, and no others
abbrev pub HasOnly : ℕ → List Place → List Holding → Type 0
HasOnly session places index = (place : Place) → holds session place index ≡ has_place place places

-- a session has these places and those that it had, and all other pairs are as they were
pub record HasAlso (session : ℕ) (places : List Place) (old new : List Holding) : Type 0 where
  pub own : (place : Place) → holds session place new ≡ (has_place place places || holds session place old)
  pub others : without_session session new ≡ without_session session old

-- these are the sessions that have a place
abbrev pub HoldersAre : Place → List Holding → List ℕ → Type 0
HoldersAre place index sessions = (session : ℕ) → list_any (nat_eq session) sessions ≡ holds session place index

-- ---- the order

-- a pair is of a place before this one
abbrev pub is_before : Place → Holding → Bool
is_before place h = is_lt (place_cmp h.place place)

-- the first pair is of a place
abbrev pub starts_at : Place → List Holding → Bool
starts_at place [] = false
starts_at place (h ∷ hs) = is_at_place place h

-- by place, then session
abbrev pub holding_cmp : Holding → Holding → Ordering
holding_cmp g h = ordering_then (place_cmp g.place h.place) (nat_cmp g.session h.session)

-- each pair stands before those that follow it, so none stands twice
abbrev pub AreInOrder : List Holding → Type 0
AreInOrder index = IsStrictlySortedBy holding_cmp index

-- the pairs stand in order, and the sessions beside them are theirs
pub record IsPlaceIndex (pairs : List Holding) (sessions : List ℕ) : Type 0 where
  pub ordered : AreInOrder pairs
  pub beside : sessions ≡ map session_of pairs
