-- At which places the sessions of a host have breakpoints, and what else they may name a stop for.
use Rattle.std.specs.Prelude.{◌≡◌, ℕ, Bool, false, not, ◌&&◌, List, nat_eq}
use Rattle.std.specs.List.{list_any}
use Rattle.cdp_text.specs.declared.position.Place.{Place}
use Rattle.cdp_host_isolation.specs.Seats.{seat_of, some, waits_for_report}
use Rattle.cdp_host_isolation.specs.declared.seat.Seat.{Seat}
use Rattle.cdp_host_isolation.specs.declared.seat.Seat.TheVariants.{Attached, Lost, Left}
use Rattle.breakpoints.specs.Hits.{stands_at}
use Rattle.breakpoints.specs.PlaceIndex.{holds}
use Rattle.breakpoints.specs.declared.holding.Holding.{Holding}
use Rattle.stepping.specs.Rules as rules
use Rattle.stepping.specs.declared.arrival.Arrival.{Arrival}
use Rattle.cdp_session.specs.Sessions.{Session}
use Rattle.cdp_session.specs.Stops.{wants as session_wants}

-- ---- places

-- a breakpoint of the session that is attached there stands at a place, active or not
abbrev pub stands_in : Place → Seat Session → Bool
stands_in place (Attached x) = list_any (stands_at place) x.breakpoints.set
stands_in place (Lost loss is_reported is_told) = false
stands_in place Left = false

-- in an index the session of a number has the places of this seat, and no others
abbrev pub IsIndexedAs : ℕ → Seat Session → List Holding → Type 0
IsIndexedAs s seat index = (place : Place) → holds s place index ≡ stands_in place seat

-- an index has the places of each attached session, and no others
pub record IsIndexOf (seats : List (Seat Session)) (index : List Holding) : Type 0 where
  pub exact : (s : ℕ) → IsIndexedAs s (seat_of s seats) index

-- these are the sessions that have a breakpoint at a place
abbrev pub AreHolders : Place → List (Seat Session) → List ℕ → Type 0
AreHolders place seats sessions = (s : ℕ) → list_any (nat_eq s) sessions ≡ stands_in place (seat_of s seats)

-- an index has what it had, but for the sessions that were lost and of which no run has told
abbrev pub ForgetsLost : List (Seat Session) → List Holding → List Holding → Type 0
ForgetsLost seats old new =
    (s : ℕ) (place : Place) → holds s place new ≡ (holds s place old && not (waits_for_report (seat_of s seats)))

-- ---- stops beside breakpoints

-- a rule of the session that is attached there, other than that of breakpoints, names a stop
abbrev pub wants_in : Arrival → Seat Session → Bool
wants_in a (Attached x) = session_wants a x
wants_in a (Lost loss is_reported is_told) = false
wants_in a Left = false

-- a rule of one of these sessions does
abbrev pub is_wanted : Arrival → List (Seat Session) → Bool
is_wanted a seats = some (wants_in a) seats

-- the session that is attached there asked for a pause, a step, or a place to run to
abbrev pub has_request_in : Seat Session → Bool
has_request_in (Attached x) = rules.has_request x.rules
has_request_in (Lost loss is_reported is_told) = false
has_request_in Left = false
