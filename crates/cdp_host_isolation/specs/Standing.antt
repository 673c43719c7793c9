-- A host that stands for a history, whatever memory was there.
use Rattle.std.specs.Prelude.{◌≡◌, ℕ, ◌+◌, List, [], ◌∷◌, Bool, true, false, if◌then◌else◌}
use Rattle.cdp_host_isolation.specs.Seats.{is_attached, seat_of, some, waits_for_report, without}
use Rattle.cdp_host_isolation.specs.Protocols.{Protocol}
use Rattle.cdp_host_isolation.specs.Meanings.{Meaning, is_paused, with_seats}
use Rattle.cdp_host_isolation.specs.Histories.{Entry, Attach, Tell, Take, Detach, Ran, Shut, apply}
use Rattle.cdp_host_isolation.specs.declared.seat.Loss.TheVariants.{Overrun, Memory}
use Rattle.cdp_host_isolation.specs.declared.seat.Seat.{Seat}
use Rattle.cdp_host_isolation.specs.declared.seat.Seat.TheVariants.{Attached, Lost, Left}

-- ---- sessions that were lost for want of memory, and of which no run has told

-- the session of a seat was lost so
abbrev pub fell : {X : Type 0} → Seat X → Bool
fell (Attached x) = false
fell (Lost Overrun is_reported is_told) = false
fell (Lost Memory true is_told) = false
fell (Lost Memory false is_told) = true
fell Left = false

-- their numbers, where the first seat is that of the session of this number
abbrev pub fallen_from : {X : Type 0} → ℕ → List (Seat X) → List ℕ
fallen_from s [] = []
fallen_from s (seat ∷ seats) = if fell seat then s ∷ fallen_from (s + 1) seats else fallen_from (s + 1) seats

-- the numbers of the sessions that fell, of all seats
abbrev pub fallen_in : {X : Type 0} → List (Seat X) → List ℕ
fallen_in seats = fallen_from 1 seats

-- a meaning without the sessions that fell, of a host that held these seats
abbrev pub less : {C Q X : Type 0} → List (Seat X) → Meaning C Q X → Meaning C Q X
less seats m = with_seats (without (fallen_in seats) m.seats) m

-- ---- standing

-- A host is what a history means, but for sessions that a resume lost for want of memory: these are gone from it
-- already, and no step is made before a run has told of them.
pub record StandsAs {C Q X : Type 0} (host m : Meaning C Q X) : Type 0 where
  pub is : host ≡ less host.seats m
  pub all_there : is_paused host ≡ true → fallen_in host.seats ≡ []

-- what an entry that makes no step leaves of a host: what it means, but for sessions that its resume lost for want of
-- memory
pub record LeavesAs {C T Q X : Type 0} (P : Protocol C T Q X) (old : Meaning C Q X) (entry : Entry)
    (new : Meaning C Q X) : Type 0 where
  pub is : new ≡ less new.seats (apply P old entry)
  pub all_there : is_paused new ≡ true → fallen_in new.seats ≡ []

-- a host does this alone for sessions that it holds as attached
abbrev pub IsHeld : {C Q X : Type 0} → Meaning C Q X → Entry → Type 0
IsHeld host Attach = Unit {0}
IsHeld host (Tell s text) = is_attached (seat_of s host.seats) ≡ true
IsHeld host (Take s) = is_attached (seat_of s host.seats) ≡ true
IsHeld host (Detach s) = is_attached (seat_of s host.seats) ≡ true
IsHeld host (Ran n moment gone) = ⊥
IsHeld host Shut = Unit {0}

-- ---- want of memory in a run

-- a seat behind it: a session that was attached there is lost for want of memory, and no loss waits for a run any more
abbrev pub broken_seat : {X : Type 0} → Seat X → Seat X
broken_seat (Attached x) = Lost Memory true false
broken_seat (Lost loss is_reported is_told) = Lost loss true is_told
broken_seat Left = Left

-- A host that was broken so has the seats of what a history means: none of them is attached, and none waits for a run.
pub record BrokenAs {X : Type 0} (seats means : List (Seat X)) : Type 0 where
  pub same : seats ≡ means
  pub alone : some is_attached seats ≡ false
  pub all_told : some waits_for_report seats ≡ false
