-- The sessions of a host by their numbers, which are counted from 1: each has a seat, which it never gives to another.
use Rattle.std.specs.Prelude.{ℕ, zero, suc, ◌+◌, List, [], ◌∷◌, Bool, true, false, ◌||◌, ◌==◌, not, if◌then◌else◌}
use Rattle.cdp_host_isolation.specs.declared.seat.Loss.{Loss}
use Rattle.cdp_host_isolation.specs.declared.seat.Loss.TheVariants.{Memory}
use Rattle.cdp_host_isolation.specs.declared.seat.Seat.{Seat}
use Rattle.cdp_host_isolation.specs.declared.seat.Seat.TheVariants.{Attached, Lost, Left}

-- ---- one seat

-- the session of a seat is attached
abbrev pub is_attached : {X : Type 0} → Seat X → Bool
is_attached (Attached x) = true
is_attached (Lost loss is_reported is_told) = false
is_attached Left = false

-- it was lost just now, for a cause: no run has reported that, and its owner wasn't told
abbrev pub lost_by : {X : Type 0} → Loss → Seat X
lost_by loss = Lost loss false false

-- a loss that waits for a run, which reports it
abbrev pub waits_for_report : {X : Type 0} → Seat X → Bool
waits_for_report (Attached x) = false
waits_for_report (Lost loss is_reported is_told) = not is_reported
waits_for_report Left = false

-- an attached session is lost for want of memory
abbrev pub fallen : {X : Type 0} → Seat X → Seat X
fallen (Attached x) = lost_by Memory
fallen (Lost loss is_reported is_told) = Lost loss is_reported is_told
fallen Left = Left

-- what waited for a run was reported by it
abbrev pub reported : {X : Type 0} → Seat X → Seat X
reported (Attached x) = Attached x
reported (Lost loss is_reported is_told) = Lost loss true is_told
reported Left = Left

-- ---- seats

-- done to each
abbrev pub each : {X : Type 0} → (Seat X → Seat X) → List (Seat X) → List (Seat X)
each f [] = []
each f (seat ∷ seats) = f seat ∷ each f seats

-- some seat is so
abbrev pub some : {X : Type 0} → (Seat X → Bool) → List (Seat X) → Bool
some test [] = false
some test (seat ∷ seats) = test seat || some test seats

-- the seat at a place, counted from 0; behind the last one is nobody's
abbrev pub seat_in : {X : Type 0} → ℕ → List (Seat X) → Seat X
seat_in i [] = Left
seat_in zero (seat ∷ seats) = seat
seat_in (suc i) (seat ∷ seats) = seat_in i seats

-- the seat of the session of this number; the number 0 is nobody's
abbrev pub seat_of : {X : Type 0} → ℕ → List (Seat X) → Seat X
seat_of zero seats = Left
seat_of (suc i) seats = seat_in i seats

-- the seats, with another one at a place
abbrev pub put_in : {X : Type 0} → ℕ → Seat X → List (Seat X) → List (Seat X)
put_in i new [] = []
put_in zero new (seat ∷ seats) = new ∷ seats
put_in (suc i) new (seat ∷ seats) = seat ∷ put_in i new seats

-- the seats, with another one of the session of this number
abbrev pub put : {X : Type 0} → ℕ → Seat X → List (Seat X) → List (Seat X)
put zero new seats = seats
put (suc i) new seats = put_in i new seats

-- ---- sessions that are lost for want of memory

-- the number is among these
abbrev pub is_listed : List ℕ → ℕ → Bool
is_listed [] s = false
is_listed (r ∷ numbers) s = s == r || is_listed numbers s

-- the first seat is that of the session of this number: those of the listed numbers are lost
abbrev pub without_from : {X : Type 0} → List ℕ → ℕ → List (Seat X) → List (Seat X)
without_from numbers s [] = []
without_from numbers s (seat ∷ seats) =
    (if is_listed numbers s then fallen seat else seat) ∷ without_from numbers (s + 1) seats

-- the sessions of these numbers are lost for want of memory
abbrev pub without : {X : Type 0} → List ℕ → List (Seat X) → List (Seat X)
without numbers seats = without_from numbers 1 seats

-- the numbers of so many sessions, from this one on
abbrev pub numbers_from : ℕ → ℕ → List ℕ
numbers_from s zero = []
numbers_from s (suc n) = s ∷ numbers_from (s + 1) n
