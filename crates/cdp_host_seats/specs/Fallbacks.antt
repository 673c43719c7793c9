-- What a host falls back to where a run meets want of memory.
use Rattle.std.specs.Prelude.{ℕ, ◌≤◌, List, vec_capacity}
use Rattle.cdp_host_isolation.specs.Seats.{each, fallen}
use Rattle.cdp_host_isolation.specs.Standing.{broken_seat}
use Rattle.cdp_host_isolation.specs.declared.seat.Seat.{Seat}
use Rattle.cdp_host_seats.specs.Losses.{losses_from}
use Rattle.cdp_host_seats.specs.declared.fallback.Fallback.{Fallback as Held}
use Rattle.cdp_host_seats.specs.declared.losses.SessionLost.{SessionLost}

-- the seats, and the losses that are handed out then
pub record Fallback (X : Type 0) : Type 0 where
  pub seats : List (Seat X)
  pub losses : List SessionLost

-- what a host falls back to that had these seats before the run
abbrev pub fallback_of : {X : Type 0} → List (Seat X) → Fallback X
fallback_of seats = record { seats = each broken_seat seats; losses = losses_from 1 (each fallen seats) }

-- what the code holds
abbrev pub fallback_held : {X : Type 0} → Held X → Fallback X
fallback_held held = record { seats = held.seats.items; losses = held.losses.items }

-- there is room for so many seats, and for as many losses
pub record HasRoom {X : Type 0} (count : ℕ) (held : Held X) : Type 0 where
  pub seats : count ≤ vec_capacity held.seats
  pub losses : count ≤ vec_capacity held.losses
