-- One seat among others.
use Rattle.std.specs.Prelude.{◌≡◌, ◌<◌, ℕ, List, length, slice_index_or, slice_set}
use Rattle.cdp_host_isolation.specs.Seats.{put, seat_of}
use Rattle.cdp_host_isolation.specs.declared.seat.Seat.{Seat}

-- the seat of the session of this number stands at this place
pub record IsPlace {X : Type 0} (s i : ℕ) (seats : List (Seat X)) : Type 0 where
  pub within : i < length seats
  pub is : (d : Seat X) → slice_index_or seats i d ≡ seat_of s seats
  pub puts : (new : Seat X) → slice_set seats i new ≡ put s new seats
