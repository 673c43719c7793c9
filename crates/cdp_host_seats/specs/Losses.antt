-- Who was lost, and who is told of that.
use Rattle.std.specs.Prelude.{ℕ, ◌+◌, List, [], ◌∷◌, Bool, true, false, not, Option, Some, None}
use Rattle.cdp_host_isolation.specs.declared.seat.Loss.{Loss}
use Rattle.cdp_host_isolation.specs.declared.seat.Loss.TheVariants.{Overrun, Memory}
use Rattle.cdp_host_isolation.specs.declared.seat.Seat.{Seat}
use Rattle.cdp_host_isolation.specs.declared.seat.Seat.TheVariants.{Attached, Lost, Left}
use Rattle.cdp_host_seats.specs.declared.losses.SessionLost.{SessionLost}

-- a loss is for want of memory
abbrev pub is_for_memory : Loss → Bool
is_for_memory Overrun = false
is_for_memory Memory = true

-- the losses that wait for a run, where the first seat is that of the session of this number
abbrev pub losses_from : {X : Type 0} → ℕ → List (Seat X) → List SessionLost
losses_from s [] = []
losses_from s (Attached x ∷ seats) = losses_from (s + 1) seats
losses_from s (Lost loss true is_told ∷ seats) = losses_from (s + 1) seats
losses_from s (Lost loss false is_told ∷ seats) = record { session = s; loss = loss } ∷ losses_from (s + 1) seats
losses_from s (Left ∷ seats) = losses_from (s + 1) seats

-- the loss of which the owner of the session of this number is told by a detach
abbrev pub loss_told : {X : Type 0} → ℕ → Seat X → Option SessionLost
loss_told s (Attached x) = None
loss_told s (Lost loss is_reported false) = Some (record { session = s; loss = loss })
loss_told s (Lost loss is_reported true) = None
loss_told s Left = None

-- a loss leaves no trace once its owner was told of it: one for want of memory of which no run has told
abbrev pub is_forgotten : Loss → Bool → Bool
is_forgotten Overrun is_reported = false
is_forgotten Memory is_reported = not is_reported

-- a seat whose owner was told of a loss, if there was one
abbrev pub owner_told : {X : Type 0} → Seat X → Seat X
owner_told (Attached x) = Attached x
owner_told (Lost Overrun is_reported is_told) = Lost Overrun is_reported true
owner_told (Lost Memory true is_told) = Lost Memory true true
owner_told (Lost Memory false is_told) = Left
owner_told Left = Left
