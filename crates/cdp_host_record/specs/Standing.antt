-- What a host that stands for a history knows of what that means.
use Rattle.std.specs.Prelude.{Bool, ◌&&◌, not}
use Rattle.cdp_host_isolation.specs.Seats.{waits_for_report}
use Rattle.cdp_host_isolation.specs.Standing.{fell}
use Rattle.cdp_host_isolation.specs.declared.seat.Seat.{Seat}

-- a loss waits for a run, and isn't for want of memory
abbrev pub still_waits : {X : Type 0} → Seat X → Bool
still_waits seat = waits_for_report seat && not (fell seat)
