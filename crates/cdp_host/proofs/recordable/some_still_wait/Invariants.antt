use Rattle.std.proofs.Common.{◌≡◌, take, false}
use Rattle.cdp_host_isolation.specs.Seats.{some}
use Rattle.cdp_host_record.specs.Standing.{still_waits}
use Rattle.cdp_host.proofs.recordable.some_still_wait.Given as goal

abbrev pub invariant-loop-seat : goal.invariant-loop-seat
invariant-loop-seat g l = some still_waits (take l.seat-index l.seats) ≡ false
