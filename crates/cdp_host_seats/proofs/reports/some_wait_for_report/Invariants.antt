use Rattle.std.proofs.Common.{◌≡◌, take, false}
use Rattle.cdp_host_isolation.specs.Seats.{some, waits_for_report}
use Rattle.cdp_host_seats.proofs.reports.some_wait_for_report.Given as goal

abbrev pub invariant-loop-seat : goal.invariant-loop-seat
invariant-loop-seat g l = some waits_for_report (take l.seat-index l.seats) ≡ false
