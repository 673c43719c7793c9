use Rattle.cdp_host_isolation.specs.Passes.{GoesOn}
use Rattle.cdp_host_seats.proofs.ReportLemmas.{IsReported}
use Rattle.cdp_host_seats.proofs.reports.report_all.Given as goal

abbrev pub invariant-loop-seat : goal.invariant-loop-seat
invariant-loop-seat g l = GoesOn IsReported l.seat-index l.fn.seats l.seats
