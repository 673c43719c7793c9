use Rattle.std.proofs.Common.{◌<◌, ◌≤◌, length, refl, arith}
use Rattle.cdp_host_isolation.proofs.PassLoops.{on-done, on-next}
use Rattle.cdp_host_seats.proofs.ReportLemmas.{IsReported, each-reported}
use Rattle.cdp_host_seats.proofs.reports.report_all.Goals as goal

pub loop-seat-init : goal.loop-seat-init
loop-seat-init g c = refl

pub loop-seat-preserved : goal.loop-seat-preserved
loop-seat-preserved g c =
    let small : c.loop-seat.seat-index < length c.loop-seat.seats = omega
    (arith, c.loop-seat-test.true, c.loop-seat.auto.seats) in
    on-next IsReported c.loop-seat.seat-index c.args.seats.now c.loop-seat.seats c.seat-item.result
    c.report_seat.new.seat c.loop-seat.invariant small c.report_seat.ensures

pub returns : goal.returns
returns g c =
    let done : length c.loop-seat.seats ≤ c.loop-seat.seat-index = omega
    (arith, c.loop-seat-test.false, c.loop-seat.auto.seats) in
    each-reported c.args.seats.now c.loop-seat.seats
    (on-done IsReported c.loop-seat.seat-index c.args.seats.now c.loop-seat.seats c.loop-seat.invariant done)
