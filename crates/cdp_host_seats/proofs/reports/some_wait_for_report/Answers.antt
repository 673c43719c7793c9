use Rattle.std.proofs.Common.{refl, ap, sym, ◌∙◌}
use Rattle.cdp_host_isolation.specs.Seats.{waits_for_report}
use Rattle.cdp_host_isolation.proofs.SomeLemmas.{none-done, none-more, some-found}
use Rattle.cdp_host_seats.proofs.reports.some_wait_for_report.Goals as goal

pub returns-then-waits_for_report : goal.returns-then-waits_for_report
returns-then-waits_for_report g c =
    let found = ap waits_for_report (sym c.seat-item.is)
    ∙ sym c.waits_for_report.ensures
    ∙ c.if-waits_for_report.true in
    sym (some-found waits_for_report c.loop-seat.seat-index c.args.seats.now c.seat-item.result c.loop-seat-test.true
    found)

pub loop-seat-init : goal.loop-seat-init
loop-seat-init g c = refl

pub loop-seat-preserved : goal.loop-seat-preserved
loop-seat-preserved g c =
    let passed = ap waits_for_report (sym c.seat-item.is)
    ∙ sym c.waits_for_report.ensures
    ∙ c.if-waits_for_report.false in
    none-more waits_for_report c.loop-seat.seat-index c.args.seats.now c.seat-item.result c.loop-seat-test.true
    c.loop-seat.invariant passed

pub returns : goal.returns
returns g c =
    sym (none-done waits_for_report c.loop-seat.seat-index c.args.seats.now c.loop-seat-test.false
    c.loop-seat.invariant)
