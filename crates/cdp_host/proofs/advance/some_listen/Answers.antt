use Rattle.std.proofs.Common.{refl, ap, sym, ◌∙◌}
use Rattle.cdp_host.specs.Ran.{may_stop_seat}
use Rattle.cdp_host_isolation.proofs.SomeLemmas.{none-done, none-more}
use Rattle.cdp_host.proofs.advance.some_listen.Goals as goal

pub loop-seat-init : goal.loop-seat-init
loop-seat-init c = λ a. refl

pub loop-seat-preserved : goal.loop-seat-preserved
loop-seat-preserved c = λ a.
    let passed = ap (may_stop_seat a) (sym c.seat-item.is) ∙ c.listens.ensures c.if-listens.false a in
    none-more (may_stop_seat a) c.loop-seat.seat-index c.args.seats.now c.seat-item.result c.loop-seat-test.true
    (c.loop-seat.invariant a) passed

pub returns : goal.returns
returns c =
    λ is a. none-done (may_stop_seat a) c.loop-seat.seat-index c.args.seats.now c.loop-seat-test.false
    (c.loop-seat.invariant a)
