use Rattle.std.proofs.Common.{refl, ap, sym, ◌∙◌}
use Rattle.cdp_host.specs.Indexing.{wants_in}
use Rattle.cdp_host_isolation.proofs.SomeLemmas.{none-done, none-more, some-found}
use Rattle.cdp_host.proofs.advance.some_want.Goals as goal

pub returns-then-wants : goal.returns-then-wants
returns-then-wants c =
    let found = ap (wants_in c.args.arrival.now) (sym c.seat-item.is)
    ∙ sym c.wants.ensures
    ∙ c.if-wants.true in
    sym (some-found (wants_in c.args.arrival.now)
    c.loop-seat.seat-index c.args.seats.now c.seat-item.result c.loop-seat-test.true found)

pub loop-seat-init : goal.loop-seat-init
loop-seat-init c = refl

pub loop-seat-preserved : goal.loop-seat-preserved
loop-seat-preserved c =
    let passed = ap (wants_in c.args.arrival.now) (sym c.seat-item.is)
    ∙ sym c.wants.ensures
    ∙ c.if-wants.false in
    none-more (wants_in c.args.arrival.now)
    c.loop-seat.seat-index c.args.seats.now c.seat-item.result c.loop-seat-test.true c.loop-seat.invariant passed

pub returns : goal.returns
returns c =
    sym (none-done (wants_in c.args.arrival.now)
    c.loop-seat.seat-index c.args.seats.now c.loop-seat-test.false c.loop-seat.invariant)
