use Rattle.std.proofs.Common.{refl, ap, sym, ◌∙◌}
use Rattle.cdp_host_record.specs.Standing.{still_waits}
use Rattle.cdp_host_isolation.proofs.SomeLemmas.{none-done, none-more, some-found}
use Rattle.cdp_host.proofs.recordable.some_still_wait.Goals as goal

pub returns-then-still_waits : goal.returns-then-still_waits
returns-then-still_waits g c =
    let found = ap still_waits (sym c.seat-item.is)
    ∙ sym c.still_waits.ensures
    ∙ c.if-still_waits.true in
    sym (some-found still_waits c.loop-seat.seat-index c.args.seats.now c.seat-item.result c.loop-seat-test.true
    found)

pub loop-seat-init : goal.loop-seat-init
loop-seat-init g c = refl

pub loop-seat-preserved : goal.loop-seat-preserved
loop-seat-preserved g c =
    let passed = ap still_waits (sym c.seat-item.is)
    ∙ sym c.still_waits.ensures
    ∙ c.if-still_waits.false in
    none-more still_waits c.loop-seat.seat-index c.args.seats.now c.seat-item.result c.loop-seat-test.true
    c.loop-seat.invariant passed

pub returns : goal.returns
returns g c =
    sym (none-done still_waits c.loop-seat.seat-index c.args.seats.now c.loop-seat-test.false
    c.loop-seat.invariant)
