use Rattle.std.proofs.Common.{refl, ap, sym, ◌∙◌}
use Rattle.cdp_host_isolation.specs.Meanings.{is_enabled_seat}
use Rattle.cdp_host.specs.Protocols.{protocol}
use Rattle.cdp_host_isolation.proofs.SomeLemmas.{none-done, none-more, some-found}
use Rattle.cdp_host.proofs.seats.some_enabled.Goals as goal

pub loop-seat-init : goal.loop-seat-init
loop-seat-init c = λ scripts. refl

pub returns-then-is_enabled : goal.returns-then-is_enabled
returns-then-is_enabled c = λ scripts.
    let found = ap (is_enabled_seat (protocol scripts)) (sym c.seat-item.is)
    ∙ sym (c.is_enabled.ensures scripts)
    ∙ c.if-is_enabled.true in
    sym (some-found (is_enabled_seat (protocol scripts))
    c.loop-seat.seat-index c.args.seats.now c.seat-item.result c.loop-seat-test.true found)

pub loop-seat-preserved : goal.loop-seat-preserved
loop-seat-preserved c = λ scripts.
    let passed = ap (is_enabled_seat (protocol scripts)) (sym c.seat-item.is)
    ∙ sym (c.is_enabled.ensures scripts)
    ∙ c.if-is_enabled.false in
    none-more (is_enabled_seat (protocol scripts))
    c.loop-seat.seat-index c.args.seats.now c.seat-item.result c.loop-seat-test.true
    (c.loop-seat.invariant scripts) passed

pub returns : goal.returns
returns c =
    λ scripts. sym
    (none-done (is_enabled_seat (protocol scripts)) c.loop-seat.seat-index c.args.seats.now c.loop-seat-test.false
    (c.loop-seat.invariant scripts))
