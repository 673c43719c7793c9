use Rattle.std.proofs.Common.{refl, ap, sym, ◌∙◌}
use Rattle.cdp_host.specs.Indexing.{has_request_in}
use Rattle.cdp_host_isolation.proofs.SomeLemmas.{none-done, none-more, some-found}
use Rattle.cdp_host.proofs.advance.some_have_requests.Goals as goal

pub loop-seat-init : goal.loop-seat-init
loop-seat-init c = refl

pub returns-then-has_request : goal.returns-then-has_request
returns-then-has_request c =
    let found = ap has_request_in (sym c.seat-item.is) ∙ sym c.has_request.ensures ∙ c.if-has_request.true in
    sym (some-found has_request_in c.loop-seat.seat-index c.args.seats.now c.seat-item.result c.loop-seat-test.true found)

pub loop-seat-preserved : goal.loop-seat-preserved
loop-seat-preserved c =
    let passed = ap has_request_in (sym c.seat-item.is) ∙ sym c.has_request.ensures ∙ c.if-has_request.false in
    none-more has_request_in c.loop-seat.seat-index c.args.seats.now c.seat-item.result c.loop-seat-test.true
    c.loop-seat.invariant passed

pub returns : goal.returns
returns c =
    sym (none-done has_request_in c.loop-seat.seat-index c.args.seats.now c.loop-seat-test.false c.loop-seat.invariant)
