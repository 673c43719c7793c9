use Rattle.std.proofs.Common.{rules, ◌+◌, ap, ◌∙◌, arith}
use Rattle.breakpoints.specs.PlaceIndex.{without_session}
use Rattle.cdp_host_isolation.specs.Seats.{waits_for_report}
use Rattle.cdp_host.proofs.IndexLemmas.{forgets-done, forgets-more, forgets-none}
use Rattle.cdp_host.proofs.indexing.forget_lost.Goals as goal

pub loop-seat-init : goal.loop-seat-init
loop-seat-init c = record { counted = search rules; forgets = forgets-none c.args.seats.now c.args.index.now }

pub overflow_add-session : goal.overflow_add-session
overflow_add-session c =
    let counted = c.loop-seat.invariant.counted in
    omega (arith, counted, c.loop-seat-test.true)

pub loop-seat-preserved : goal.loop-seat-preserved
loop-seat-preserved c =
    let here = ap waits_for_report c.seat-item.is in
    record {
      counted = ap (λ n. n + 1) c.loop-seat.invariant.counted;
      forgets =
          forgets-more c.loop-seat.seat-index c.args.seats.now c.seat-item.result c.args.index.now c.loop-seat.index
          c.forget_if_lost.new.index c.loop-seat-test.true c.loop-seat.invariant.forgets
          (λ is. c.forget_if_lost.ensures.lost (here ∙ is)
          ∙ ap (λ n. without_session (n + 1) c.loop-seat.index) c.loop-seat.invariant.counted)
          (λ is. c.forget_if_lost.ensures.kept (here ∙ is));
    }

pub returns : goal.returns
returns c =
    forgets-done c.loop-seat.seat-index c.args.seats.now c.args.index.now c.loop-seat.index c.loop-seat-test.false
    c.loop-seat.invariant.forgets
