use Rattle.std.proofs.Common.{rules, ◌+◌, ◌∷◌, [], ap, sym, ◌∙◌, arith}
use Rattle.cdp_host_isolation.specs.Seats.{waits_for_report}
use Rattle.cdp_host_isolation.proofs.SomeLemmas.{some-found}
use Rattle.cdp_host_seats.specs.Losses.{losses_from}
use Rattle.cdp_host_seats.proofs.ReportLemmas.{listed-waits, losses-done, losses-more}
use Rattle.cdp_host_seats.proofs.reports.losses_of.Goals as goal
use Rattle.cdp_text.proofs.TestLemmas.{on-err}

pub loop-seat-init : goal.loop-seat-init
loop-seat-init g c = record { counted = search rules; items = c.new-losses.ensures.items }

pub overflow_add-session : goal.overflow_add-session
overflow_add-session g c =
    let counted = c.loop-seat.invariant.counted in
    omega (arith, counted, c.loop-seat-test.true)

pub loop-seat-preserved : goal.loop-seat-preserved
loop-seat-preserved g c =
    let one = ap (λ n. losses_from (n + 1) (c.seat-item.result ∷ [])) (sym c.loop-seat.invariant.counted)
    ∙ c.loss_waiting.ensures in
    let here = ap (λ seat. losses_from (c.loop-seat.seat-index + 1) (seat ∷ [])) (sym c.seat-item.is) ∙ one in
    record {
      counted = ap (λ n. n + 1) c.loop-seat.invariant.counted;
      items =
          losses-more c.loop-seat.seat-index c.args.seats.now c.seat-item.result c.loop-seat.losses.items
          c.push_loss.new.losses.items c.loss_waiting.result
          c.loop-seat-test.true c.loop-seat.invariant.items here c.in_ok-push_loss.ensures.pushed;
    }

pub returns-clause-losses : goal.returns-clause-losses
returns-clause-losses g c =
    losses-done c.loop-seat.seat-index c.args.seats.now c.loop-seat.losses.items c.loop-seat-test.false
    c.loop-seat.invariant.items

-- there is no memory for a loss that waits
pub returns-in_err-push_loss-clause-err : goal.returns-in_err-push_loss-clause-err
returns-in_err-push_loss-clause-err g c =
    on-err c.from_residual.result _
    (some-found waits_for_report c.loop-seat.seat-index c.args.seats.now c.seat-item.result c.loop-seat-test.true
    (ap waits_for_report (sym c.seat-item.is)
    ∙ listed-waits (c.loop-seat.session + 1)
    c.seat-item.result c.loss_waiting.result c.loss_waiting.ensures c.in_err-push_loss.ensures.err))
