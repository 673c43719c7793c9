use Rattle.std.proofs.Common.{◌<◌, ◌+◌, ◌∷◌, [], sym, ap, ◌∙◌, vec_len, vec_capacity, arith}
use Rattle.cdp_host_isolation.specs.Seats.{fallen}
use Rattle.cdp_host_seats.specs.Losses.{losses_from}
use Rattle.cdp_host_seats.proofs.FallbackLemmas.{at-room, falls-done, falls-more}
use Rattle.cdp_host_seats.proofs.fallback.fill_losses.Goals as goal

pub loop-seat-preserved : goal.loop-seat-preserved
loop-seat-preserved g c =
    let was = c.loop-seat.invariant in
    let room : vec_len c.loop-seat.losses < vec_capacity c.loop-seat.losses =
    let count = was.count in let wide = was.room in omega (arith, count, wide, c.requires, c.loop-seat-test.true) in
    let one =
    ap (λ n. losses_from (n + 1) (fallen c.seat-item.result ∷ [])) (sym was.counted) ∙ c.loss_in_run.ensures in
    record {
      counted = ap (λ n. n + 1) was.counted;
      made = falls-more c.loop-seat.seat-index c.args.seats.now c.seat-item.result c.loop-seat.losses.items
          c.push_loss.new.losses.items c.loss_in_run.result
          c.loop-seat-test.true was.made
          (ap (λ seat. losses_from (c.loop-seat.seat-index + 1) (fallen seat ∷ [])) (sym c.seat-item.is) ∙ one)
          (at-room c.push_loss.result _ (c.push_loss.ensures.succeeds room) c.push_loss.ensures.pushed);
      count = let count = was.count in let more = c.push_loss.ensures.len in omega (arith, count, more);
      room = let wide = was.room in let wider = c.push_loss.ensures.room in omega (arith, wide, wider);
    }

pub returns-clause-made : goal.returns-clause-made
returns-clause-made g c =
    falls-done c.loop-seat.seat-index c.args.seats.now c.loop-seat.losses.items c.loop-seat-test.false
    c.loop-seat.invariant.made
