use Rattle.std.proofs.Common.{◌<◌, ◌+◌, ◌++◌, ◌∷◌, [], ap, ◌∙◌, vec_len, vec_capacity, arith}
use Rattle.cdp_host_isolation.specs.Standing.{broken_seat}
use Rattle.cdp_host_seats.proofs.FallbackLemmas.{each-done, each-more, pushed-one}
use Rattle.cdp_host_seats.proofs.fallback.fill_seats.Goals as goal

pub loop-seat-preserved : goal.loop-seat-preserved
loop-seat-preserved g c =
    let was = c.loop-seat.invariant in
    let room : vec_len c.loop-seat.broken < vec_capacity c.loop-seat.broken =
    let count = was.count in let wide = was.room in omega (arith, count, wide, c.requires, c.loop-seat-test.true) in
    let done = c.push.ensures.succeeds room in
    record {
      made = each-more broken_seat c.loop-seat.seat-index c.args.seats.now c.seat-item.result c.loop-seat.broken.items
          c.push.new.self.items
          c.loop-seat-test.true was.made
          (pushed-one c.push.result _ _ _ done c.push.ensures.items
          ∙ ap (λ one. c.loop-seat.broken.items ++ one ∷ []) (c.broken_seat.ensures ∙ ap broken_seat c.seat-item.is));
      count = pushed-one c.push.result _ _ _ done c.push.ensures.len ∙ ap (λ n. n + 1) was.count;
      room = let wide = was.room in let wider = c.push.ensures.capacity in omega (arith, wide, wider);
    }

pub returns-clause-made : goal.returns-clause-made
returns-clause-made g c =
    each-done broken_seat c.loop-seat.seat-index c.args.seats.now c.loop-seat.broken.items c.loop-seat-test.false
    c.loop-seat.invariant.made
