use Rattle.std.proofs.Common.{rules, ◌≡◌, true, ◌++◌, length, map, sym, ap, ◌∙◌}
use mathlib.Core.List.{map-map}
use Rattle.ws_service.specs.Serving.{ServedDoor}
use Rattle.ws_service.proofs.ServingLemmas.{answers-last, last-named, serving}
use Rattle.ws_service.proofs.serving.serve_all.Goals as goal

pub join_all-ended-requires-clause-lock : goal.join_all-ended-requires-clause-lock
join_all-ended-requires-clause-lock g c =
    let e = c.serve_desks-run.ensures in (
      e.runs.goes.same.0 ∙ ap (λ p. p.lock) c.requires.runner ∙ sym e.lock,
      λ k desk within. e.locks k desk within ∙ sym e.lock,
    )

pub returns-clause-last : goal.returns-clause-last
returns-clause-last g c =
    let e = c.serve_desks-run.ensures in
    let j = c.join_all-ended.ensures in
    let n = length c.args.desks.items in
    let below = e.numbers ∙ c.requires.numbers in
    let some = c.join_all-ended.ensures.only in
    let all = answers-last c.args.runner.now.lock.now n c.args.runner.now.pass c.serve_desks-run.new.runner.pass
    c.join_all-ended.new.p _ c.requires.runner e.runs.goes.same below j.whole j.same.3 (some (search rules))
    (j.sees (search rules)) in (
      j.same.0 ∙ e.runs.goes.same.0 ∙ ap (λ p. p.lock) c.requires.runner,
      j.same.1,
      j.same.2 ∙ e.runs.goes.same.1 ∙ ap (λ p. p.number) c.requires.runner,
      j.same.3 ∙ e.runs.goes.same.4 ∙ ap (λ p. p.initial) c.requires.runner,
      all.0,
    )

pub returns-clause-serves : goal.returns-clause-serves
returns-clause-serves g c =
    let e = c.serve_desks-run.ensures in
    let j = c.join_all-ended.ensures in
    let n = length c.args.desks.items in
    let p = c.args.runner.now.pass in
    let m = c.serve_desks-run.new.runner.pass in
    let q = c.join_all-ended.new.p in
    let ds = c.serve_desks-run.result.1.items in
    let below = e.numbers ∙ c.requires.numbers in
    let all = answers-last c.args.runner.now.lock.now n p m q _ c.requires.runner e.runs.goes.same below j.whole j.same.3
    (j.only (search rules)) (j.sees (search rules)) in (
      _,
      serving g.H.Hosted.debugs n (g.C.Clock.moment c.args.clock.now) p m q.seen
          (record { content = g.S.Sink.content c.args.out.now; faults = g.S.Sink.faults c.args.out.now })
          (record { content = g.S.Sink.content c.serve_desks-run.new.out; faults = g.S.Sink.faults c.serve_desks-run.new.out })
          c.serve_desks-run.result.0 (λ desk. desk.pass.number)
          (λ desk. record {
            faults = g.O.Door.faults desk.door;
            asked = g.O.Door.asked desk.door;
            served = g.O.Door.served desk.door;
            is_out = g.O.Door.is_out desk.door;
          })
          (λ desk. desk.end) _ c.join_all-ended.result (ap (λ z. z.seen) c.requires.runner)
          (ap (λ z. z.number) c.requires.runner) e.runs j.longer
          (j.own n (last-named c.args.runner.now.lock.now n p m c.requires.runner e.runs.goes.same)) j.history
          (q.refused ≡ true) j.refused all.2 j.served below all.1 j.ended,
      ap
          (map (λ door. record {
            faults = g.O.Door.faults door;
            asked = g.O.Door.asked door;
            served = g.O.Door.served door;
            is_out = g.O.Door.is_out door;
          }))
          (j.doors ∙ ap (λ l. l ++ map (λ desk. desk.door) ds) c.requires.none)
          ∙ map-map
          (λ door. record {
            faults = g.O.Door.faults door;
            asked = g.O.Door.asked door;
            served = g.O.Door.served door;
            is_out = g.O.Door.is_out door;
          })
          (λ desk. desk.door) ds
          ∙ sym (map-map (λ (s : ServedDoor). s.door) _ ds),
    )
