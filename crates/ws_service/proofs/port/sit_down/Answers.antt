use Rattle.std.proofs.Common.{◌≡◌, ◌++◌, ◌∷◌, [], All, Some, length, map, refl, sym, ap, subst, ◌∙◌, arith}
use Rattle.std.proofs.lemmas.Iterator.Adapters.{YieldsList-from_vec}
use Rattle.std.proofs.lemmas.Iterator.Consumers.{YieldsList-turn}
use Rattle.std.proofs.lemmas.List.{length-append, length_push}
use Rattle.std.proofs.lemmas.List.Elements.{All-pop, All-push}
use Rattle.cdp_edge_server.specs.Contents.{IsNew}
use Rattle.ws_service.specs.Joins.{IsAtFirst, IsUnstarted}
use Rattle.ws_service.proofs.JoinLemmas.{map-push}
use Rattle.ws_service.proofs.port.sit_down.Goals as goal

pub loop-pass-preserved-in-Some-pop : goal.loop-pass-preserved-in-Some-pop
loop-pass-preserved-in-Some-pop g c =
    let i = c.loop-pass.invariant in
    let pass = c.in-Some.pass in
    let door = c.in-Some-pop.door in
    let left = c.pop.new.self.items in
    let desks = c.loop-pass.desks.items in
    let t = YieldsList-turn
    (YieldsList-from_vec c.args.passes.items c.into_iter-pass-iterator.ensures.into_iter_gives.0
    (c.into_iter-pass-iterator.ensures.into_iter_gives.1 ∙ c.args.passes.ok.0))
    c.loop-pass.yielded c.loop-pass.pass-iterator c.loop-pass.yielded_by c.next.result c.next.new.self pass
    c.in-Some.is c.next.ensures.steps in
    let unstarted = subst (λ p. IsUnstarted c.args.lock.now p) (sym t.1) (c.requires.passes (length c.loop-pass.yielded) pass t.0) in
    let one-less = ap length c.in-Some-pop.ensures.items ∙ length-append left (door ∷ []) in
    let new = All-pop
    (λ o. IsNew (record {
      faults = g.I.Door.faults o;
      asked = g.I.Door.asked o;
      served = g.I.Door.served o;
      is_out = g.I.Door.is_out o;
    }))
    c.loop-pass.doors.items left (Some door) c.in-Some-pop.ensures.items i.2 in (
      ap (map (λ desk. desk.pass)) c.push_reserved.ensures.items
          ∙ map-push (λ desk. desk.pass) desks _
          ∙ ap (λ l. l ++ pass ∷ []) i.0,
      omega (arith, i.1, one-less, length_push c.loop-pass.yielded pass),
      new.0,
      subst (λ l. All (λ desk. desk.lock.now ≡ c.args.lock.now) l) (sym c.push_reserved.ensures.items)
          (All-push (λ desk. desk.lock.now ≡ c.args.lock.now) desks _ i.3 refl),
      subst
          (λ l. All (λ desk. IsAtFirst c.args.lock.now desk.pass (record {
            faults = g.O.Door.faults desk.door;
            asked = g.O.Door.asked desk.door;
            served = g.O.Door.served desk.door;
            is_out = g.O.Door.is_out desk.door;
          })) l)
          (sym c.push_reserved.ensures.items)
          (All-push
          (λ desk. IsAtFirst c.args.lock.now desk.pass (record {
            faults = g.O.Door.faults desk.door;
            asked = g.O.Door.asked desk.door;
            served = g.O.Door.served desk.door;
            is_out = g.O.Door.is_out desk.door;
          }))
          desks _ i.4 (record { pass = unstarted; is_new = c.over.ensures })),
      omega (arith, i.5, c.push_reserved.ensures.len, length_push c.loop-pass.yielded pass),
      c.push_reserved.ensures.capacity ∙ i.6,
    )
