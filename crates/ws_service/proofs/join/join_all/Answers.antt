use Rattle.std.proofs.Common.{◌<◌, ◌++◌, ℕ, List, Option, length, map, sym, ap, subst, ◌∙◌, map-id, arith}
use Rattle.std.proofs.lemmas.Iterator.Adapters.{YieldsList-from_vec}
use Rattle.std.proofs.lemmas.Iterator.Consumers.{YieldsList-turn, YieldsList-end}
use Rattle.std.proofs.lemmas.List.{length_push}
use Rattle.ws_service.specs.Joins.{AreAll, HasServed, joined_passes}
use Rattle.ws_service.specs.Serving.{IsEndOfDoors}
use Rattle.ws_service.specs.declared.door.DoorEnd.{DoorEnd}
use Rattle.ws_service.specs.declared.ends.DoorsEnd.{DoorsEnd}
use Rattle.ws_service.proofs.JoinLemmas.{answers-for-all, joining-on, map-push, pushed}
use Rattle.ws_service.proofs.ServingLemmas.{ends-push}
use Rattle.ws_service.proofs.join.join_all.Goals as goal

pub loop-desk-preserved : goal.loop-desk-preserved
loop-desk-preserved g c =
    let i = c.loop-desk.invariant in
    let desk = c.in-Some.desk in
    let j = c.join_desk-door.ensures in
    let t = YieldsList-turn
    (YieldsList-from_vec c.args.desks.items c.into_iter-desk-iterator.ensures.into_iter_gives.0
    (c.into_iter-desk-iterator.ensures.into_iter_gives.1 ∙ c.args.desks.ok.0))
    c.loop-desk.yielded c.loop-desk.desk-iterator c.loop-desk.yielded_by c.next.result c.next.new.self desk
    c.in-Some.is c.next.ensures.steps in
    let served = subst (λ x. HasServed g.H.Hosted.debugs x.pass
    (record {
      faults = g.O.Door.faults x.door;
      asked = g.O.Door.asked x.door;
      served = g.O.Door.served x.door;
      is_out = g.O.Door.is_out x.door;
    })
    x.end) (sym t.1) (c.requires.served (length c.loop-desk.yielded) desk t.0) in (
      joining-on g.H.Hosted.debugs (λ x. x.pass)
          (λ x. record {
            faults = g.O.Door.faults x.door;
            asked = g.O.Door.asked x.door;
            served = g.O.Door.served x.door;
            is_out = g.O.Door.is_out x.door;
          })
          (λ x. x.end) c.args.p.now c.loop-desk.p c.join_desk-door.new.p c.loop-desk.yielded desk i.0 served j.joined
          j.both.0 j.both.1 j.own j.others,
      pushed (λ x. x.door) c.args.doors.now.items c.loop-desk.yielded desk c.loop-desk.doors.items
          c.push_reserved.new.self.items c.join_desk-door.result c.push_reserved.ensures.items i.1 j.door,
      omega (arith, i.2, c.push_reserved.ensures.len, length_push c.loop-desk.yielded desk),
      c.push_reserved.ensures.capacity ∙ i.3,
      λ _. j.only,
      subst (λ (z : DoorsEnd × List (Option DoorEnd)). IsEndOfDoors z.0 z.1)
          (λ i. (sym c.with_door-ends.ensures i, sym (map-push (λ x. x.end) c.loop-desk.yielded desk) i))
          (ends-push (map (λ x. x.end) c.loop-desk.yielded) c.loop-desk.ends desk.end i.5),
      λ _. j.sees,
    )

pub returns-clause-doors : goal.returns-clause-doors
returns-clause-doors g c =
    let e = YieldsList-end
    (YieldsList-from_vec c.args.desks.items c.into_iter-desk-iterator.ensures.into_iter_gives.0
    (c.into_iter-desk-iterator.ensures.into_iter_gives.1 ∙ c.args.desks.ok.0))
    c.loop-desk.yielded c.loop-desk.desk-iterator c.loop-desk.yielded_by c.next.result c.next.new.self
    c.in-None.is c.next.ensures.steps in
    c.loop-desk.invariant.1
    ∙ ap (λ l. c.args.doors.now.items ++ map (λ x. x.door) l) (sym (map-id c.loop-desk.yielded) ∙ e.0)

pub returns-clause-joined : goal.returns-clause-joined
returns-clause-joined g c =
    let e = YieldsList-end
    (YieldsList-from_vec c.args.desks.items c.into_iter-desk-iterator.ensures.into_iter_gives.0
    (c.into_iter-desk-iterator.ensures.into_iter_gives.1 ∙ c.args.desks.ok.0))
    c.loop-desk.yielded c.loop-desk.desk-iterator c.loop-desk.yielded_by c.next.result c.next.new.self
    c.in-None.is c.next.ensures.steps in
    c.loop-desk.invariant.0.joined
    ∙ ap (λ l. joined_passes c.args.p.now (map (λ x. x.pass) l)) (sym (map-id c.loop-desk.yielded) ∙ e.0)

pub returns-clause-only : goal.returns-clause-only
returns-clause-only g c =
    let e = YieldsList-end
    (YieldsList-from_vec c.args.desks.items c.into_iter-desk-iterator.ensures.into_iter_gives.0
    (c.into_iter-desk-iterator.ensures.into_iter_gives.1 ∙ c.args.desks.ok.0))
    c.loop-desk.yielded c.loop-desk.desk-iterator c.loop-desk.yielded_by c.next.result c.next.new.self
    c.in-None.is c.next.ensures.steps in
    λ some. c.loop-desk.invariant.4 (subst (λ (n : ℕ). 0 < n) (sym e.1) some)

pub returns-clause-sees : goal.returns-clause-sees
returns-clause-sees g c =
    let e = YieldsList-end
    (YieldsList-from_vec c.args.desks.items c.into_iter-desk-iterator.ensures.into_iter_gives.0
    (c.into_iter-desk-iterator.ensures.into_iter_gives.1 ∙ c.args.desks.ok.0))
    c.loop-desk.yielded c.loop-desk.desk-iterator c.loop-desk.yielded_by c.next.result c.next.new.self
    c.in-None.is c.next.ensures.steps in
    λ some. c.loop-desk.invariant.6 (subst (λ (n : ℕ). 0 < n) (sym e.1) some)

pub returns-clause-refused : goal.returns-clause-refused
returns-clause-refused g c = c.loop-desk.invariant.0.refused

pub returns-clause-same : goal.returns-clause-same
returns-clause-same g c =
    let j = c.loop-desk.invariant.0 in
    (j.lock, j.free, j.number, j.initial)

pub returns-clause-whole : goal.returns-clause-whole
returns-clause-whole g c =
    let e = YieldsList-end
    (YieldsList-from_vec c.args.desks.items c.into_iter-desk-iterator.ensures.into_iter_gives.0
    (c.into_iter-desk-iterator.ensures.into_iter_gives.1 ∙ c.args.desks.ok.0))
    c.loop-desk.yielded c.loop-desk.desk-iterator c.loop-desk.yielded_by c.next.result c.next.new.self
    c.in-None.is c.next.ensures.steps in
    λ are. answers-for-all g.H.Hosted.debugs (λ x. x.pass)
    (λ x. record {
      faults = g.O.Door.faults x.door;
      asked = g.O.Door.asked x.door;
      served = g.O.Door.served x.door;
      is_out = g.O.Door.is_out x.door;
    })
    (λ x. x.end) c.args.p.now c.loop-desk.p c.loop-desk.yielded c.loop-desk.invariant.0
    (subst (λ l. AreAll c.args.p.now (map (λ x. x.pass.number) l)) (sym (sym (map-id c.loop-desk.yielded) ∙ e.0)) are)

pub returns-clause-ended : goal.returns-clause-ended
returns-clause-ended g c =
    let e = YieldsList-end
    (YieldsList-from_vec c.args.desks.items c.into_iter-desk-iterator.ensures.into_iter_gives.0
    (c.into_iter-desk-iterator.ensures.into_iter_gives.1 ∙ c.args.desks.ok.0))
    c.loop-desk.yielded c.loop-desk.desk-iterator c.loop-desk.yielded_by c.next.result c.next.new.self
    c.in-None.is c.next.ensures.steps in
    subst (λ l. IsEndOfDoors c.loop-desk.ends (map (λ x. x.end) l)) (sym (map-id c.loop-desk.yielded) ∙ e.0)
    c.loop-desk.invariant.5
