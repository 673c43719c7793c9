use Rattle.std.proofs.Common.{rules, ◌≡◌, ◌≤◌, ◌+◌, ℕ, All, Bool, List, Option, length, map, sym, ap, subst, ◌∙◌, arith}
use mathlib.Core.List.{map-map}
use Rattle.std.proofs.lemmas.List.{length-map}
use Rattle.cdp_edge.specs.Outside.{IfTold}
use Rattle.cdp_edge_server.specs.Contents.{RisesAt, Tended, adds, any_fault, lowered, raised}
use Rattle.ws_service.specs.Joins.{IsUnstarted}
use Rattle.ws_service.specs.Serving.{IsEndOfDoors, IsServing, ServedDoor, numbers_below}
use Rattle.ws_service.proofs.ServingLemmas.{all-unstarted, as-many, as-many-below, door-failed, initial-numbers, lowered-raised, told-raised}
use Rattle.ws_service.proofs.port.serve_through.Goals as goal

pub sit_down-requires-clause-passes : goal.sit_down-requires-clause-passes
sit_down-requires-clause-passes g c =
    let n = length c.args.passes.items in
    let lock = c.args.lock.now in
    subst (λ l. All (λ p. IsUnstarted lock p) l) (sym c.requires.passes) (all-unstarted lock (n + 1) n)

pub serve_all-ends-requires-clause-numbers : goal.serve_all-ends-requires-clause-numbers
serve_all-ends-requires-clause-numbers g c κs within =
    let n = length c.args.passes.items in
    let desks = c.sit_down.new.desks.items in
    let lock = c.args.lock.now in
    sym (map-map (λ p. p.number) (λ desk. desk.pass) desks)
    ∙ ap (map (λ p. p.number)) (c.sit_down.ensures.passes ∙ c.requires.passes)
    ∙ initial-numbers lock (n + 1) n
    ∙ ap numbers_below
    (sym (sym (length-map desks (λ desk. desk.pass)) ∙ ap length c.sit_down.ensures.passes))

pub give_back-requires-clause-room : goal.give_back-requires-clause-room
give_back-requires-clause-room g c =
    let s = c.serve_all-ends.ensures.serves in
    let count : c.len-count.result ≡ length c.args.passes.items = search rules in
    let desks = c.sit_down.new.desks.items in
    let many = as-many
    (λ door. record {
      faults = g.O.Door.faults door;
      asked = g.O.Door.asked door;
      served = g.O.Door.served door;
      is_out = g.O.Door.is_out door;
    })
    (length desks) c.serve_all-ends.new.doors.items s.0 s.2 s.1.numbers
    ∙ sym (length-map desks (λ desk. desk.pass))
    ∙ ap length c.sit_down.ensures.passes in
    omega (arith, c.in-Ok-with_capacity-2.ensures.capacity, count, many)

pub shut-requires : goal.shut-requires
shut-requires g c =
    let s = c.serve_all-ends.ensures.serves in
    let count : c.len-count.result ≡ length c.args.passes.items = search rules in
    let desks = c.sit_down.new.desks.items in
    let many = as-many
    (λ door. record {
      faults = g.O.Door.faults door;
      asked = g.O.Door.asked door;
      served = g.O.Door.served door;
      is_out = g.O.Door.is_out door;
    })
    (length desks) c.serve_all-ends.new.doors.items s.0 s.2 s.1.numbers
    ∙ sym (length-map desks (λ desk. desk.pass))
    ∙ ap length c.sit_down.ensures.passes in
    let all = as-many-below (λ door. g.P.Door.Door.faults door) (λ door. g.O.Door.faults door) c.give_back.new.below.items c.serve_all-ends.new.doors.items
    c.give_back.ensures.faults ∙ many in
    record {
      out =
          subst (λ (z : Option ℕ × ℕ). IfTold z.0 (λ (out : ℕ). z.1 ≤ out))
          (λ i. (sym c.in_ok-doors.ensures.out i, (count ∙ sym all) i))
          (told-raised (g.P.Harbor.doors_out c.args.harbor.now) c.len-count.result);
    }

pub returns-clause-home : goal.returns-clause-home
returns-clause-home g c =
    let s = c.serve_all-ends.ensures.serves in
    let count : c.len-count.result ≡ length c.args.passes.items = search rules in
    let desks = c.sit_down.new.desks.items in
    let back = c.serve_all-ends.new.doors.items in
    let below = c.give_back.new.below.items in
    let out = g.P.Harbor.doors_out c.args.harbor.now in
    let many = as-many
    (λ door. record {
      faults = g.O.Door.faults door;
      asked = g.O.Door.asked door;
      served = g.O.Door.served door;
      is_out = g.O.Door.is_out door;
    })
    (length desks) back s.0 s.2 s.1.numbers
    ∙ sym (length-map desks (λ desk. desk.pass))
    ∙ ap length c.sit_down.ensures.passes in
    let all = as-many-below (λ door. g.P.Door.Door.faults door) (λ door. g.O.Door.faults door) below back c.give_back.ensures.faults ∙ many in
    c.shut.ensures.home
    ∙ ap (λ o. lowered o (length below)) c.in_ok-doors.ensures.out
    ∙ ap (lowered (raised out c.len-count.result)) (all ∙ sym count)
    ∙ lowered-raised out c.len-count.result

pub returns-clause-serves : goal.returns-clause-serves
returns-clause-serves g c =
    let s = c.serve_all-ends.ensures.serves in
    let desks = c.sit_down.new.desks.items in
    let back = c.serve_all-ends.new.doors.items in
    let as-told : g.row.O.Denot → Tended = λ door. record {
      faults = g.O.Door.faults door;
      asked = g.O.Door.asked door;
      served = g.O.Door.served door;
      is_out = g.O.Door.is_out door;
    } in
    let below-told : g.row.P-Door.Denot → Tended = λ door. record {
      faults = g.P.Door.Door.faults door;
      asked = g.P.Door.Door.asked door;
      served = g.P.Door.Door.served door;
      is_out = g.P.Door.Door.is_out door;
    } in
    let faults = c.give_back.ensures.faults ∙ sym (map-map (λ (t : Tended). t.faults) as-told back)
    ∙ ap (map (λ (t : Tended). t.faults)) s.2
    ∙ map-map (λ (t : Tended). t.faults) (λ (s : ServedDoor). s.door) s.0 in (
      s.0,
      subst
          (λ (n : ℕ). IsServing g.H.Hosted.debugs n (g.C.Clock.moment c.args.clock.now)
          (record { content = g.S.Sink.content c.args.out.now; faults = g.S.Sink.faults c.args.out.now })
          (record {
            content = g.S.Sink.content c.serve_all-ends.new.out;
            faults = g.S.Sink.faults c.serve_all-ends.new.out;
          })
          c.serve_all-ends.result c.serve_all-ends.new.runner.pass.seen s.0)
          (sym (length-map desks (λ desk. desk.pass)) ∙ ap length c.sit_down.ensures.passes) s.1,
      (
        map below-told c.give_back.new.below.items,
        c.shut.ensures.kept ∙ ap (λ k. adds k (map below-told c.give_back.new.below.items)) c.in_ok-doors.ensures.kept,
        c.give_back.ensures.seen ∙ s.2,
      ),
      subst (λ (z : List ℕ × ℕ). RisesAt (any_fault z.0) z.1 (g.P.Harbor.faults c.shut.new.self))
          (λ i. (faults i, c.in_ok-doors.ensures.quiet i)) c.shut.ensures.count,
    )

pub returns-clause-door : goal.returns-clause-door
returns-clause-door g c = λ failed.
    let w = returns-clause-serves g c in
    let any = door-failed g.H.Hosted.debugs c.serve_all-ends.new.runner.pass.seen _ w.0 w.1.served
    (subst (λ e. IsEndOfDoors e (map (λ (s : ServedDoor). s.end) w.0)) failed w.1.ended) in
    subst
    (λ (b : Bool). RisesAt b (g.P.Harbor.faults c.args.harbor.now) (g.P.Harbor.faults c.shut.new.self)) any w.3
