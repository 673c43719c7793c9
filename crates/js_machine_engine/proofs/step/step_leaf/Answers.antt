use Rattle.std.proofs.Common.{sym, refl, [], None}
use Rattle.js_machine_actions.specs.Contexts.{state_of}
use Rattle.js_machine_engine.specs.Rows.{redex}
use Rattle.js_machine_engine.specs.Stepping.{demand_of, told_by}
use Rattle.js_machine_engine.proofs.ConcludeLemmas.{gives-told, uncovers-told, went-stands, goes-on-weaker}
use Rattle.js_machine_engine.proofs.TravelLemmas.{went-stood}
use Rattle.js_machine_engine.proofs.StepLemmas.{node_redex, leaf-told, leaf-scope}
use Rattle.js_machine_engine.proofs.step.step_leaf.Goals as goal

pub returns-in-Gives-clause-told : goal.returns-in-Gives-clause-told
returns-in-Gives-clause-told g c = λ taken.
    let ts = c.args.code.now.names.now in
    let t = c.args.code.now.table.now in
    let root = c.args.code.now.root in
    let old = c.args.stack.now in
    let r = c.reduce-reduced.result in
    let w = redex (node_redex c.in-Some.node c.scope.result) [] None in
    let s = state_of (g.W.World.world ts c.args.world.now) c.args.context.now taken in
    let u = state_of (g.W.World.world ts c.reduce-reduced.new.world) c.reduce-reduced.new.context taken in
    leaf-told ts t root old c.give.new.stack c.give.new.point c.args.n c.in-Some.node c.scope.result r (demand_of r)
    (told_by c.has_gone.result c.has_gone.new.told) s u u c.requires.table (sym c.in-Some.ensures)
    c.requires.leaf c.scope.ensures c.requires.scoped refl
    (λ outer. c.reduce-reduced.ensures outer taken)
    (λ m h. gives-told c.give.result (told_by c.has_gone.result c.has_gone.new.told) ts t root old
    c.give.new.stack c.give.new.point m w r
    c.in-Gives.value u c.has_gone.ensures c.in-Gives.is h c.give.ensures.term)

pub returns-in-Gives-clause-stands : goal.returns-in-Gives-clause-stands
returns-in-Gives-clause-stands g c =
    went-stood c.give.result (told_by c.has_gone.result c.has_gone.new.told)
    c.args.code.now.table.now c.args.code.now.root c.args.stack.now
    c.give.new.stack
    c.give.new.point c.has_gone.ensures c.give.ensures.at c.give.ensures.scoped c.requires.scoped

pub returns-in-Uncovers-clause-told : goal.returns-in-Uncovers-clause-told
returns-in-Uncovers-clause-told g c = λ taken.
    let ts = c.args.code.now.names.now in
    let t = c.args.code.now.table.now in
    let root = c.args.code.now.root in
    let old = c.args.stack.now in
    let r = c.reduce-reduced.result in
    let w = redex (node_redex c.in-Some.node c.scope.result) [] None in
    let s = state_of (g.W.World.world ts c.args.world.now) c.args.context.now taken in
    let u = state_of (g.W.World.world ts c.reduce-reduced.new.world) c.reduce-reduced.new.context taken in
    leaf-told ts t root old c.uncover_part.new.stack c.uncover_part.new.point c.args.n c.in-Some.node c.scope.result r
    (demand_of r) (told_by c.has_gone-in-Uncovers.result c.has_gone-in-Uncovers.new.told) s u u
    c.requires.table (sym c.in-Some.ensures)
    c.requires.leaf c.scope.ensures c.requires.scoped refl
    (λ outer. c.reduce-reduced.ensures outer taken)
    (λ m h. uncovers-told c.uncover_part.result
    (told_by c.has_gone-in-Uncovers.result c.has_gone-in-Uncovers.new.told) ts t root old
    c.uncover_part.new.stack c.uncover_part.new.point m w r c.in-Uncovers.node u c.has_gone-in-Uncovers.ensures c.in-Uncovers.is h
    c.uncover_part.ensures.term)

pub returns-in-Uncovers-clause-stands : goal.returns-in-Uncovers-clause-stands
returns-in-Uncovers-clause-stands g c =
    goes-on-weaker (told_by c.has_gone-in-Uncovers.result c.has_gone-in-Uncovers.new.told) (λ k. k c.requires.scoped)
    (went-stands c.uncover_part.result
    (told_by c.has_gone-in-Uncovers.result c.has_gone-in-Uncovers.new.told)
    c.args.code.now.table.now c.args.code.now.root c.args.stack.now
    c.uncover_part.new.stack c.uncover_part.new.point c.has_gone-in-Uncovers.ensures c.uncover_part.ensures.at
    c.uncover_part.ensures.scoped)

pub tell_leaf-requires-clause-inner : goal.tell_leaf-requires-clause-inner
tell_leaf-requires-clause-inner g c =
    leaf-scope c.args.code.now.table.now c.args.n c.in-Some.node c.scope.result c.args.code.now.root c.args.stack.now
    c.requires.table
    (sym c.in-Some.ensures) c.scope.ensures

pub returns-in_default-reduced : goal.returns-in_default-reduced
returns-in_default-reduced g c = record {
  told = λ taken.
      let ts = c.args.code.now.names.now in
      let t = c.args.code.now.table.now in
      let r = c.reduce-reduced.result in
      let s = state_of (g.W.World.world ts c.args.world.now) c.args.context.now taken in
      let u = state_of (g.W.World.world ts c.reduce-reduced.new.world) c.reduce-reduced.new.context taken in
      let v = state_of (g.W.World.world ts c.tell_leaf.new.world) c.tell_leaf.new.context taken in
      leaf-told ts t c.args.code.now.root c.args.stack.now c.tell_leaf.new.stack c.tell_leaf.new.point c.args.n
      c.in-Some.node
      c.scope.result r
      (demand_of r) c.tell_leaf.new.told s u v c.requires.table (sym c.in-Some.ensures)
      c.requires.leaf c.scope.ensures c.requires.scoped refl
      (λ outer. c.reduce-reduced.ensures outer taken)
      (λ m h. c.tell_leaf.ensures.told taken m h);
  stands = c.tell_leaf.ensures.stands;
}
