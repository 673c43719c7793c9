use Rattle.std.proofs.Common.{refl}
use Rattle.js_machine_actions.specs.Contexts.{state_of}
use Rattle.js_machine_engine.specs.declared.reduced.Reduced.TheVariants as reduced
use Rattle.js_machine_engine.specs.Answers.{reduced_term}
use Rattle.js_machine_engine.specs.Stacks.{outer_of}
use Rattle.js_machine_engine.specs.Following.{innermost}
use Rattle.js_machine_engine.specs.Stepping.{demand_of, told_by}
use Rattle.js_machine_engine.proofs.ConcludeLemmas.{says-of, went-follows, went-stands, goes-on-weaker}
use Rattle.js_machine_engine.proofs.StepLemmas.{row-told}
use Rattle.js_machine_engine.proofs.step.step_row.Goals as goal

pub returns-in-Gives-clause-told : goal.returns-in-Gives-clause-told
returns-in-Gives-clause-told g c = λ taken.
    let ts = c.args.code.now.names.now in
    let t = c.args.code.now.table.now in
    let root = c.args.code.now.root in
    let old = c.args.stack.now in
    let r = c.reduce-reduced.result in
    let v = reduced.Gives c.in-Gives.value in
    let s = state_of (g.W.World.world ts c.args.world.now) c.args.context.now taken in
    let u = state_of (g.W.World.world ts c.reduce-reduced.new.world) c.reduce-reduced.new.context taken in
    row-told ts t root old c.follow_value.new.stack c.follow_value.new.point c.in-Some.task c.values.result.now
    c.extra-extra.result r
    (demand_of r)
    (told_by c.has_gone.result c.has_gone.new.told) s u u
    c.in-Some.ensures.some c.requires.row c.requires.scoped c.values.ensures
    c.extra-extra.ensures refl
    (λ outer. c.reduce-reduced.ensures outer taken)
    (λ m h. went-follows c.follow_value.result (told_by c.has_gone.result c.has_gone.new.told) ts t root (outer_of old)
    c.follow_value.new.stack c.follow_value.new.point m (λ names. reduced_term names t (innermost old) v)
    u c.has_gone.ensures (says-of ts t (innermost old) m r v u c.in-Gives.is h) c.follow_value.ensures.term)

pub returns-in-Gives-clause-stands : goal.returns-in-Gives-clause-stands
returns-in-Gives-clause-stands g c =
    goes-on-weaker (told_by c.has_gone.result c.has_gone.new.told) (λ k. k c.requires.scoped)
    (went-stands c.follow_value.result (told_by c.has_gone.result c.has_gone.new.told)
    c.args.code.now.table.now c.args.code.now.root c.args.stack.now
    c.follow_value.new.stack c.follow_value.new.point c.has_gone.ensures c.follow_value.ensures.at
    c.follow_value.ensures.scoped)

pub returns-in_default-reduced : goal.returns-in_default-reduced
returns-in_default-reduced g c = record {
  told = λ taken.
      let ts = c.args.code.now.names.now in
      let r = c.reduce-reduced.result in
      let s = state_of (g.W.World.world ts c.args.world.now) c.args.context.now taken in
      let u = state_of (g.W.World.world ts c.reduce-reduced.new.world) c.reduce-reduced.new.context taken in
      let v = state_of (g.W.World.world ts c.tell_row.new.world) c.tell_row.new.context taken in
      row-told ts c.args.code.now.table.now c.args.code.now.root c.args.stack.now c.tell_row.new.stack
      c.tell_row.new.point
      c.in-Some.task c.values.result.now c.extra-extra.result r
      (demand_of r)
      c.tell_row.new.told s u v c.in-Some.ensures.some c.requires.row c.requires.scoped c.values.ensures
      c.extra-extra.ensures refl
      (λ outer. c.reduce-reduced.ensures outer taken)
      (λ m h. c.tell_row.ensures.told taken m h);
  stands = c.tell_row.ensures.stands;
}
