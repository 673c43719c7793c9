use Rattle.std.proofs.Common.{sym, ◌∙◌}
use Rattle.js_machine_actions.specs.Contexts.{state_of}
use Rattle.js_semantics.specs.State.{travels}
use Rattle.js_machine_engine.specs.declared.answer.Demand.TheVariants as kinds
use Rattle.js_machine_engine.specs.Answers.{resumed}
use Rattle.js_machine_engine.specs.Tasks.{kept_of}
use Rattle.js_machine_engine.specs.Stacks.{outer_of}
use Rattle.js_machine_engine.specs.Following.{innermost}
use Rattle.js_machine_engine.specs.Stepping.{demand_of}
use Rattle.js_machine_engine.proofs.ConcludeLemmas.{says-as, goes-on-weaker}
use Rattle.js_machine_engine.proofs.StepLemmas.{told-same, told-behind}
use Rattle.js_machine_engine.proofs.step.leave_row.Goals as goal

pub returns-in-Travels-clause-told : goal.returns-in-Travels-clause-told
returns-in-Travels-clause-told g c = λ taken m h.
    let ts = c.args.code.now.names.now in
    let t = c.args.code.now.table.now in
    let root = c.args.code.now.root in
    let old = c.args.stack.now in
    let r = c.args.reduced in
    let a = demand_of r in
    let u = state_of (g.W.World.world ts c.args.world.now) c.args.context.now taken in
    let v = state_of (g.W.World.world ts c.travel.new.world) c.travel.new.context taken in
    let x = c.in-Travels.completion in
    told-behind ts t root old c.pop.new.self c.travel.new.stack c.travel.new.point m (travels x u)
    c.travel.result v c.pop.ensures.outer
    (says-as ts t (innermost old) m r a (kinds.Travels x) u (sym c.demand_of.ensures ∙ c.in-Travels.is) h)
    (c.travel.ensures.told taken)

pub returns-in-Resumes-clause-told : goal.returns-in-Resumes-clause-told
returns-in-Resumes-clause-told g c = λ taken m h.
    let ts = c.args.code.now.names.now in
    let t = c.args.code.now.table.now in
    let root = c.args.code.now.root in
    let old = c.args.stack.now in
    let r = c.args.reduced in
    let a = demand_of r in
    let u = state_of (g.W.World.world ts c.args.world.now) c.args.context.now taken in
    let v = state_of (g.W.World.world ts c.resume.new.world) c.resume.new.context taken in
    told-same ts t root (outer_of old) c.resume.new.stack c.resume.new.point m
    (resumed (kept_of (innermost old).extra) u) c.resume.result v
    (says-as ts t (innermost old) m r a kinds.Resumes u (sym c.demand_of.ensures ∙ c.in-Resumes.is) h)
    (c.resume.ensures.told taken)

pub returns-in_default : goal.returns-in_default
returns-in_default g c = record {
  told = λ taken m h.
      let ts = c.args.code.now.names.now in
      let t = c.args.code.now.table.now in
      let r = c.args.reduced in
      let u = state_of (g.W.World.world ts c.args.world.now) c.args.context.now taken in
      c.conclude.ensures.told ts m (g.W.World.world ts c.args.world.now) taken
      (says-as ts t (innermost c.args.stack.now) m r (demand_of r) c.demand_of.result u (sym c.demand_of.ensures)
      h);
  stands = goes-on-weaker c.conclude.result (λ k. k c.requires.scoped) c.conclude.ensures.stands;
}
