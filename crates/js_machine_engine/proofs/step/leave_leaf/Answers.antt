use Rattle.std.proofs.Common.{◌∙◌, sym, ap, [], None}
use Rattle.std.proofs.lemmas.Result.{on_ok_weaker}
use Rattle.js_heap.specs.declared.value.Value.TheVariants as values
use Rattle.js_semantics.specs.Terms.{done}
use Rattle.js_semantics.specs.State.{travels, goes, printed_values}
use Rattle.js_machine_actions.specs.Contexts.{state_of}
use Rattle.js_machine_engine.specs.declared.answer.Demand.TheVariants as kinds
use Rattle.js_machine_engine.specs.Answers.{reduced_term}
use Rattle.js_machine_engine.specs.Rows.{redex}
use Rattle.js_machine_engine.specs.Stepping.{demand_of}
use Rattle.js_machine_engine.proofs.ConcludeLemmas.{says-as, went-follows, went-stands, raise-told, effect-told, full-told, goes-on-weaker}
use Rattle.js_machine_engine.proofs.TravelLemmas.{went-stood}
use Rattle.js_machine_engine.proofs.StepLemmas.{told-same, nothing-told}
use Rattle.js_machine_engine.proofs.step.leave_leaf.Goals as goal

pub returns-in-Follows-clause-told : goal.returns-in-Follows-clause-told
returns-in-Follows-clause-told g c = λ taken m h.
    let ts = c.args.code.now.names.now in
    let t = c.args.code.now.table.now in
    let root = c.args.code.now.root in
    let old = c.args.stack.now in
    let r = c.args.reduced in
    let a = demand_of r in
    let w = redex c.args.form [] None in
    let u = state_of (g.W.World.world ts c.args.world.now) c.args.context.now taken in
    went-follows c.follow_leaf.result c.went_of.result ts t root old c.follow_leaf.new.stack c.follow_leaf.new.point m
    (λ names. reduced_term names t w r) u c.went_of.ensures
    (says-as ts t w m r a kinds.Follows u (sym c.demand_of.ensures ∙ c.in-Follows.is) h) c.follow_leaf.ensures.term

pub returns-in-Follows-clause-stands : goal.returns-in-Follows-clause-stands
returns-in-Follows-clause-stands g c =
    goes-on-weaker c.went_of.result (λ k. k c.requires.scoped)
    (went-stands c.follow_leaf.result c.went_of.result c.args.code.now.table.now c.args.code.now.root c.args.stack.now
    c.follow_leaf.new.stack c.follow_leaf.new.point c.went_of.ensures c.follow_leaf.ensures.at
    (on_ok_weaker c.follow_leaf.result (λ k. k c.requires.inner) c.follow_leaf.ensures.scoped))

pub returns-in-Raises-clause-told : goal.returns-in-Raises-clause-told
returns-in-Raises-clause-told g c = λ taken m h.
    let ts = c.args.code.now.names.now in
    let t = c.args.code.now.table.now in
    let root = c.args.code.now.root in
    let old = c.args.stack.now in
    let r = c.args.reduced in
    let a = demand_of r in
    let w = redex c.args.form [] None in
    let u = state_of (g.W.World.world ts c.args.world.now) c.args.context.now taken in
    raise-told ts t root old c.in-Raises.value c.args.context.now (g.W.World.world ts c.args.world.now)
    taken c.raise.result c.raise.new.point m c.raise.ensures
    (says-as ts t w m r a (kinds.Raises c.in-Raises.value) u (sym c.demand_of.ensures ∙ c.in-Raises.is) h)

pub returns-in-Travels-clause-told : goal.returns-in-Travels-clause-told
returns-in-Travels-clause-told g c = λ taken m h.
    let ts = c.args.code.now.names.now in
    let t = c.args.code.now.table.now in
    let root = c.args.code.now.root in
    let old = c.args.stack.now in
    let r = c.args.reduced in
    let a = demand_of r in
    let w = redex c.args.form [] None in
    let u = state_of (g.W.World.world ts c.args.world.now) c.args.context.now taken in
    let v = state_of (g.W.World.world ts c.travel.new.world) c.travel.new.context taken in
    told-same ts t root old c.travel.new.stack c.travel.new.point m (travels c.in-Travels.completion u)
    c.travel.result v
    (says-as ts t w m r a (kinds.Travels c.in-Travels.completion) u (sym c.demand_of.ensures ∙ c.in-Travels.is) h)
    (c.travel.ensures.told taken)

pub returns-in-Resumes-clause-told : goal.returns-in-Resumes-clause-told
returns-in-Resumes-clause-told g c = λ taken m h.
    let ts = c.args.code.now.names.now in
    let t = c.args.code.now.table.now in
    let root = c.args.code.now.root in
    let old = c.args.stack.now in
    let r = c.args.reduced in
    let a = demand_of r in
    let w = redex c.args.form [] None in
    let u = state_of (g.W.World.world ts c.args.world.now) c.args.context.now taken in
    nothing-told ts t root old c.give.new.stack c.give.new.point m c.went_of-in-Resumes.result c.give.result u
    c.went_of-in-Resumes.ensures
    (says-as ts t w m r a kinds.Resumes u (sym c.demand_of.ensures ∙ c.in-Resumes.is) h) c.give.ensures.term

pub returns-in-Resumes-clause-stands : goal.returns-in-Resumes-clause-stands
returns-in-Resumes-clause-stands g c =
    went-stood c.give.result c.went_of-in-Resumes.result c.args.code.now.table.now c.args.code.now.root
    c.args.stack.now c.give.new.stack
    c.give.new.point c.went_of-in-Resumes.ensures c.give.ensures.at c.give.ensures.scoped c.requires.scoped

pub returns-in-Prints-clause-told : goal.returns-in-Prints-clause-told
returns-in-Prints-clause-told g c = λ taken m h.
    let ts = c.args.code.now.names.now in
    let t = c.args.code.now.table.now in
    let root = c.args.code.now.root in
    let old = c.args.stack.now in
    let r = c.args.reduced in
    let a = demand_of r in
    let w = redex c.args.form [] None in
    let u = state_of (g.W.World.world ts c.args.world.now) c.args.context.now taken in
    told-same ts t root old c.print.new.stack c.print.new.point m
    (goes (done values.Undefined) u (printed_values c.new.result.items)) c.print.result u
    (says-as ts t w m r a kinds.Prints u (sym c.demand_of.ensures ∙ c.in-Prints.is) h
    ∙ ap (λ vs. goes (done values.Undefined) u (printed_values vs)) (sym c.new.ensures.items))
    (c.print.ensures.told ts root u)

pub returns-in-Prints-clause-stands : goal.returns-in-Prints-clause-stands
returns-in-Prints-clause-stands g c =
    goes-on-weaker c.print.result (λ k. k c.args.code.now.root c.requires.scoped) c.print.ensures.stands

pub returns-in-Effect-clause-told : goal.returns-in-Effect-clause-told
returns-in-Effect-clause-told g c = λ taken m h.
    let ts = c.args.code.now.names.now in
    let t = c.args.code.now.table.now in
    let root = c.args.code.now.root in
    let old = c.args.stack.now in
    let r = c.args.reduced in
    let a = demand_of r in
    let w = redex c.args.form [] None in
    let u = state_of (g.W.World.world ts c.args.world.now) c.args.context.now taken in
    effect-told ts t root old old c.args.point.now m u
    (says-as ts t w m r a kinds.Effect u (sym c.demand_of.ensures ∙ c.in-Effect.is) h)

pub returns-in-Full-clause-told : goal.returns-in-Full-clause-told
returns-in-Full-clause-told g c = λ taken m h.
    let ts = c.args.code.now.names.now in
    let t = c.args.code.now.table.now in
    let root = c.args.code.now.root in
    let old = c.args.stack.now in
    let r = c.args.reduced in
    let a = demand_of r in
    let w = redex c.args.form [] None in
    let u = state_of (g.W.World.world ts c.args.world.now) c.args.context.now taken in
    full-told ts t root old old c.args.point.now c.in-Full.what m u
    (says-as ts t w m r a (kinds.Full c.in-Full.what) u (sym c.demand_of.ensures ∙ c.in-Full.is) h)
