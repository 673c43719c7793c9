use Rattle.std.proofs.Common.{refl, None}
use Rattle.js_machine_actions.specs.Contexts.{state_of}
use Rattle.js_machine_engine.specs.Answers.{resumed}
use Rattle.js_machine_engine.specs.Tasks.{kept_of}
use Rattle.js_machine_engine.specs.Following.{innermost}
use Rattle.js_machine_engine.proofs.FollowLemmas.{scopes-popped}
use Rattle.js_machine_engine.proofs.TravelLemmas.{went-stood}
use Rattle.js_machine_engine.proofs.StepLemmas.{told-behind, resumed-as, nothing-told}
use Rattle.js_machine_engine.proofs.step.resume.Goals as goal

pub returns-in-None-clause-told : goal.returns-in-None-clause-told
returns-in-None-clause-told g c = λ taken.
    let ts = c.args.code.now.names.now in
    let t = c.args.code.now.table.now in
    let old = c.args.stack.now in
    let s = state_of (g.W.World.world ts c.args.world.now) c.args.context.now taken in
    told-behind ts t c.args.code.now.root old c.pop.new.self c.give.new.stack c.give.new.point
    (resumed (kept_of (innermost old).extra) s) (resumed None s) c.went_of.result s c.pop.ensures.outer
    (resumed-as old c.extra.result c.kept_of-kept.result None s c.extra.ensures c.kept_of-kept.ensures c.in-None.is)
    (nothing-told ts t c.args.code.now.root c.pop.new.self c.give.new.stack c.give.new.point (resumed None s)
    c.went_of.result c.give.result s c.went_of.ensures refl c.give.ensures.term)

pub returns-in-None-clause-stands : goal.returns-in-None-clause-stands
returns-in-None-clause-stands g c =
    went-stood c.give.result c.went_of.result c.args.code.now.table.now c.args.code.now.root c.pop.new.self
    c.give.new.stack
    c.give.new.point c.went_of.ensures c.give.ensures.at c.give.ensures.scoped
    (scopes-popped c.args.code.now.table.now c.args.code.now.root c.args.stack.now c.pop.new.self c.pop.ensures.outer
    c.requires.scoped)
