use Rattle.js_machine_actions.specs.Contexts.{state_of}
use Rattle.js_machine_engine.proofs.ConcludeLemmas.{goes-on-weaker}
use Rattle.js_machine_engine.proofs.TravelLemmas.{at-scopes, catch-told}
use Rattle.js_machine_engine.proofs.travelling.catch_throw.Goals as goal

pub returns-clause-told : goal.returns-clause-told
returns-clause-told g c = λ taken.
    let ts = c.args.code.now.names.now in
    let w = g.W.World.world ts c.catch-reduced.new.world in
    catch-told ts c.args.code.now.table.now c.args.code.now.root c.args.stack.now c.set_at.new.self c.conclude.new.stack
    c.conclude.new.point c.in-Some.task c.args.completion c.args.thrown c.catch-reduced.result c.demand_of.result
    c.conclude.result
    (state_of (g.W.World.world ts c.args.world.now) c.args.context.now taken) (state_of w c.args.context.now taken)
    c.in-Some.ensures.some c.in-Some.ensures.owned c.requires.takes c.requires.scoped c.set_at.ensures
    c.demand_of.ensures
    (λ outer place vs. c.catch-reduced.ensures outer place vs taken)
    (λ m h. c.conclude.ensures.told ts m w taken h)

pub returns-clause-stands : goal.returns-clause-stands
returns-clause-stands g c =
    goes-on-weaker c.conclude.result
    (λ h. h (at-scopes c.args.code.now.table.now c.args.code.now.root c.args.stack.now c.set_at.new.self
    c.in-Some.task.mid
    c.set_at.ensures c.requires.scoped))
    c.conclude.ensures.stands
