use Rattle.std.proofs.Common.{sym, ◌∙◌}
use Rattle.js_machine_actions.specs.Contexts.{state_of}
use Rattle.js_machine_engine.proofs.RunLemmas.{going, done-asks, going-asks}
use Rattle.js_machine_engine.proofs.run.stops_at.Goals as goal

pub returns-in-Done : goal.returns-in-Done
returns-in-Done g c =
    λ ts w taken. done-asks (g.H.StopTest.stops c.args.host.now) ts c.args.table.now c.args.stack.now c.args.point.now _
    (state_of w c.args.context.now taken) (sym c.get.ensures ∙ c.in-Done.is) c.requires.at

pub returns-in_default : goal.returns-in_default
returns-in_default g c =
    λ ts w taken. (rw c.get.ensures at (c.asks.ensures ts))
    ∙ going-asks (g.H.StopTest.stops c.args.host.now) ts c.args.table.now c.args.stack.now c.args.point.now
    (state_of w c.args.context.now taken) c.requires.at (going c.args.point.now (λ v e. c.in_default.not-Done v (c.get.ensures ∙ e)))
