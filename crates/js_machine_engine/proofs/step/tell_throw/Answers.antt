use Rattle.std.proofs.Common.{sym, ◌∙◌}
use Rattle.js_machine_actions.specs.Contexts.{state_of}
use Rattle.js_machine_engine.proofs.StepLemmas.{standing-told}
use Rattle.js_machine_engine.proofs.step.tell_throw.Goals as goal

pub returns-in-Stands-clause-told : goal.returns-in-Stands-clause-told
returns-in-Stands-clause-told g c = λ taken.
    let ts = c.args.code.now.names.now in
    standing-told ts c.args.code.now.table.now c.args.code.now.root c.args.stack.now c.travel.new.stack
    c.travel.new.point
    c.args.point.now c.in-Stands.value c.in-Stands.place c.travel.result
    (state_of (g.W.World.world ts c.args.world.now) c.args.context.now taken)
    (state_of (g.W.World.world ts c.travel.new.world) c.travel.new.context taken)
    (sym c.get.ensures ∙ c.in-Stands.is) (c.travel.ensures.told taken)
