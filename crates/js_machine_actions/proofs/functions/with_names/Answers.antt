use Rattle.js_machine_actions.proofs.LoopLemmas.{names-step, names-stop}
use Rattle.js_machine_actions.proofs.functions.with_names.Goals as goal

pub returns-in_err-declare : goal.returns-in_err-declare
returns-in_err-declare g c =
    names-stop c.args.scope c.args.names.now c.args.slots.now c.loop-slot.slot-index _
    (g.W.World.world c.args.names.now c.args.world.now) (g.W.World.world c.args.names.now c.loop-slot.world)
    (g.W.World.world c.args.names.now c.declare.new.world)
    c.from_residual.result c.in_err-declare.field-0.0 c.loop-slot-test.true c.loop-slot.invariant
    c.in_err-declare.ensures c.from_residual.ensures.1

pub loop-slot-preserved : goal.loop-slot-preserved
loop-slot-preserved g c =
    names-step c.args.scope c.args.names.now c.args.slots.now c.loop-slot.slot-index _
    (g.W.World.world c.args.names.now c.args.world.now) (g.W.World.world c.args.names.now c.loop-slot.world)
    (g.W.World.world c.args.names.now c.declare.new.world)
    c.loop-slot-test.true c.loop-slot.invariant c.in_ok-declare.ensures
