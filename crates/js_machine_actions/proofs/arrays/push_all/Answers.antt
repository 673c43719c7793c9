use Rattle.js_machine_actions.proofs.LoopLemmas.{push-stop}
use Rattle.js_machine_actions.proofs.arrays.push_all.Goals as goal

pub returns-in_err-put_element : goal.returns-in_err-put_element
returns-in_err-put_element g c =
    push-stop c.args.a c.args.len c.loop-value.index c.args.values.now c.loop-value.value-index
    (g.W.World.world c.args.names.now c.args.world.now) (g.W.World.world c.args.names.now c.loop-value.world)
    (g.W.World.world c.args.names.now c.put_element.new.world)
    c.from_residual.result c.in_err-put_element.field-0.0 c.loop-value-test.true c.loop-value.invariant
    c.in_err-put_element.ensures c.from_residual.ensures.1
