use Rattle.js_heap.specs.Operators.{not_safe}
use Rattle.js_machine_actions.proofs.FlowLemmas.{result-gives}
use Rattle.js_machine_actions.proofs.strings.unit_or_fail.Goals as goal

pub returns-in_ok-error-in-None : goal.returns-in_ok-error-in-None
returns-in_ok-error-in-None g c =
    rw c.in-None.is
    (result-gives c.in_ok-error-in-None.error not_safe (g.W.World.world c.args.names.now c.args.world.now)
    (g.W.World.world c.args.names.now c.with_result.new.world)
    c.with_result.result c.in_ok-error-in-None.ensures c.with_result.ensures)
