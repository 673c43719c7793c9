use Rattle.js_machine_rows.proofs.LoopLemmas.{test-reply}
use Rattle.js_machine_rows.proofs.loops.loop_test.Goals as goal

pub returns : goal.returns
returns g c =
    test-reply c.args.names.now (g.W.World.world c.args.names.now c.args.world.now)
    c.is_truthy.result c.only.result c.args.values.now c.tested.result c.is_truthy.ensures c.only.ensures
    c.tested.ensures
