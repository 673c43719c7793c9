use Rattle.js_machine_rows.proofs.LoopLemmas.{first-none, first-copied}
use Rattle.js_machine_rows.proofs.loops.loop_first.Goals as goal

pub returns-then-info-eq0 : goal.returns-then-info-eq0
returns-then-info-eq0 g c =
    first-none c.args.names.now c.args.info c.args.inner (g.W.World.world c.args.names.now c.args.world.now)
    c.if-info-eq0.true

pub returns : goal.returns
returns g c =
    first-copied c.args.names.now c.args.info c.args.inner (g.W.World.world c.args.names.now c.args.world.now)
    (g.W.World.world c.args.names.now c.copied.new.world)
    c.copied.result c.tests_in.result c.if-info-eq0.false c.copied.ensures c.tests_in.ensures
