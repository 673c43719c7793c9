use Rattle.js_machine_rows.proofs.LoopLemmas.{body-none, body-copied}
use Rattle.js_machine_rows.proofs.loops.loop_body.Goals as goal

pub returns-then-info-eq0 : goal.returns-then-info-eq0
returns-then-info-eq0 g c =
    body-none c.args.names.now c.args.info c.args.inner (g.W.World.world c.args.names.now c.args.world.now)
    c.if-info-eq0.true

pub returns : goal.returns
returns g c =
    body-copied c.args.names.now c.args.info c.args.inner (g.W.World.world c.args.names.now c.args.world.now)
    (g.W.World.world c.args.names.now c.copied.new.world)
    c.copied.result c.updates_in.result c.if-info-eq0.false c.copied.ensures c.updates_in.ensures
