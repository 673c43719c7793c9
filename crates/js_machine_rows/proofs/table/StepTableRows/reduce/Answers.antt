use Rattle.std.proofs.Common.{Some, None}
use Rattle.js_machine_rows.proofs.ArmLemmas.{same-extra}
use Rattle.js_machine_rows.proofs.table.StepTableRows.reduce.Goals as goal

pub returns-in-None : goal.returns-in-None
returns-in-None g c =
    let ts = c.args.code.now.names.now in
    same-extra ts c.args.code.now.table.now c.args.form c.args.values.now c.args.extra None
    (g.W.World.world ts c.args.world.now)
    (g.W.World.world ts c.frequent.new.world)
    c.args.context.now c.frequent.new.context c.frequent.result c.in-None.is c.frequent.ensures

pub returns-in-Some : goal.returns-in-Some
returns-in-Some g c =
    let ts = c.args.code.now.names.now in
    same-extra ts c.args.code.now.table.now c.args.form c.args.values.now c.args.extra (Some c.in-Some.extra)
    (g.W.World.world ts c.args.world.now) (g.W.World.world ts c.owning.new.world)
    c.args.context.now c.owning.new.context c.owning.result c.in-Some.is c.owning.ensures
