use Rattle.js_machine_rows.proofs.ArmLemmas.{without-row}
use Rattle.js_machine_rows.proofs.table.compound.Goals as goal

pub returns-in-None : goal.returns-in-None
returns-in-None g c =
    without-row c.args.code.now.names.now c.args.code.now.table.now c.args.form c.args.values.now
    (g.W.World.world c.args.code.now.names.now c.args.world.now)
    c.args.context.now c.requires c.in-None.ensures
