use Rattle.js_machine_rows.proofs.StatementLemmas.{either-else, either-then}
use Rattle.js_machine_rows.proofs.statements.either.Goals as goal

pub returns-else-is_truthy : goal.returns-else-is_truthy
returns-else-is_truthy g c =
    either-else c.args.code.now.names.now c.args.code.now.table.now
    (g.W.World.world c.args.code.now.names.now c.args.world.now)
    c.only-value.result c.args.values.now c.args.form.mid c.args.form.end c.part_at.result c.gone_to.result
    c.if-is_truthy.ensures c.only-value.ensures c.part_at.ensures c.gone_to.ensures

pub returns-then-is_truthy : goal.returns-then-is_truthy
returns-then-is_truthy g c =
    either-then c.args.code.now.names.now c.args.code.now.table.now
    (g.W.World.world c.args.code.now.names.now c.args.world.now)
    c.only-value.result c.args.values.now c.args.form.mid c.args.form.end c.if-is_truthy.ensures c.only-value.ensures
