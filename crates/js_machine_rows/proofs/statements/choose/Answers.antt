use Rattle.std.proofs.Common.{true, false}
use Rattle.js_machine_rows.proofs.StatementLemmas.{choose-reply}
use Rattle.js_machine_rows.proofs.statements.choose.Goals as goal

pub returns-then-is_truthy : goal.returns-then-is_truthy
returns-then-is_truthy g c =
    choose-reply c.args.code.now.names.now c.args.code.now.table.now
    (g.W.World.world c.args.code.now.names.now c.args.world.now)
    true c.only.result c.args.values.now c.args.form.mid c.args.form.end c.part_at.result c.uncovered.result
    c.if-is_truthy.ensures c.only.ensures c.part_at.ensures c.uncovered.ensures

pub returns-else-is_truthy : goal.returns-else-is_truthy
returns-else-is_truthy g c =
    choose-reply c.args.code.now.names.now c.args.code.now.table.now
    (g.W.World.world c.args.code.now.names.now c.args.world.now)
    false c.only.result c.args.values.now c.args.form.mid c.args.form.end c.part_at-else-is_truthy.result
    c.uncovered-else-is_truthy.result c.if-is_truthy.ensures c.only.ensures c.part_at-else-is_truthy.ensures
    c.uncovered-else-is_truthy.ensures
