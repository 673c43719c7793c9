use Rattle.js_machine_rows.proofs.StatementLemmas.{catch-plain}
use Rattle.js_machine_rows.proofs.statements.catch_nameless.Goals as goal

pub returns : goal.returns
returns c =
    catch-plain c.args.table.now c.args.form.inner c.args.form.mid c.args.form.end c.part_at.result c.uncovered.result
    c.part_at.ensures c.uncovered.ensures
