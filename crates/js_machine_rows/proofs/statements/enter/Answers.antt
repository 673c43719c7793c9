use Rattle.js_machine_rows.proofs.StatementLemmas.{enter-part, enter-none}
use Rattle.js_machine_rows.proofs.statements.enter.Goals as goal

pub returns-in-Some : goal.returns-in-Some
returns-in-Some c =
    enter-part c.args.table.now c.args.form.info c.args.form.mid c.args.form.end c.in-Some.entered c.args.context.now
    c.set_here.new.self c.in-Some.ensures c.set_here.ensures

pub returns-in-None : goal.returns-in-None
returns-in-None c =
    enter-none c.args.table.now c.args.form.info c.args.form.mid c.args.form.end c.args.context.now c.in-None.ensures
