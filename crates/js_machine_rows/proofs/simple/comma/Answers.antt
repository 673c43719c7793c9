use Rattle.js_machine_rows.proofs.SimpleLemmas.{comma-none, comma-one, comma-more}
use Rattle.js_machine_rows.proofs.simple.comma.Goals as goal

pub returns-in-Some-part_at : goal.returns-in-Some-part_at
returns-in-Some-part_at c =
    comma-more c.args.table.now c.args.form.mid c.args.form.end c.in-Some.part c.in-Some-part_at.field-0
    c.in-Some.ensures c.in-Some-part_at.ensures

pub returns-in-None-part_at : goal.returns-in-None-part_at
returns-in-None-part_at c =
    comma-one c.args.table.now c.args.form.mid c.args.form.end c.in-Some.part c.in-Some.ensures
    c.in-None-part_at.ensures

pub returns-in-None : goal.returns-in-None
returns-in-None c = comma-none c.args.table.now c.args.form.mid c.args.form.end c.in-None.ensures
