use Rattle.js_machine_rows.proofs.ArmLemmas.{body-of-row}
use Rattle.js_machine_rows.proofs.table.turn_done.Goals as goal

pub returns-in-Some : goal.returns-in-Some
returns-in-Some c =
    λ ts x v d h. body-of-row ts c.args.table.now c.args.form c.args.values.now x c.in-Some.field-0 v d c.last.result h
    c.in-Some.ensures c.last.ensures
