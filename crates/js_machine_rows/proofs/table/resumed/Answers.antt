use Rattle.js_machine_rows.proofs.ArmLemmas.{resumed-row}
use Rattle.js_machine_rows.proofs.table.resumed.Goals as goal

pub returns-in-Ending : goal.returns-in-Ending
returns-in-Ending c =
    λ ts t vs v d. resumed-row ts t c.args.form vs c.args.completion v d c.in-Ending.is
