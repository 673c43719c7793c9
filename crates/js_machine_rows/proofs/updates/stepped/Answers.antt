use Rattle.js_machine_rows.proofs.UpdateLemmas.{step-up, step-down}
use Rattle.js_machine_rows.proofs.updates.stepped.Goals as goal

pub returns-in-Increment : goal.returns-in-Increment
returns-in-Increment c =
    step-up c.args.operator c.args.old c.in-Number.field-0 c.quick_result.result c.in-Number.is c.in-Increment.is
    c.quick_result.ensures

pub returns-in-Decrement : goal.returns-in-Decrement
returns-in-Decrement c =
    step-down c.args.operator c.args.old c.in-Number.field-0 c.quick_result-in-Decrement.result c.in-Number.is
    c.in-Decrement.is c.quick_result-in-Decrement.ensures
