use Rattle.js_machine_inspection.proofs.CatchLemmas.{stands-throw, no-throw}
use Rattle.js_machine_inspection.proofs.throws.thrown.Goals as goal

pub returns-in-Stands : goal.returns-in-Stands
returns-in-Stands c =
    λ ts t h. stands-throw ts t c.args.stack.now c.in-Stands.value c.in-Stands.field-1 c.args.point c.catches.result
    c.in-Stands.is c.catches.ensures

pub returns-in_default : goal.returns-in_default
returns-in_default c = λ ts t h. no-throw ts t c.args.stack.now c.args.point c.in_default.not-Stands h
