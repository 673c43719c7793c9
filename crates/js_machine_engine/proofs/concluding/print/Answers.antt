use Rattle.js_machine_engine.proofs.ConcludeLemmas.{printed-told}
use Rattle.js_machine_engine.proofs.concluding.print.Goals as goal

pub returns-in-Ok-clause-told : goal.returns-in-Ok-clause-told
returns-in-Ok-clause-told c =
    λ ts root s. printed-told ts c.args.table.now root c.args.stack.now c.give.new.stack c.give.new.point c.args.printed
    s
    (c.in-Ok.ensures.term ts)

pub returns-in-Ok-clause-stands : goal.returns-in-Ok-clause-stands
returns-in-Ok-clause-stands c = λ root s. record { at = c.in-Ok.ensures.at; scoped = c.in-Ok.ensures.scoped root s }
