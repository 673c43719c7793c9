use Rattle.js_semantics.specs.Sources.{terms_of_scripts}
use Rattle.js_machine.proofs.PlainLemmas.{plain-reached, plain-counted, started-kept}
use Rattle.js_machine.proofs.plain.run_scripts.Goals as goal

pub run_on-requires : goal.run_on-requires
run_on-requires c =
    started-kept (terms_of_scripts c.args.scripts.now)
    c.args.input.items c.in_ok-machine.field-0 c.in_ok-machine.ensures

pub returns-clause-reached : goal.returns-clause-reached
returns-clause-reached c =
    plain-reached (terms_of_scripts c.args.scripts.now)
    c.args.input.items c.in_ok-machine.field-0 c.run_on.new.machine _ c.args.most c.in_ok-steps.steps
    c.in_ok-machine.ensures c.in_ok-steps.ensures

pub returns-clause-counted : goal.returns-clause-counted
returns-clause-counted c =
    plain-counted (terms_of_scripts c.args.scripts.now)
    c.args.input.items c.in_ok-machine.field-0 c.run_on.new.machine _ c.args.most c.in_ok-steps.steps
    c.in_ok-machine.ensures c.in_ok-steps.ensures
