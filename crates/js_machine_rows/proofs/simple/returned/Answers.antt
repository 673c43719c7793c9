use Rattle.js_semantics.specs.BuiltIns.{argument}
use Rattle.js_machine_rows.proofs.SimpleLemmas.{returned-acts}
use Rattle.js_machine_rows.proofs.simple.returned.Goals as goal

pub returns : goal.returns
returns c = λ ts w d. returned-acts ts w d c.argument.result (argument c.args.values.now 0) c.argument.ensures
