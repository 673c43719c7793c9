use Rattle.js_semantics.specs.BuiltIns.{last_of}
use Rattle.js_machine_rows.proofs.SimpleLemmas.{given-acts}
use Rattle.js_machine_rows.proofs.simple.last.Goals as goal

pub returns : goal.returns
returns c = λ ts w d. given-acts ts w d c.last_of.result (last_of c.args.values.now) c.last_of.ensures
