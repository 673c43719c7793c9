use Rattle.js_machine_rows.proofs.SimpleLemmas.{this-acts}
use Rattle.js_machine_rows.proofs.simple.this.Goals as goal

pub returns : goal.returns
returns c = λ ts w t e taken. this-acts ts w c.args.context.now c.this_of.result taken t e c.this_of.ensures
