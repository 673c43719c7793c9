use Rattle.js_semantics.specs.BuiltIns.{argument}
use Rattle.js_semantics.specs.declared.form.Mark.TheVariants.{Start as at_start}
use Rattle.js_machine_rows.proofs.SimpleLemmas.{thrown-acts}
use Rattle.js_machine_rows.proofs.simple.throw.Goals as goal

pub returns : goal.returns
returns c =
    λ ts w. thrown-acts ts w c.args.context.now c.set_here.new.self (at_start c.args.node) c.argument.result
    (argument c.args.values.now 0) c.argument.ensures c.set_here.ensures
