use Rattle.js_heap.specs.declared.value.Value.TheVariants as values
use Rattle.js_machine_rows.proofs.LiteralLemmas.{keyed-yields}
use Rattle.js_machine_rows.proofs.literals.keyed_method.Goals as goal

pub returns : goal.returns
returns g c =
    keyed-yields c.args.names.now c.args.entry.now c.in_ok-new.field-0.value c.args.key c.args.scope values.Undefined
    c.in_ok-count.count
    (g.W.World.world c.args.names.now c.args.world.now) c.make_function.result
    (g.W.World.world c.args.names.now c.make_function.new.world)
    c.in_ok-count.ensures c.in_ok-new.ensures.ok c.make_function.ensures
