use Rattle.js_heap.specs.declared.value.Value.TheVariants as values
use Rattle.js_heap.specs.declared.cell.Cell.TheVariants as cells
use Rattle.js_semantics.specs.State.{make, give}
use Rattle.js_machine_rows.proofs.AnswerLemmas.{replies-by}
use Rattle.js_machine_rows.proofs.literals.array.Goals as goal

pub returns : goal.returns
returns g c =
    replies-by c.args.names.now (make (cells.Array c.args.values.now) (λ a. give (values.Object a)))
    (g.W.World.world c.args.names.now c.args.world.now) c.array_of.result
    (g.W.World.world c.args.names.now c.array_of.new.world) c.replied.result c.array_of.ensures c.replied.ensures
