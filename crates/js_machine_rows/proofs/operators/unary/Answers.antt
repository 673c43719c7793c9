use Rattle.std.proofs.Common.{subst}
use Rattle.js_heap.specs.declared.value.Value.{Value}
use Rattle.js_semantics.specs.State.{give}
use Rattle.js_semantics.specs.References.{with_result}
use Rattle.js_machine_rows.specs.Does.{Replies}
use Rattle.js_machine_rows.proofs.AnswerLemmas.{result-reply}
use Rattle.js_heap.specs.Operators.{unary_result}
use Rattle.js_machine_rows.proofs.operators.unary.Goals as goal

pub returns : goal.returns
returns g c =
    let ts = c.args.names.now in
    let v = g.W.World.world c.args.names.now c.args.world.now in
    let w = g.W.World.world c.args.names.now c.unary_value.new.world in
    let P : Value
    → Type 0 = λ x. Replies ts (with_result (unary_result v c.args.operator x) give) v c.replied.result w in
    subst P c.argument-value.ensures
    (result-reply ts (unary_result v c.args.operator c.argument-value.result)
    v c.unary_value.result w c.replied.result c.unary_value.ensures c.replied.ensures)
