use Rattle.std.proofs.Common.{subst}
use Rattle.js_heap.specs.declared.value.Value.{Value}
use Rattle.js_semantics.specs.State.{give}
use Rattle.js_semantics.specs.BuiltIns.{argument}
use Rattle.js_semantics.specs.References.{with_result}
use Rattle.js_machine_rows.specs.Does.{Replies}
use Rattle.js_machine_rows.proofs.AnswerLemmas.{result-reply}
use Rattle.js_heap.specs.Operators.{binary_result}
use Rattle.js_machine_rows.proofs.operators.binary.Goals as goal

pub returns : goal.returns
returns g c =
    let ts = c.args.names.now in
    let v = g.W.World.world c.args.names.now c.args.world.now in
    let w = g.W.World.world c.args.names.now c.binary_value.new.world in
    let P : Value
    → Type 0 = λ x. Replies ts (with_result (binary_result v c.args.operator x (argument c.args.values.now 1)) give)
    v c.replied.result w in
    let Q : Value
    → Type 0 = λ y. Replies ts (with_result (binary_result v c.args.operator c.argument-left.result y) give)
    v c.replied.result w in
    subst P c.argument-left.ensures
    (subst Q c.argument-right.ensures
    (result-reply ts (binary_result v c.args.operator c.argument-left.result c.argument-right.result)
    v c.binary_value.result w c.replied.result c.binary_value.ensures c.replied.ensures))
