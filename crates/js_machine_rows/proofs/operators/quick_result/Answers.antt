use Rattle.std.proofs.Common.{rules}
use Rattle.std.proofs.lemmas.Int.{to_z-of_z}
use Rattle.std.specs.Prelude.{FitsSigned}
use mir.Syntax.{w64}
use Rattle.js_machine_rows.proofs.OperatorLemmas.{numbers-by}
use Rattle.js_machine_rows.proofs.operators.quick_result.Goals as goal

pub returns-in-Number-Number : goal.returns-in-Number-Number
returns-in-Number-Number c =
    let f : FitsSigned w64 c.in-Number-Number.y = search rules in
    let g : FitsSigned w64 c.in-Number-Number.z = search rules in
    λ w. numbers-by w c.args.operator c.args.left c.args.right c.in-Number-Number.y c.in-Number-Number.z _ _
    c.on_two_numbers.result c.in-Number-Number.is-0 c.in-Number-Number.is-1
    (to_z-of_z w64 c.in-Number-Number.y f) (to_z-of_z w64 c.in-Number-Number.z g) (c.on_two_numbers.ensures w)
