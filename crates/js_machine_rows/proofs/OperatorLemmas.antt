-- Lemmas on operators.
use Rattle.std.proofs.Common.{◌≡◌, Option, sym, subst}
use Rattle.std.specs.Prelude.{ℤ, IfSome}
use Rattle.js_tree_operators.specs.declared.operator.BinaryOperator.{BinaryOperator}
use Rattle.js_heap.specs.declared.value.Value.{Value}
use Rattle.js_heap.specs.declared.value.Value.TheVariants as values
use Rattle.js_heap.specs.declared.computed.Computed.TheVariants.{Value as a_value}
use Rattle.js_heap.specs.Operators.{binary_result}
use Rattle.js_heap.specs.World.{World}

-- by the numbers that the values are
pub numbers-by : (w : World) (o : BinaryOperator) (l r : Value) (y z y' z' : ℤ) (found : Option Value)
    → l ≡ values.Number y
    → r ≡ values.Number z
    → y' ≡ y
    → z' ≡ z
    → IfSome found (λ v. binary_result w o (values.Number y') (values.Number z') ≡ a_value v)
    → IfSome found (λ v. binary_result w o l r ≡ a_value v)
numbers-by w o l r y z y' z' found e f g h k =
    let P : ℤ → Type 0 = λ x. IfSome found (λ v. binary_result w o (values.Number x) (values.Number z') ≡ a_value v) in
    let Q : ℤ → Type 0 = λ x. IfSome found (λ v. binary_result w o (values.Number y) (values.Number x) ≡ a_value v) in
    let R : Value → Type 0 = λ x. IfSome found (λ v. binary_result w o x (values.Number z) ≡ a_value v) in
    let S : Value → Type 0 = λ x. IfSome found (λ v. binary_result w o l x ≡ a_value v) in
    subst S (sym f) (subst R (sym e) (subst Q h (subst P g k)))
