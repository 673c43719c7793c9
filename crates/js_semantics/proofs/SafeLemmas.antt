-- Operators answer safe integers, or an error.
use Rattle.std.proofs.Common.{◌≡◌, ℕ, zero, suc, ◌-◌, ◌*◌, ◌/◌, ◌%◌, ◌<◌, ◌≤◌, ◌^◌, Bool, true, false, List, Option, None, Some, refl, arith, if◌then◌else◌}
use Rattle.std.specs.Prelude.{ℤ, pos, negsuc, ◌+ℤ◌, ◌-ℤ◌, ◌*ℤ◌, neg_ℤ, int_div, int_rem, nat_abs, nat_lt, bit_and, bit_or, bit_xor}
use Rattle.std.proofs.lemmas.Bool.{ltb-true}
use Rattle.std.proofs.Math.Nat.{div-le_self, mod-lt}
use Rattle.js_tree_operators.specs.declared.operator.UnaryOperator.{UnaryOperator}
use Rattle.js_tree_operators.specs.declared.operator.UnaryOperator.TheVariants as unaries
use Rattle.js_tree_operators.specs.declared.operator.UpdateOperator.{UpdateOperator}
use Rattle.js_tree_operators.specs.declared.operator.UpdateOperator.TheVariants as updates
use Rattle.js_tree_operators.specs.declared.operator.BinaryOperator.{BinaryOperator}
use Rattle.js_tree_operators.specs.declared.operator.BinaryOperator.TheVariants as binaries
use Rattle.js_heap.specs.declared.value.Value.{Value}
use Rattle.js_heap.specs.declared.value.Value.TheVariants as values
use Rattle.js_heap.specs.declared.computed.Computed.{Computed as Result}
use Rattle.js_heap.specs.World.{World}
use Rattle.js_heap.specs.Values.{a_number, text_of, units_at, same_integer}
use Rattle.js_heap.specs.Operators.{not_safe, safe, quotient, remainder, to_unsigned, to_signed, shift_count, shifted_right, on_numbers, numeric, joined_texts, sum_of, answer_of, negated, is_before, is_equal, binary_result, number_result, unary_result, update_result}
use Rattle.js_heap.specs.Safe.{IsSafe}
use Rattle.js_semantics.specs.Safe.{AnswersSafe}

either-safe : (b : Bool) (r q : Result) → AnswersSafe r → AnswersSafe q → AnswersSafe (if b then r else q)
either-safe true r q h k = h
either-safe false r q h k = k

safe_if : (b : Bool) (z : ℤ) → nat_lt (nat_abs z) (2 ^ 53) ≡ b → AnswersSafe (if b then a_number z else not_safe)
safe_if true z e = ltb-true (nat_abs z) (2 ^ 53) e
safe_if false z e = tt

safe-safe : (z : ℤ) → AnswersSafe (safe z)
safe-safe z = safe_if (nat_lt (nat_abs z) (2 ^ 53)) z refl

quotient-safe : (y z : ℤ) → AnswersSafe (quotient y z)
quotient-safe y z =
    either-safe (same_integer z (pos 0)) not_safe
    (if same_integer (int_rem y z) (pos 0) then safe (int_div y z) else not_safe) tt
    (either-safe (same_integer (int_rem y z) (pos 0)) (safe (int_div y z)) not_safe (safe-safe (int_div y z)) tt)

remainder-safe : (y z : ℤ) → AnswersSafe (remainder y z)
remainder-safe y z = either-safe (same_integer z (pos 0)) not_safe (safe (int_rem y z)) tt (safe-safe (int_rem y z))

-- ---- 32 bits

unsigned-low : (z : ℤ) → to_unsigned z < 2 ^ 32
unsigned-low (pos n) = mod-lt n (omega arith)
unsigned-low (negsuc n) = omega arith

signed_if : (b : Bool) (n : ℕ)
    → nat_lt n (2 ^ 31) ≡ b
    → nat_abs (if b then pos n else negsuc ((2 ^ 32 - 1) - n)) ≤ 2 ^ 32
signed_if true n e = omega (arith, ltb-true n (2 ^ 31) e)
signed_if false n e = omega arith

signed-low : (n : ℕ) → nat_abs (to_signed n) ≤ 2 ^ 32
signed-low n = signed_if (nat_lt n (2 ^ 31)) n refl

signed-safe : (n : ℕ) → AnswersSafe (a_number (to_signed n))
signed-safe n = omega (arith, signed-low n)

right-low : (z : ℤ) (c : ℕ) → nat_abs z ≤ 2 ^ 32 → nat_abs (shifted_right z c) ≤ 2 ^ 32
right-low (pos n) c h = omega (arith, div-le_self n (2 ^ c))
right-low (negsuc n) c h = omega (arith, div-le_self n (2 ^ c))

right-safe : (n c : ℕ) → AnswersSafe (a_number (shifted_right (to_signed n) c))
right-safe n c = omega (arith, right-low (to_signed n) c (signed-low n))

unsigned_right-safe : (z : ℤ) (c : ℕ) → AnswersSafe (a_number (pos (to_unsigned z / 2 ^ c)))
unsigned_right-safe z c = omega (arith, unsigned-low z, div-le_self (to_unsigned z) (2 ^ c))

-- ---- two operands

on_numbers-safe : (o : BinaryOperator) (y z : ℤ) → AnswersSafe (on_numbers o y z)
on_numbers-safe binaries.Add y z = safe-safe (y +ℤ z)
on_numbers-safe binaries.Subtract y z = safe-safe (y -ℤ z)
on_numbers-safe binaries.Multiply y z = safe-safe (y *ℤ z)
on_numbers-safe binaries.Divide y z = quotient-safe y z
on_numbers-safe binaries.Remainder y z = remainder-safe y z
on_numbers-safe binaries.BitwiseAnd y z = signed-safe (bit_and (to_unsigned y) (to_unsigned z))
on_numbers-safe binaries.BitwiseOr y z = signed-safe (bit_or (to_unsigned y) (to_unsigned z))
on_numbers-safe binaries.BitwiseXor y z = signed-safe (bit_xor (to_unsigned y) (to_unsigned z))
on_numbers-safe binaries.LeftShift y z = signed-safe ((to_unsigned y * 2 ^ shift_count z) % 2 ^ 32)
on_numbers-safe binaries.RightShift y z = right-safe (to_unsigned y) (shift_count z)
on_numbers-safe binaries.UnsignedRightShift y z = unsigned_right-safe y (shift_count z)
on_numbers-safe _ y z = tt

numeric-safe : (o : BinaryOperator) (x y : Value) → AnswersSafe (numeric o x y)
numeric-safe o (values.Number y) (values.Number z) = on_numbers-safe o y z
numeric-safe o _ _ = tt

joined-safe : (t u : Option (List ℕ)) → AnswersSafe (joined_texts t u)
joined-safe (Some t) (Some u) = tt
joined-safe (Some t) None = tt
joined-safe None u = tt

sum-safe : (w : World) (x y : Value) → AnswersSafe (sum_of w x y)
sum-safe w (values.Text a) y = joined-safe (Some (units_at w a)) (text_of w y)
sum-safe w values.Undefined (values.Text b) = tt
sum-safe w values.Null (values.Text b) = tt
sum-safe w (values.Bool c) (values.Text b) = tt
sum-safe w (values.Number z) (values.Text b) = tt
sum-safe w (values.Object a) (values.Text b) = tt
sum-safe w (values.Number y) (values.Number z) = safe-safe (y +ℤ z)
sum-safe w _ _ = tt

answer-safe : (o : Option Bool) → AnswersSafe (answer_of o)
answer-safe None = tt
answer-safe (Some b) = tt

pub binary-safe : (w : World) (o : BinaryOperator) (x y : Value) → AnswersSafe (binary_result w o x y)
binary-safe w binaries.Add x y = sum-safe w x y
binary-safe w binaries.LessThan x y = answer-safe (is_before w x y)
binary-safe w binaries.GreaterThan x y = answer-safe (is_before w y x)
binary-safe w binaries.LessThanOrEqual x y = answer-safe (negated (is_before w y x))
binary-safe w binaries.GreaterThanOrEqual x y = answer-safe (negated (is_before w x y))
binary-safe w binaries.StrictEqual x y = tt
binary-safe w binaries.StrictNotEqual x y = tt
binary-safe w binaries.Equal x y = answer-safe (is_equal w x y)
binary-safe w binaries.NotEqual x y = answer-safe (negated (is_equal w x y))
binary-safe w o x y = numeric-safe o x y

-- ---- one operand

minus-low : (z : ℤ) (m : ℕ) → nat_abs z < m → nat_abs (neg_ℤ z) < m
minus-low (pos zero) m h = h
minus-low (pos (suc n)) m h = h
minus-low (negsuc n) m h = h

number-safe : (o : UnaryOperator) (x : Value) → IsSafe x → AnswersSafe (number_result o x)
number-safe unaries.Plus (values.Number z) h = h
number-safe unaries.Minus (values.Number z) h = minus-low z (2 ^ 53) h
number-safe unaries.BitwiseNot (values.Number z) h = signed-safe ((2 ^ 32 - 1) - to_unsigned z)
number-safe _ _ h = tt

pub unary-safe : (w : World) (o : UnaryOperator) (x : Value) → IsSafe x → AnswersSafe (unary_result w o x)
unary-safe w unaries.Void x h = tt
unary-safe w unaries.Typeof x h = tt
unary-safe w unaries.LogicalNot x h = tt
unary-safe w o x h = number-safe o x h

pub update-safe : (o : UpdateOperator) (x : Value) → AnswersSafe (update_result o x)
update-safe updates.Increment x = numeric-safe binaries.Add x (values.Number (pos 1))
update-safe updates.Decrement x = numeric-safe binaries.Subtract x (values.Number (pos 1))
