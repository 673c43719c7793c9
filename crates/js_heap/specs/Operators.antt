-- Operators on values.
use Rattle.std.specs.Prelude.{ℕ, ◌-◌, ◌*◌, ◌/◌, ◌%◌, ◌^◌, Bool, true, false, ◌&&◌, ◌||◌, not, List, [], ◌∷◌, ◌++◌, Option, Some, None, ℤ, pos, negsuc, ◌+ℤ◌, ◌-ℤ◌, ◌*ℤ◌, neg_ℤ, nat_abs, int_lt, int_div, int_rem, nat_eq, nat_lt, bit_and, bit_or, bit_xor, codes, if◌then◌else◌}
use Rattle.js_tree_operators.specs.declared.operator.UnaryOperator.{UnaryOperator}
use Rattle.js_tree_operators.specs.declared.operator.UnaryOperator.TheVariants as unaries
use Rattle.js_tree_operators.specs.declared.operator.UpdateOperator.{UpdateOperator}
use Rattle.js_tree_operators.specs.declared.operator.UpdateOperator.TheVariants as updates
use Rattle.js_tree_operators.specs.declared.operator.BinaryOperator.{BinaryOperator}
use Rattle.js_tree_operators.specs.declared.operator.BinaryOperator.TheVariants as binaries
use Rattle.js_heap.specs.declared.value.Value.{Value}
use Rattle.js_heap.specs.declared.value.Value.TheVariants as values
use Rattle.js_heap.specs.declared.built_in.ErrorClass.TheVariants as classes
use Rattle.js_heap.specs.World.{World}
use Rattle.js_heap.specs.Values.{Result, a_value, a_text, an_error, a_number, a_bool, text_of, type_text, units_at, is_truthy, is_same, same_integer}

-- ---- errors

-- the error of operands that aren't numbers
abbrev pub not_numbers : Result
not_numbers = an_error classes.TypeError (codes "Operands must be numbers")

-- the error of an object that is to be a text
abbrev pub not_a_text : Result
not_a_text = an_error classes.TypeError (codes "Cannot convert an object to text")

-- the error of values whose types don't compare
abbrev pub not_comparable : Result
not_comparable = an_error classes.TypeError (codes "Cannot compare values of different types")

-- the error of a result that is no safe integer
abbrev pub not_safe : Result
not_safe = an_error classes.RangeError (codes "Result is not a safe integer")

-- ---- numbers: integers from -(2^53 - 1) to 2^53 - 1 (this project's own; 6.1.6.1 has all doubles)

-- an integer as a result, where it is a safe one
abbrev pub safe : ℤ → Result
safe z = if nat_lt (nat_abs z) (2 ^ 53) then a_number z else not_safe

-- a divisor 0 and a division with a rest have no safe integer
abbrev pub quotient : ℤ → ℤ → Result
quotient y z =
    if same_integer z (pos 0) then not_safe else
    (if same_integer (int_rem y z) (pos 0) then safe (int_div y z) else not_safe)

-- the rest has the dividend's sign (6.1.6.1.6)
abbrev pub remainder : ℤ → ℤ → Result
remainder y z = if same_integer z (pos 0) then not_safe else safe (int_rem y z)

-- modulo 2^32, and the signed number of 32 bits (7.1.6, 7.1.7)
abbrev pub to_unsigned : ℤ → ℕ
to_unsigned (pos n) = n % 2 ^ 32
to_unsigned (negsuc n) = (2 ^ 32 - 1) - n % 2 ^ 32

-- the signed integer of 32 bits that has these bits (7.1.6)
abbrev pub to_signed : ℕ → ℤ
to_signed n = if nat_lt n (2 ^ 31) then pos n else negsuc ((2 ^ 32 - 1) - n)

-- the count of a shift (6.1.6.1.9)
abbrev pub shift_count : ℤ → ℕ
shift_count z = to_unsigned z % 32

-- the sign-propagating shift to the right (6.1.6.1.10)
abbrev pub shifted_right : ℤ → ℕ → ℤ
shifted_right (pos n) c = pos (n / 2 ^ c)
shifted_right (negsuc n) c = negsuc (n / 2 ^ c)

-- ---- comparisons

-- a text stands before another, by units (7.2.13)
abbrev pub units_before : List ℕ → List ℕ → Bool
units_before [] [] = false
units_before [] (v ∷ vs) = true
units_before (u ∷ us) [] = false
units_before (u ∷ us) (v ∷ vs) = nat_lt u v || (nat_eq u v && units_before us vs)

-- two numbers or two strings
abbrev pub is_before : World → Value → Value → Option Bool
is_before w (values.Number y) (values.Number z) = Some (int_lt y z)
is_before w (values.Text a) (values.Text b) = Some (units_before (units_at w a) (units_at w b))
is_before w _ _ = None

-- what a comparison answers; values that don't compare are an error
abbrev pub answer_of : Option Bool → Result
answer_of None = not_comparable
answer_of (Some b) = a_bool b

-- the opposite of what a comparison answers
abbrev pub negated : Option Bool → Option Bool
negated None = None
negated (Some b) = Some (not b)

-- `==`: as `===` on one type; null and undefined equal one another and nothing else; other types don't compare
abbrev pub is_equal : World → Value → Value → Option Bool
is_equal w values.Undefined values.Undefined = Some true
is_equal w values.Undefined values.Null = Some true
is_equal w values.Null values.Undefined = Some true
is_equal w values.Null values.Null = Some true
is_equal w values.Undefined v = Some false
is_equal w values.Null v = Some false
is_equal w v values.Undefined = Some false
is_equal w v values.Null = Some false
is_equal w (values.Bool a) (values.Bool b) = Some (is_same w (values.Bool a) (values.Bool b))
is_equal w (values.Number y) (values.Number z) = Some (same_integer y z)
is_equal w (values.Text a) (values.Text b) = Some (is_same w (values.Text a) (values.Text b))
is_equal w (values.Object a) (values.Object b) = Some (is_same w (values.Object a) (values.Object b))
is_equal w _ _ = None

-- ---- two operands

-- an operator on two numbers (13.7, 13.8.2, 13.9, 13.12)
abbrev pub on_numbers : BinaryOperator → ℤ → ℤ → Result
on_numbers binaries.Add y z = safe (y +ℤ z)
on_numbers binaries.Subtract y z = safe (y -ℤ z)
on_numbers binaries.Multiply y z = safe (y *ℤ z)
on_numbers binaries.Divide y z = quotient y z
on_numbers binaries.Remainder y z = remainder y z
on_numbers binaries.BitwiseAnd y z = a_number (to_signed (bit_and (to_unsigned y) (to_unsigned z)))
on_numbers binaries.BitwiseOr y z = a_number (to_signed (bit_or (to_unsigned y) (to_unsigned z)))
on_numbers binaries.BitwiseXor y z = a_number (to_signed (bit_xor (to_unsigned y) (to_unsigned z)))
on_numbers binaries.LeftShift y z = a_number (to_signed ((to_unsigned y * 2 ^ shift_count z) % 2 ^ 32))
on_numbers binaries.RightShift y z = a_number (shifted_right (to_signed (to_unsigned y)) (shift_count z))
on_numbers binaries.UnsignedRightShift y z = a_number (pos (to_unsigned y / 2 ^ shift_count z))
on_numbers _ y z = not_numbers

-- an operator that takes two numbers alone
abbrev pub numeric : BinaryOperator → Value → Value → Result
numeric o (values.Number y) (values.Number z) = on_numbers o y z
numeric o _ _ = not_numbers

-- a string joined with the text of a primitive
abbrev pub joined_texts : Option (List ℕ) → Option (List ℕ) → Result
joined_texts (Some t) (Some u) = a_text (t ++ u)
joined_texts _ _ = not_a_text

-- `+` (13.15.3): a sum of numbers, or a text where one side is a string
abbrev pub sum_of : World → Value → Value → Result
sum_of w (values.Text a) v = joined_texts (text_of w (values.Text a)) (text_of w v)
sum_of w v (values.Text b) = joined_texts (text_of w v) (text_of w (values.Text b))
sum_of w v u = numeric binaries.Add v u

-- what an operator comes to on two values, but for `&&` and `||`, which take theirs one by one
abbrev pub binary_result : World → BinaryOperator → Value → Value → Result
binary_result w binaries.Add v u = sum_of w v u
-- 13.10
binary_result w binaries.LessThan v u = answer_of (is_before w v u)
binary_result w binaries.GreaterThan v u = answer_of (is_before w u v)
binary_result w binaries.LessThanOrEqual v u = answer_of (negated (is_before w u v))
binary_result w binaries.GreaterThanOrEqual v u = answer_of (negated (is_before w v u))
-- 13.11
binary_result w binaries.StrictEqual v u = a_bool (is_same w v u)
binary_result w binaries.StrictNotEqual v u = a_bool (not (is_same w v u))
binary_result w binaries.Equal v u = answer_of (is_equal w v u)
binary_result w binaries.NotEqual v u = answer_of (negated (is_equal w v u))
binary_result w o v u = numeric o v u

-- ---- one operand (13.5)

-- an operator that takes one number alone (13.5.4 to 13.5.6)
abbrev pub number_result : UnaryOperator → Value → Result
number_result unaries.Plus (values.Number z) = a_number z
number_result unaries.Minus (values.Number z) = a_number (neg_ℤ z)
number_result unaries.BitwiseNot (values.Number z) = a_number (to_signed ((2 ^ 32 - 1) - to_unsigned z))
number_result _ _ = not_numbers

-- what an operator comes to on one value, but for `delete`, which takes a reference
abbrev pub unary_result : World → UnaryOperator → Value → Result
unary_result w unaries.Void v = a_value values.Undefined
unary_result w unaries.Typeof v = a_text (type_text w v)
unary_result w unaries.LogicalNot v = a_bool (not (is_truthy w v))
unary_result w o v = number_result o v

-- `++` and `--` (13.4)
abbrev pub update_result : UpdateOperator → Value → Result
update_result updates.Increment v = numeric binaries.Add v (values.Number (pos 1))
update_result updates.Decrement v = numeric binaries.Subtract v (values.Number (pos 1))
