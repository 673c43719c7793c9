-- Facts about levels, edges and first tokens of expressions.
use Rattle.std.proofs.Common.{◌≡◌, ℕ, suc, ◌<◌, ◌≤◌, Bool, true, false, cond, List, Option, Some, None, refl, arith}
use Rattle.std.specs.Prelude.{nat_le}
use Rattle.std.proofs.lemmas.Bool.{leb-false, lt-leb}
use Rattle.js_tree_operators.specs.declared.operator.BinaryOperator.{BinaryOperator}
use Rattle.js_tree_operators.specs.declared.operator.BinaryOperator.TheVariants as binaries
use Rattle.js_tree.specs.Trees.{Expression, this, name, number, string, boolean, null, array, object, function, arrow, arrow_block, parenthesized, member, index, call, postfix, prefix, unary, binary, conditional, assign, comma}
use Rattle.js_parser_language.specs.Tokens.{Token, ExpressionEnd, plain, braces, update, head_of}
use Rattle.js_parser_language.specs.Flat.{edge}
use Rattle.js_parser_language.specs.Well.{strength, level, is_property, Well}
use Rattle.js_tree.specs.Targets.{is_target}
use Rattle.js_tree.specs.Height.{height}
use Rattle.js_parser_readers.specs.Classes.{operator}
use Rattle.js_parser_readers.specs.Parsing.{operator_from}
use Rattle.js_parser_laws.proofs.Claims.{Stops, StopsOperation, StopsUnary}

-- ---- levels

pub strength_low : (o : BinaryOperator) → strength o ≤ 12
strength_low binaries.LogicalOr = omega arith
strength_low binaries.LogicalAnd = omega arith
strength_low binaries.BitwiseOr = omega arith
strength_low binaries.BitwiseXor = omega arith
strength_low binaries.BitwiseAnd = omega arith
strength_low binaries.Equal = omega arith
strength_low binaries.NotEqual = omega arith
strength_low binaries.StrictEqual = omega arith
strength_low binaries.StrictNotEqual = omega arith
strength_low binaries.LessThan = omega arith
strength_low binaries.GreaterThan = omega arith
strength_low binaries.LessThanOrEqual = omega arith
strength_low binaries.GreaterThanOrEqual = omega arith
strength_low binaries.LeftShift = omega arith
strength_low binaries.RightShift = omega arith
strength_low binaries.UnsignedRightShift = omega arith
strength_low binaries.Add = omega arith
strength_low binaries.Subtract = omega arith
strength_low binaries.Multiply = omega arith
strength_low binaries.Divide = omega arith
strength_low binaries.Remainder = omega arith

pub strength_high : (o : BinaryOperator) → 3 ≤ strength o
strength_high binaries.LogicalOr = omega arith
strength_high binaries.LogicalAnd = omega arith
strength_high binaries.BitwiseOr = omega arith
strength_high binaries.BitwiseXor = omega arith
strength_high binaries.BitwiseAnd = omega arith
strength_high binaries.Equal = omega arith
strength_high binaries.NotEqual = omega arith
strength_high binaries.StrictEqual = omega arith
strength_high binaries.StrictNotEqual = omega arith
strength_high binaries.LessThan = omega arith
strength_high binaries.GreaterThan = omega arith
strength_high binaries.LessThanOrEqual = omega arith
strength_high binaries.GreaterThanOrEqual = omega arith
strength_high binaries.LeftShift = omega arith
strength_high binaries.RightShift = omega arith
strength_high binaries.UnsignedRightShift = omega arith
strength_high binaries.Add = omega arith
strength_high binaries.Subtract = omega arith
strength_high binaries.Multiply = omega arith
strength_high binaries.Divide = omega arith
strength_high binaries.Remainder = omega arith

-- a target is a primary, a member or a call
pub target_level : (e : Expression) → is_target e ≡ true → level e ≡ 15
target_level (name n) t = refl
target_level (member e n) t = refl
target_level (index e k) t = refl
target_level (parenthesized e) t = refl
target_level _ t = absurd cc

pub property_level : (e : Expression) → is_property e ≡ true → level e ≡ 15
property_level (member e n) t = refl
property_level (index e k) t = refl
property_level (parenthesized e) t = refl
property_level _ t = absurd cc

-- ---- edges

-- a primary, a member or a call ends in a plain token
pub call_edge : (e : Expression) → 15 ≤ level e → edge e ≡ plain
call_edge (arrow ps e) l = absurd (omega arith)
call_edge (arrow_block ps body) l = absurd (omega arith)
call_edge (postfix o e) l = absurd (omega arith)
call_edge (prefix o e) l = absurd (omega arith)
call_edge (unary o e) l = absurd (omega arith)
call_edge (binary o x y) l = absurd (omega (arith, strength_low o))
call_edge (conditional t c a) l = absurd (omega arith)
call_edge (assign o t v) l = absurd (omega arith)
call_edge (comma es) l = absurd (omega arith)
call_edge this l = refl
call_edge (name n) l = refl
call_edge (number v) l = refl
call_edge (string v) l = refl
call_edge (boolean v) l = refl
call_edge null l = refl
call_edge (array es) l = refl
call_edge (object ps) l = refl
call_edge (function n ps body) l = refl
call_edge (parenthesized e) l = refl
call_edge (member e n) l = refl
call_edge (index e k) l = refl
call_edge (call f es) l = refl

-- no operation ends in the braces of an arrow function
pub operation_edge : (e : Expression) → Well e → 3 ≤ level e → edge e ≡ braces → ⊥
operation_edge (arrow ps e) w l b = absurd (omega arith)
operation_edge (arrow_block ps body) w l b = absurd (omega arith)
operation_edge (postfix o e) w l b = absurd cc
operation_edge (prefix o e) w l b = absurd cc
operation_edge (unary o e) w l b = operation_edge e w.0 (omega (arith, w.1)) b
operation_edge (binary o x y) w l b = operation_edge y w.2 (omega (arith, w.3, strength_high o)) b
operation_edge (conditional t c a) w l b = absurd (omega arith)
operation_edge (assign o t v) w l b = absurd (omega arith)
operation_edge (comma es) w l b = absurd (omega arith)
operation_edge this w l b = absurd cc
operation_edge (name n) w l b = absurd cc
operation_edge (number v) w l b = absurd cc
operation_edge (string v) w l b = absurd cc
operation_edge (boolean v) w l b = absurd cc
operation_edge null w l b = absurd cc
operation_edge (array es) w l b = absurd cc
operation_edge (object ps) w l b = absurd cc
operation_edge (function n ps body) w l b = absurd cc
operation_edge (parenthesized e) w l b = absurd cc
operation_edge (member e n) w l b = absurd cc
operation_edge (index e k) w l b = absurd cc
operation_edge (call f es) w l b = absurd cc

-- ---- what follows

pub from_none : (m : ℕ) (o : BinaryOperator) → operator_from m (Some o) ≡ None → strength o < m
from_none m o e = leb-false m (strength o) (test (nat_le m (strength o)) e)
  where
    test : (c : Bool) → (cond c (Some o) None) ≡ None → c ≡ false
    test true e = absurd cc
    test false e = refl

-- what binds less tightly than one strength binds less tightly than a higher one
pub from_more : (m k : ℕ) (o : Option BinaryOperator) → m ≤ k → operator_from m o ≡ None → operator_from k o ≡ None
from_more m k None l e = refl
from_more m k (Some o) l e = rw (lt-leb k (strength o) (omega (arith, from_none m o e))) refl

pub operation_more : (m k : ℕ) (d : ExpressionEnd) (r : List Token) → m ≤ k → StopsOperation m d r → StopsOperation k d r
operation_more m k plain r l s = (s.0, s.1, from_more m k (operator (head_of r)) l s.2)
operation_more m k update r l s = from_more m k (operator (head_of r)) l s
operation_more m k braces r l s = tt

pub operation_unary : (m : ℕ) (d : ExpressionEnd) (r : List Token) → StopsOperation m d r → StopsUnary d r
operation_unary m plain r s = (s.0, s.1)
operation_unary m update r s = tt
operation_unary m braces r s = tt

-- an operation ends before what doesn't go on with it
pub operation_stops : (m : ℕ) (d : ExpressionEnd) (r : List Token)
    → (d ≡ braces → ⊥)
    → StopsOperation m d r
    → operator_from m (operator (head_of r)) ≡ None
operation_stops m plain r n s = s.2
operation_stops m update r n s = s
operation_stops m braces r n s = absurd (n refl)

-- what stops an assignment stops an operation
pub assignment_stops : (m : ℕ) (d : ExpressionEnd) (r : List Token) → Stops d r → StopsOperation m d r
assignment_stops m plain r s = (s.0, s.1, rw s.2 refl)
assignment_stops m update r s = rw s.0 refl
assignment_stops m braces r s = tt

-- ---- how far an expression leans to the left

abbrev pub arms : Expression → ℕ
arms (member e n) = suc (arms e)
arms (index e k) = suc (arms e)
arms (call f es) = suc (arms f)
arms _ = 0

abbrev pub spine : Expression → ℕ
spine (binary o l r) = suc (spine l)
spine _ = 0

pub height_positive : (e : Expression) → 1 ≤ height e
height_positive (arrow ps e) = omega arith
height_positive (arrow_block ps body) = omega arith
height_positive (postfix o e) = omega arith
height_positive (prefix o e) = omega arith
height_positive (unary o e) = omega arith
height_positive (binary o x y) = omega arith
height_positive (conditional t c a) = omega arith
height_positive (assign o t v) = omega arith
height_positive (comma es) = omega arith
height_positive this = omega arith
height_positive (name n) = omega arith
height_positive (number v) = omega arith
height_positive (string v) = omega arith
height_positive (boolean v) = omega arith
height_positive null = omega arith
height_positive (array es) = omega arith
height_positive (object ps) = omega arith
height_positive (function n ps body) = omega arith
height_positive (parenthesized e) = omega arith
height_positive (member e n) = omega arith
height_positive (index e k) = omega arith
height_positive (call f es) = omega arith

pub arms_low : (e : Expression) → arms e < height e
arms_low (member e n) = omega (arith, arms_low e)
arms_low (index e k) = omega (arith, arms_low e)
arms_low (call f es) = omega (arith, arms_low f)
arms_low e = height_positive e

pub spine_low : (e : Expression) → spine e < height e
spine_low (binary o l r) = omega (arith, spine_low l)
spine_low e = height_positive e
