-- What the classes of the next token say of it: of what begins, goes on with and joins expressions.
use Rattle.std.proofs.Common.{◌≡◌, ℕ, ◌≤◌, Bool, true, false, cond, List, [], ◌∷◌, Option, Some, None, refl, subst, arith}
use Rattle.std.specs.Prelude.{nat_le}
use Rattle.std.proofs.lemmas.Bool.{leb-true, lt-leb}
use Rattle.js_lexer.specs.declared.token.TokenKind.{TokenKind}
use Rattle.js_lexer.specs.declared.token.TokenKind.TheVariants as kinds
use Rattle.js_tree_operators.specs.declared.operator.UnaryOperator.{UnaryOperator}
use Rattle.js_tree_operators.specs.declared.operator.UnaryOperator.TheVariants as unaries
use Rattle.js_tree_operators.specs.declared.operator.UpdateOperator.{UpdateOperator}
use Rattle.js_tree_operators.specs.declared.operator.BinaryOperator.{BinaryOperator}
use Rattle.js_tree.specs.Trees.{Expression}
use Rattle.js_parser_language.specs.Tokens.{Token, fixed, head_of, tail_of, IsNext, is_on_line, Matches}
use Rattle.js_parser_language.specs.Flat.{unary_kind, update_kind, flat_boolean}
use Rattle.js_parser_language.specs.Well.{strength, takes}
use Rattle.js_parser_readers.specs.Classes.{a_boolean, start, update_by, update_near, a_unary, prefix_by, prefix}
use Rattle.js_parser_readers.specs.Parsing.{operator_from}
use Rattle.js_parser_readers.proofs.ClassLemmas.{boolean_by, updated_by}
use Rattle.js_parser_laws.proofs.Again.Level.{strength_low}

-- ---- what begins a primary expression

pub start_boolean : (c : Bool) (ts : List Token)
    → start (head_of ts) ≡ a_boolean c
    → Matches (flat_boolean c) ts (tail_of ts)
start_boolean c [] e = absurd cc
start_boolean true (t ∷ ts) e = (boolean_by true t.kind t.string_value t.numeric_value e, refl)
start_boolean false (t ∷ ts) e = (boolean_by false t.kind t.string_value t.numeric_value e, refl)

-- ---- operators before and behind an operand

near_by : (u : UpdateOperator) (line : Bool) (k : TokenKind)
    → cond line None (update_by k) ≡ Some u
    → (k ≡ update_kind u) × (line ≡ false)
near_by u true k e = absurd cc
near_by u false k e = (updated_by u k e, refl)

-- an update operator on the line
pub update_next : (u : UpdateOperator) (o : Option Token)
    → update_near o ≡ Some u
    → IsNext (fixed (update_kind u)) o × (is_on_line o ≡ true)
update_next u None e = absurd cc
update_next u (Some t) e = let p = near_by u t.newline_before t.kind e in (p.0, rw p.1 refl)

-- the token of the operator, which takes every operand
abbrev IsUnary : UnaryOperator → TokenKind → Type 0
IsUnary u k = (k ≡ unary_kind u) × ((e : Expression) → takes u e ≡ true)

unary_by : (u : UnaryOperator) (k : TokenKind) → prefix_by k ≡ a_unary u → IsUnary u k
unary_by u kinds.Void e =
    let is : unaries.Void ≡ u = cc in subst (λ (u : UnaryOperator). IsUnary u kinds.Void) is (refl, λ e. refl)
unary_by u kinds.Typeof e =
    let is : unaries.Typeof ≡ u = cc in subst (λ (u : UnaryOperator). IsUnary u kinds.Typeof) is (refl, λ e. refl)
unary_by u kinds.Plus e =
    let is : unaries.Plus ≡ u = cc in subst (λ (u : UnaryOperator). IsUnary u kinds.Plus) is (refl, λ e. refl)
unary_by u kinds.Minus e =
    let is : unaries.Minus ≡ u = cc in subst (λ (u : UnaryOperator). IsUnary u kinds.Minus) is (refl, λ e. refl)
unary_by u kinds.BitwiseNot e =
    let is : unaries.BitwiseNot ≡ u = cc in
    subst (λ (u : UnaryOperator). IsUnary u kinds.BitwiseNot) is (refl, λ e. refl)
unary_by u kinds.LogicalNot e =
    let is : unaries.LogicalNot ≡ u = cc in
    subst (λ (u : UnaryOperator). IsUnary u kinds.LogicalNot) is (refl, λ e. refl)
unary_by u _ e = absurd cc

pub prefix_unary : (u : UnaryOperator) (o : Option Token)
    → prefix o ≡ a_unary u
    → IsNext (fixed (unary_kind u)) o × ((e : Expression) → takes u e ≡ true)
prefix_unary u None e = absurd cc
prefix_unary u (Some t) e = unary_by u t.kind e

-- ---- strengths

from_test : (m : ℕ) (p o : BinaryOperator) (b : Bool)
    → nat_le m (strength p) ≡ b
    → cond b (Some p) None ≡ Some o
    → (Some p ≡ Some o) × (m ≤ strength o)
from_test m p o true h e =
    let same : p ≡ o = cc in
    (e, subst (λ (q : BinaryOperator). m ≤ strength q) same (leb-true m (strength p) h))
from_test m p o false h e = absurd cc

-- an operator that binds at least so tightly
pub from_is : (m : ℕ) (p : Option BinaryOperator) (o : BinaryOperator)
    → operator_from m p ≡ Some o
    → (p ≡ Some o) × (m ≤ strength o)
from_is m None o e = absurd cc
from_is m (Some p) o e = from_test m p o (nat_le m (strength p)) refl e

-- none binds more tightly than a unary expression
pub from_past : (m : ℕ) (p : Option BinaryOperator) → 13 ≤ m → operator_from m p ≡ None
from_past m None h = refl
from_past m (Some o) h = rw (lt-leb m (strength o) (omega (arith, strength_low o))) refl
