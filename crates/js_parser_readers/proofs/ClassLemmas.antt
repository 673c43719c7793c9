-- Which token stands where a class of the next tokens says what it begins.
use Rattle.std.proofs.Common.{◌≡◌, ℕ, Bool, true, false, cond, List, Option, Some, None, refl, ap, subst}
use Rattle.std.specs.Prelude.{nat_le}
use Rattle.js_lexer.specs.declared.token.TokenKind.{TokenKind}
use Rattle.js_lexer.specs.declared.token.TokenKind.TheVariants as kinds
use Rattle.js_tree_operators.specs.declared.operator.UnaryOperator.{UnaryOperator}
use Rattle.js_tree_operators.specs.declared.operator.UnaryOperator.TheVariants as unaries
use Rattle.js_tree_operators.specs.declared.operator.UpdateOperator.{UpdateOperator}
use Rattle.js_tree_operators.specs.declared.operator.UpdateOperator.TheVariants as updates
use Rattle.js_tree_operators.specs.declared.operator.BinaryOperator.{BinaryOperator}
use Rattle.js_parser_language.specs.Tokens.{Token, fixed, identifier, identifier_name, numeric_literal, string_literal, is_word, IsNext}
use Rattle.js_parser_language.specs.Flat.{unary_kind, update_kind, binary_kind}
use Rattle.js_parser_language.specs.Well.{strength}
use Rattle.js_parser_readers.specs.Classes as classes
use Rattle.js_parser_readers.specs.Classes.{this_word, a_name, a_number, a_string, a_boolean, null_word, brace, function_word, start_by, start, dot, link_by, link, update_by, update_near, deletes, a_unary, an_update, prefix_by, prefix, operator_by, operator, key_start_by, key_start, first_by, first}
use Rattle.js_parser_readers.specs.Parsing.{operator_from, let_kind}

-- ---- what begins a primary expression

pub this_by : (k : TokenKind) (s : List ℕ) (v : ℕ) → start_by k s v ≡ this_word → k ≡ kinds.This
this_by kinds.This s v e = refl
this_by _ s v e = absurd cc

pub start_this : (o : Option Token) → start o ≡ this_word → IsNext (fixed kinds.This) o
start_this None e = absurd cc
start_this (Some t) e = this_by t.kind t.string_value t.numeric_value e

pub null_by : (k : TokenKind) (s : List ℕ) (v : ℕ) → start_by k s v ≡ null_word → k ≡ kinds.Null
null_by kinds.Null s v e = refl
null_by _ s v e = absurd cc

pub start_null : (o : Option Token) → start o ≡ null_word → IsNext (fixed kinds.Null) o
start_null None e = absurd cc
start_null (Some t) e = null_by t.kind t.string_value t.numeric_value e

pub brace_by : (k : TokenKind) (s : List ℕ) (v : ℕ) → start_by k s v ≡ brace → k ≡ kinds.LeftBrace
brace_by kinds.LeftBrace s v e = refl
brace_by _ s v e = absurd cc

pub start_brace : (o : Option Token) → start o ≡ brace → IsNext (fixed kinds.LeftBrace) o
start_brace None e = absurd cc
start_brace (Some t) e = brace_by t.kind t.string_value t.numeric_value e

pub function_by : (k : TokenKind) (s : List ℕ) (v : ℕ) → start_by k s v ≡ function_word → k ≡ kinds.Function
function_by kinds.Function s v e = refl
function_by _ s v e = absurd cc

pub start_function : (o : Option Token) → start o ≡ function_word → IsNext (fixed kinds.Function) o
start_function None e = absurd cc
start_function (Some t) e = function_by t.kind t.string_value t.numeric_value e

pub boolean_by : (c : Bool) (k : TokenKind) (s : List ℕ) (v : ℕ)
    → start_by k s v ≡ a_boolean c
    → k ≡ cond c kinds.True kinds.False
boolean_by true kinds.True s v e = refl
boolean_by false kinds.False s v e = refl
boolean_by true _ s v e = absurd cc
boolean_by false _ s v e = absurd cc

pub start_boolean : (c : Bool) (o : Option Token)
    → start o ≡ a_boolean c
    → IsNext (fixed (cond c kinds.True kinds.False)) o
start_boolean c None e = absurd cc
start_boolean c (Some t) e = boolean_by c t.kind t.string_value t.numeric_value e

pub name_by : (n : List ℕ) (k : TokenKind) (s : List ℕ) (v : ℕ) → start_by k s v ≡ a_name n → (k ≡ kinds.Name) × (s ≡ n)
name_by n kinds.Name s v e = (refl, cc)
name_by n _ s v e = absurd cc

pub start_name : (n : List ℕ) (o : Option Token) → start o ≡ a_name n → IsNext (identifier n) o
start_name n None e = absurd cc
start_name n (Some t) e = name_by n t.kind t.string_value t.numeric_value e

pub number_by : (n : ℕ) (k : TokenKind) (s : List ℕ) (v : ℕ)
    → start_by k s v ≡ a_number n
    → (k ≡ kinds.Number) × (v ≡ n)
number_by n kinds.Number s v e = (refl, cc)
number_by n _ s v e = absurd cc

pub start_number : (n : ℕ) (o : Option Token) → start o ≡ a_number n → IsNext (numeric_literal n) o
start_number n None e = absurd cc
start_number n (Some t) e = number_by n t.kind t.string_value t.numeric_value e

pub string_by : (n : List ℕ) (k : TokenKind) (s : List ℕ) (v : ℕ)
    → start_by k s v ≡ a_string n
    → (k ≡ kinds.String) × (s ≡ n)
string_by n kinds.String s v e = (refl, cc)
string_by n _ s v e = absurd cc

pub start_string : (n : List ℕ) (o : Option Token) → start o ≡ a_string n → IsNext (string_literal n) o
start_string n None e = absurd cc
start_string n (Some t) e = string_by n t.kind t.string_value t.numeric_value e

-- ---- what goes on with a call or a member

pub dot_by : (k : TokenKind) → link_by k ≡ dot → k ≡ kinds.Dot
dot_by kinds.Dot e = refl
dot_by _ e = absurd cc

pub link_dot : (o : Option Token) → link o ≡ dot → IsNext (fixed kinds.Dot) o
link_dot None e = absurd cc
link_dot (Some t) e = dot_by t.kind e

-- ---- operators before and behind an operand

pub updated_by : (u : UpdateOperator) (k : TokenKind) → update_by k ≡ Some u → k ≡ update_kind u
updated_by u kinds.Increment e = let is : updates.Increment ≡ u = cc in ap (λ (u : UpdateOperator). update_kind u) is
updated_by u kinds.Decrement e = let is : updates.Decrement ≡ u = cc in ap (λ (u : UpdateOperator). update_kind u) is
updated_by u _ e = absurd cc

near_by : (u : UpdateOperator) (line : Bool) (k : TokenKind) → cond line None (update_by k) ≡ Some u → k ≡ update_kind u
near_by u true k e = absurd cc
near_by u false k e = updated_by u k e

-- an update operator on the line
pub update_next : (u : UpdateOperator) (o : Option Token) → update_near o ≡ Some u → IsNext (fixed (update_kind u)) o
update_next u None e = absurd cc
update_next u (Some t) e = near_by u t.newline_before t.kind e

pub delete_by : (k : TokenKind) → prefix_by k ≡ deletes → k ≡ kinds.Delete
delete_by kinds.Delete e = refl
delete_by _ e = absurd cc

pub prefix_delete : (o : Option Token) → prefix o ≡ deletes → IsNext (fixed kinds.Delete) o
prefix_delete None e = absurd cc
prefix_delete (Some t) e = delete_by t.kind e

unary_by : (u : UnaryOperator) (k : TokenKind) → prefix_by k ≡ a_unary u → k ≡ unary_kind u
unary_by u kinds.Void e = let is : unaries.Void ≡ u = cc in ap (λ (u : UnaryOperator). unary_kind u) is
unary_by u kinds.Typeof e = let is : unaries.Typeof ≡ u = cc in ap (λ (u : UnaryOperator). unary_kind u) is
unary_by u kinds.Plus e = let is : unaries.Plus ≡ u = cc in ap (λ (u : UnaryOperator). unary_kind u) is
unary_by u kinds.Minus e = let is : unaries.Minus ≡ u = cc in ap (λ (u : UnaryOperator). unary_kind u) is
unary_by u kinds.BitwiseNot e = let is : unaries.BitwiseNot ≡ u = cc in ap (λ (u : UnaryOperator). unary_kind u) is
unary_by u kinds.LogicalNot e = let is : unaries.LogicalNot ≡ u = cc in ap (λ (u : UnaryOperator). unary_kind u) is
unary_by u _ e = absurd cc

pub prefix_unary : (u : UnaryOperator) (o : Option Token) → prefix o ≡ a_unary u → IsNext (fixed (unary_kind u)) o
prefix_unary u None e = absurd cc
prefix_unary u (Some t) e = unary_by u t.kind e

pub prefix_update_by : (u : UpdateOperator) (k : TokenKind) → prefix_by k ≡ an_update u → k ≡ update_kind u
prefix_update_by u kinds.Increment e =
    let is : updates.Increment ≡ u = cc in ap (λ (u : UpdateOperator). update_kind u) is
prefix_update_by u kinds.Decrement e =
    let is : updates.Decrement ≡ u = cc in ap (λ (u : UpdateOperator). update_kind u) is
prefix_update_by u _ e = absurd cc

pub prefix_update : (u : UpdateOperator) (o : Option Token) → prefix o ≡ an_update u → IsNext (fixed (update_kind u)) o
prefix_update u None e = absurd cc
prefix_update u (Some t) e = prefix_update_by u t.kind e

-- ---- operators between operands

-- the operator of a kind, which is its token
abbrev KindOf : Option BinaryOperator → TokenKind → Type 0
KindOf None k = Unit {0}
KindOf (Some o) k = k ≡ binary_kind o

pub kind_of : (k : TokenKind) → KindOf (operator_by k) k
kind_of kinds.LogicalOr = refl
kind_of kinds.LogicalAnd = refl
kind_of kinds.BitwiseOr = refl
kind_of kinds.BitwiseXor = refl
kind_of kinds.BitwiseAnd = refl
kind_of kinds.Equal = refl
kind_of kinds.NotEqual = refl
kind_of kinds.StrictEqual = refl
kind_of kinds.StrictNotEqual = refl
kind_of kinds.LessThan = refl
kind_of kinds.GreaterThan = refl
kind_of kinds.LessThanOrEqual = refl
kind_of kinds.GreaterThanOrEqual = refl
kind_of kinds.LeftShift = refl
kind_of kinds.RightShift = refl
kind_of kinds.UnsignedRightShift = refl
kind_of kinds.Plus = refl
kind_of kinds.Minus = refl
kind_of kinds.Multiply = refl
kind_of kinds.Divide = refl
kind_of kinds.Remainder = refl
kind_of _ = tt

pub operator_next : (o : BinaryOperator) (next : Option Token)
    → operator next ≡ Some o
    → IsNext (fixed (binary_kind o)) next
operator_next o None e = absurd cc
operator_next o (Some t) e = subst (λ (p : Option BinaryOperator). KindOf p t.kind) e (kind_of t.kind)

from_test : (p o : BinaryOperator) (b : Bool) → cond b (Some p) None ≡ Some o → Some p ≡ Some o
from_test p o true e = e
from_test p o false e = absurd cc

-- an operator that binds at least so tightly
pub from_next : (m : ℕ) (o : BinaryOperator) (next : Option Token)
    → operator_from m (operator next) ≡ Some o
    → IsNext (fixed (binary_kind o)) next
from_next m o next e = operator_next o next (from_is (operator next) e)
  where
    from_is : (p : Option BinaryOperator) → operator_from m p ≡ Some o → p ≡ Some o
    from_is None e = absurd cc
    from_is (Some p) e = from_test p o (nat_le m (strength p)) e

-- ---- keys

pub word_test : (b : Bool) (w s : List ℕ)
    → cond b (classes.a_word_key s) classes.no_key ≡ classes.a_word_key w
    → (b ≡ true) × (s ≡ w)
word_test true w s e = (refl, cc)
word_test false w s e = absurd cc

pub key_word_by : (w : List ℕ) (k : TokenKind) (s : List ℕ) (v : ℕ)
    → key_start_by k s v ≡ classes.a_word_key w
    → (is_word k ≡ true) × (s ≡ w)
key_word_by w kinds.String s v e = absurd cc
key_word_by w kinds.Number s v e = absurd cc
key_word_by w kinds.LeftBracket s v e = absurd cc
key_word_by w k s v e = word_test (is_word k) w s e

pub key_word : (w : List ℕ) (o : Option Token) → key_start o ≡ classes.a_word_key w → IsNext (identifier_name w) o
key_word w None e = absurd cc
key_word w (Some t) e = key_word_by w t.kind t.string_value t.numeric_value e

pub key_string_by : (w : List ℕ) (k : TokenKind) (s : List ℕ) (v : ℕ)
    → key_start_by k s v ≡ classes.a_string_key w
    → (k ≡ kinds.String) × (s ≡ w)
key_string_by w kinds.String s v e = (refl, cc)
key_string_by w _ s v e = absurd cc

pub key_string : (w : List ℕ) (o : Option Token) → key_start o ≡ classes.a_string_key w → IsNext (string_literal w) o
key_string w None e = absurd cc
key_string w (Some t) e = key_string_by w t.kind t.string_value t.numeric_value e

pub key_number_by : (w : ℕ) (k : TokenKind) (s : List ℕ) (v : ℕ)
    → key_start_by k s v ≡ classes.a_number_key w
    → (k ≡ kinds.Number) × (v ≡ w)
key_number_by w kinds.Number s v e = (refl, cc)
key_number_by w _ s v e = absurd cc

pub key_number : (w : ℕ) (o : Option Token) → key_start o ≡ classes.a_number_key w → IsNext (numeric_literal w) o
key_number w None e = absurd cc
key_number w (Some t) e = key_number_by w t.kind t.string_value t.numeric_value e

-- ---- what begins a declaration

function_first : (k : TokenKind) → first_by k ≡ classes.a_function → k ≡ kinds.Function
function_first kinds.Function e = refl
function_first _ e = absurd cc

pub first_function : (o : Option Token) → first o ≡ classes.a_function → IsNext (fixed kinds.Function) o
first_function None e = absurd cc
first_function (Some t) e = function_first t.kind e

semicolon_first : (k : TokenKind) → first_by k ≡ classes.a_semicolon → k ≡ kinds.Semicolon
semicolon_first kinds.Semicolon e = refl
semicolon_first _ e = absurd cc

pub first_semicolon : (o : Option Token) → first o ≡ classes.a_semicolon → IsNext (fixed kinds.Semicolon) o
first_semicolon None e = absurd cc
first_semicolon (Some t) e = semicolon_first t.kind e

lexical_first : (c : Bool) (k : TokenKind) → first_by k ≡ classes.a_lexical c → k ≡ let_kind c
lexical_first true kinds.Const e = refl
lexical_first false kinds.Let e = refl
lexical_first true _ e = absurd cc
lexical_first false _ e = absurd cc

pub first_lexical : (c : Bool) (o : Option Token) → first o ≡ classes.a_lexical c → IsNext (fixed (let_kind c)) o
first_lexical c None e = absurd cc
first_lexical c (Some t) e = lexical_first c t.kind e
