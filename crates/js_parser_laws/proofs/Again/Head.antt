-- The classes of the next token, by the mark that it matches.
use Rattle.std.proofs.Common.{◌≡◌, ℕ, Bool, true, false, cond, List, Option, Some, None, refl, ap}
use Rattle.std.specs.Prelude.{◌&&◌, not}
use Rattle.js_lexer.specs.declared.token.TokenKind.{TokenKind}
use Rattle.js_lexer.specs.declared.token.TokenKind.TheVariants as kinds
use Rattle.js_tree_operators.specs.declared.operator.UpdateOperator.{UpdateOperator}
use Rattle.js_tree_operators.specs.declared.operator.UpdateOperator.TheVariants as updates
use Rattle.js_tree_operators.specs.declared.operator.BinaryOperator.{BinaryOperator}
use Rattle.js_tree_operators.specs.declared.operator.BinaryOperator.TheVariants as binaries
use Rattle.js_tree_operators.specs.declared.operator.AssignmentOperator.{AssignmentOperator}
use Rattle.js_tree_operators.specs.declared.operator.AssignmentOperator.TheVariants as assigns
use Rattle.js_parser_language.specs.Tokens.{Token, fixed, identifier, numeric_literal, string_literal, IsNext, is_on_line}
use Rattle.js_parser_language.specs.Flat.{update_kind, binary_kind, assign_kind}
use Rattle.js_parser_language.specs.Kinds.{is_kind, is_same_kind}
use Rattle.js_parser_readers.specs.Classes.{PrimaryStart, start_by, start, a_name, a_number, a_string, link_by, link, no_link, update_by, update_near, prefix_by, prefix, an_update, operator_by, operator, joint_by, joint, assigns_by, is_arrow}
use Rattle.js_parser_language.proofs.KindLemmas.{next_again, kind_not}

-- ---- a token of a kind

pub start_fixed : (k : TokenKind) (c : PrimaryStart) (o : Option Token)
    → IsNext (fixed k) o
    → ((s : List ℕ) (v : ℕ) → start_by k s v ≡ c)
    → start o ≡ c
start_fixed k c None m e = absurd m
start_fixed k c (Some t) m e = rw m (e t.string_value t.numeric_value)

pub start_name : (n : List ℕ) (o : Option Token) → IsNext (identifier n) o → start o ≡ a_name n
start_name n None m = absurd m
start_name n (Some t) m = rw m.0 (ap (λ s. a_name s) m.1)

pub start_number : (v : ℕ) (o : Option Token) → IsNext (numeric_literal v) o → start o ≡ a_number v
start_number v None m = absurd m
start_number v (Some t) m = rw m.0 (ap (λ s. a_number s) m.1)

pub start_string : (v : List ℕ) (o : Option Token) → IsNext (string_literal v) o → start o ≡ a_string v
start_string v None m = absurd m
start_string v (Some t) m = rw m.0 (ap (λ s. a_string s) m.1)

pub link_fixed : (k : TokenKind) (o : Option Token) → IsNext (fixed k) o → link o ≡ link_by k
link_fixed k None m = absurd m
link_fixed k (Some t) m = rw m refl

pub prefix_fixed : (k : TokenKind) (o : Option Token) → IsNext (fixed k) o → prefix o ≡ prefix_by k
prefix_fixed k None m = absurd m
prefix_fixed k (Some t) m = rw m refl

pub operator_fixed : (k : TokenKind) (o : Option Token) → IsNext (fixed k) o → operator o ≡ operator_by k
operator_fixed k None m = absurd m
operator_fixed k (Some t) m = rw m refl

pub joint_fixed : (k : TokenKind) (o : Option Token) → IsNext (fixed k) o → joint o ≡ joint_by k
joint_fixed k None m = absurd m
joint_fixed k (Some t) m = rw m refl

-- a token of a kind that is no update
pub no_update_fixed : (k : TokenKind) (o : Option Token)
    → IsNext (fixed k) o
    → update_by k ≡ None
    → update_near o ≡ None
no_update_fixed k None m e = absurd m
no_update_fixed k (Some t) m e = rw m (either t.newline_before)
  where
    either : (line : Bool) → (cond line None (update_by k)) ≡ None
    either true = refl
    either false = e

-- an update on the line of the token before it
pub update_fixed : (k : TokenKind) (o : Option Token)
    → IsNext (fixed k) o
    → is_on_line o ≡ true
    → update_near o ≡ update_by k
update_fixed k None m l = absurd m
update_fixed k (Some t) m l = rw m (either t.newline_before l)
  where
    either : (line : Bool) → not line ≡ true → (cond line None (update_by k)) ≡ update_by k
    either true e = absurd cc
    either false e = refl

-- a token of a kind is of no other
pub other_kind : (k j : TokenKind) (o : Option Token)
    → IsNext (fixed k) o
    → is_same_kind k j ≡ false
    → is_kind j o ≡ false
other_kind k j o m e = kind_not k j o (next_again k o m) e

pub no_arrow_fixed : (k : TokenKind) (o : Option Token)
    → IsNext (fixed k) o
    → is_same_kind k kinds.Arrow ≡ false
    → is_arrow o ≡ false
no_arrow_fixed k o m e = rw (other_kind k kinds.Arrow o m e) (never (is_on_line o))
  where
    never : (b : Bool) → (b && false) ≡ false
    never true = refl
    never false = refl

pub arrow_fixed : (o : Option Token) → IsNext (fixed kinds.Arrow) o → is_on_line o ≡ true → is_arrow o ≡ true
arrow_fixed o m l = rw (l, next_again kinds.Arrow o m) refl

-- ---- kinds of other symbols

pub kind_of_identifier : (n : List ℕ) (o : Option Token) → IsNext (identifier n) o → IsNext (fixed kinds.Name) o
kind_of_identifier n None m = m
kind_of_identifier n (Some t) m = m.0

pub kind_of_number : (v : ℕ) (o : Option Token) → IsNext (numeric_literal v) o → IsNext (fixed kinds.Number) o
kind_of_number v None m = m
kind_of_number v (Some t) m = m.0

pub kind_of_string : (v : List ℕ) (o : Option Token) → IsNext (string_literal v) o → IsNext (fixed kinds.String) o
kind_of_string v None m = m
kind_of_string v (Some t) m = m.0

-- ---- operators

pub update_again : (o : UpdateOperator) → update_by (update_kind o) ≡ Some o
update_again updates.Increment = refl
update_again updates.Decrement = refl

pub update_no_link : (o : UpdateOperator) → link_by (update_kind o) ≡ no_link
update_no_link updates.Increment = refl
update_no_link updates.Decrement = refl

pub update_prefix : (o : UpdateOperator) → prefix_by (update_kind o) ≡ an_update o
update_prefix updates.Increment = refl
update_prefix updates.Decrement = refl

-- what binary operators are and aren't
pub record IsOperator (k : TokenKind) (o : BinaryOperator) : Type 0 where
  pub operator : operator_by k ≡ Some o
  pub link : link_by k ≡ no_link
  pub update : update_by k ≡ None
  pub arrow : is_same_kind k kinds.Arrow ≡ false

pub operator_again : (o : BinaryOperator) → IsOperator (binary_kind o) o
operator_again binaries.LogicalOr = record { operator = refl; link = refl; update = refl; arrow = refl }
operator_again binaries.LogicalAnd = record { operator = refl; link = refl; update = refl; arrow = refl }
operator_again binaries.BitwiseOr = record { operator = refl; link = refl; update = refl; arrow = refl }
operator_again binaries.BitwiseXor = record { operator = refl; link = refl; update = refl; arrow = refl }
operator_again binaries.BitwiseAnd = record { operator = refl; link = refl; update = refl; arrow = refl }
operator_again binaries.Equal = record { operator = refl; link = refl; update = refl; arrow = refl }
operator_again binaries.NotEqual = record { operator = refl; link = refl; update = refl; arrow = refl }
operator_again binaries.StrictEqual = record { operator = refl; link = refl; update = refl; arrow = refl }
operator_again binaries.StrictNotEqual = record { operator = refl; link = refl; update = refl; arrow = refl }
operator_again binaries.LessThan = record { operator = refl; link = refl; update = refl; arrow = refl }
operator_again binaries.GreaterThan = record { operator = refl; link = refl; update = refl; arrow = refl }
operator_again binaries.LessThanOrEqual = record { operator = refl; link = refl; update = refl; arrow = refl }
operator_again binaries.GreaterThanOrEqual = record { operator = refl; link = refl; update = refl; arrow = refl }
operator_again binaries.LeftShift = record { operator = refl; link = refl; update = refl; arrow = refl }
operator_again binaries.RightShift = record { operator = refl; link = refl; update = refl; arrow = refl }
operator_again binaries.UnsignedRightShift = record { operator = refl; link = refl; update = refl; arrow = refl }
operator_again binaries.Add = record { operator = refl; link = refl; update = refl; arrow = refl }
operator_again binaries.Subtract = record { operator = refl; link = refl; update = refl; arrow = refl }
operator_again binaries.Multiply = record { operator = refl; link = refl; update = refl; arrow = refl }
operator_again binaries.Divide = record { operator = refl; link = refl; update = refl; arrow = refl }
operator_again binaries.Remainder = record { operator = refl; link = refl; update = refl; arrow = refl }

-- what assignment operators are and aren't
pub record IsAssignment (k : TokenKind) (o : AssignmentOperator) : Type 0 where
  pub joint : joint_by k ≡ assigns_by o
  pub link : link_by k ≡ no_link
  pub update : update_by k ≡ None
  pub operator : operator_by k ≡ None
  pub arrow : is_same_kind k kinds.Arrow ≡ false

pub assignment_again : (o : AssignmentOperator) → IsAssignment (assign_kind o) o
assignment_again assigns.Assign = record { joint = refl; link = refl; update = refl; operator = refl; arrow = refl }
assignment_again assigns.Add = record { joint = refl; link = refl; update = refl; operator = refl; arrow = refl }
assignment_again assigns.Subtract = record { joint = refl; link = refl; update = refl; operator = refl; arrow = refl }
assignment_again assigns.Multiply = record { joint = refl; link = refl; update = refl; operator = refl; arrow = refl }
assignment_again assigns.Divide = record { joint = refl; link = refl; update = refl; operator = refl; arrow = refl }
assignment_again assigns.Remainder = record { joint = refl; link = refl; update = refl; operator = refl; arrow = refl }
assignment_again assigns.LeftShift = record { joint = refl; link = refl; update = refl; operator = refl; arrow = refl }
assignment_again assigns.RightShift = record { joint = refl; link = refl; update = refl; operator = refl; arrow = refl }
assignment_again assigns.UnsignedRightShift =
    record { joint = refl; link = refl; update = refl; operator = refl; arrow = refl }
assignment_again assigns.BitwiseAnd = record { joint = refl; link = refl; update = refl; operator = refl; arrow = refl }
assignment_again assigns.BitwiseOr = record { joint = refl; link = refl; update = refl; operator = refl; arrow = refl }
assignment_again assigns.BitwiseXor = record { joint = refl; link = refl; update = refl; operator = refl; arrow = refl }
