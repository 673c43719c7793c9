-- What the next tokens begin: small classes of their many kinds.
use Rattle.std.specs.Prelude.{ℕ, Bool, true, false, ◌&&◌, ◌||◌, List, [], ◌∷◌, Option, Some, None, codes, if◌then◌else◌, nat_eq}
use Rattle.std.specs.Cmp.Lexicographic.{pointwise}
use Rattle.js_lexer.specs.declared.token.TokenKind.{TokenKind}
use Rattle.js_lexer.specs.declared.token.TokenKind.TheVariants as kinds
use Rattle.js_tree_operators.specs.declared.operator.UnaryOperator.{UnaryOperator}
use Rattle.js_tree_operators.specs.declared.operator.UnaryOperator.TheVariants as unaries
use Rattle.js_tree_operators.specs.declared.operator.UpdateOperator.{UpdateOperator}
use Rattle.js_tree_operators.specs.declared.operator.UpdateOperator.TheVariants as updates
use Rattle.js_tree_operators.specs.declared.operator.BinaryOperator.{BinaryOperator}
use Rattle.js_tree_operators.specs.declared.operator.BinaryOperator.TheVariants as binaries
use Rattle.js_tree_operators.specs.declared.operator.AssignmentOperator.{AssignmentOperator}
use Rattle.js_tree_operators.specs.declared.operator.AssignmentOperator.TheVariants as assigns
use Rattle.js_parser_language.specs.Tokens.{Token, after_word, head_of, tail_of, is_on_line, is_word, absent}
use Rattle.js_parser_language.specs.Kinds.{is_kind}
use Rattle.js_parser_readers.specs.Reading.{text_of}

-- ---- expressions

-- what begins a primary expression (ECMA-262, 13.2)
pub data PrimaryStart : Type 0 where
  this_word : PrimaryStart
  a_name : List ℕ → PrimaryStart
  a_number : ℕ → PrimaryStart
  a_string : List ℕ → PrimaryStart
  a_boolean : Bool → PrimaryStart
  null_word : PrimaryStart
  bracket : PrimaryStart
  brace : PrimaryStart
  parenthesis : PrimaryStart
  function_word : PrimaryStart
  no_start : PrimaryStart

-- what a token of this kind begins, with its string value and its number
abbrev pub start_by : TokenKind → List ℕ → ℕ → PrimaryStart
start_by kinds.This s n = this_word
start_by kinds.Name s n = a_name s
start_by kinds.Number s n = a_number n
start_by kinds.String s n = a_string s
start_by kinds.True s n = a_boolean true
start_by kinds.False s n = a_boolean false
start_by kinds.Null s n = null_word
start_by kinds.LeftBracket s n = bracket
start_by kinds.LeftBrace s n = brace
start_by kinds.LeftParenthesis s n = parenthesis
start_by kinds.Function s n = function_word
start_by _ s n = no_start

-- what the next token begins, if there is one
abbrev pub start : Option Token → PrimaryStart
start None = no_start
start (Some t) = start_by t.kind t.string_value t.numeric_value

-- what goes on with a call or a member (13.3)
pub data CallTail : Type 0 where
  dot : CallTail
  key : CallTail
  arguments : CallTail
  no_link : CallTail

-- what a token of this kind is behind a call or a member
abbrev pub link_by : TokenKind → CallTail
link_by kinds.Dot = dot
link_by kinds.LeftBracket = key
link_by kinds.LeftParenthesis = arguments
link_by _ = no_link

-- what the next token is behind a call or a member
abbrev pub link : Option Token → CallTail
link None = no_link
link (Some t) = link_by t.kind

-- an update operator (13.4)
abbrev pub update_by : TokenKind → Option UpdateOperator
update_by kinds.Increment = Some updates.Increment
update_by kinds.Decrement = Some updates.Decrement
update_by _ = None

-- one that stands on the line of the token before it
abbrev pub update_near : Option Token → Option UpdateOperator
update_near None = None
update_near (Some t) = if t.newline_before then None else update_by t.kind

-- what stands before an operand (13.4, 13.5)
pub data Prefix : Type 0 where
  deletes : Prefix
  a_unary : UnaryOperator → Prefix
  an_update : UpdateOperator → Prefix
  no_prefix : Prefix

-- what a token of this kind is before an operand
abbrev pub prefix_by : TokenKind → Prefix
prefix_by kinds.Delete = deletes
prefix_by kinds.Void = a_unary unaries.Void
prefix_by kinds.Typeof = a_unary unaries.Typeof
prefix_by kinds.Plus = a_unary unaries.Plus
prefix_by kinds.Minus = a_unary unaries.Minus
prefix_by kinds.BitwiseNot = a_unary unaries.BitwiseNot
prefix_by kinds.LogicalNot = a_unary unaries.LogicalNot
prefix_by kinds.Increment = an_update updates.Increment
prefix_by kinds.Decrement = an_update updates.Decrement
prefix_by _ = no_prefix

-- what the next token is before an operand
abbrev pub prefix : Option Token → Prefix
prefix None = no_prefix
prefix (Some t) = prefix_by t.kind

-- an operator between two operands (13.6 to 13.13)
abbrev pub operator_by : TokenKind → Option BinaryOperator
operator_by kinds.LogicalOr = Some binaries.LogicalOr
operator_by kinds.LogicalAnd = Some binaries.LogicalAnd
operator_by kinds.BitwiseOr = Some binaries.BitwiseOr
operator_by kinds.BitwiseXor = Some binaries.BitwiseXor
operator_by kinds.BitwiseAnd = Some binaries.BitwiseAnd
operator_by kinds.Equal = Some binaries.Equal
operator_by kinds.NotEqual = Some binaries.NotEqual
operator_by kinds.StrictEqual = Some binaries.StrictEqual
operator_by kinds.StrictNotEqual = Some binaries.StrictNotEqual
operator_by kinds.LessThan = Some binaries.LessThan
operator_by kinds.GreaterThan = Some binaries.GreaterThan
operator_by kinds.LessThanOrEqual = Some binaries.LessThanOrEqual
operator_by kinds.GreaterThanOrEqual = Some binaries.GreaterThanOrEqual
operator_by kinds.LeftShift = Some binaries.LeftShift
operator_by kinds.RightShift = Some binaries.RightShift
operator_by kinds.UnsignedRightShift = Some binaries.UnsignedRightShift
operator_by kinds.Plus = Some binaries.Add
operator_by kinds.Minus = Some binaries.Subtract
operator_by kinds.Multiply = Some binaries.Multiply
operator_by kinds.Divide = Some binaries.Divide
operator_by kinds.Remainder = Some binaries.Remainder
operator_by _ = None

-- the operator that the next token is, if it is one
abbrev pub operator : Option Token → Option BinaryOperator
operator None = None
operator (Some t) = operator_by t.kind

-- what goes on behind an operation (13.14, 13.15)
pub data Joint : Type 0 where
  question : Joint
  assigns_by : AssignmentOperator → Joint
  no_joint : Joint

-- what a token of this kind is behind an operation
abbrev pub joint_by : TokenKind → Joint
joint_by kinds.Question = question
joint_by kinds.Assign = assigns_by assigns.Assign
joint_by kinds.AddAssign = assigns_by assigns.Add
joint_by kinds.SubtractAssign = assigns_by assigns.Subtract
joint_by kinds.MultiplyAssign = assigns_by assigns.Multiply
joint_by kinds.DivideAssign = assigns_by assigns.Divide
joint_by kinds.RemainderAssign = assigns_by assigns.Remainder
joint_by kinds.LeftShiftAssign = assigns_by assigns.LeftShift
joint_by kinds.RightShiftAssign = assigns_by assigns.RightShift
joint_by kinds.UnsignedRightShiftAssign = assigns_by assigns.UnsignedRightShift
joint_by kinds.BitwiseAndAssign = assigns_by assigns.BitwiseAnd
joint_by kinds.BitwiseOrAssign = assigns_by assigns.BitwiseOr
joint_by kinds.BitwiseXorAssign = assigns_by assigns.BitwiseXor
joint_by _ = no_joint

-- what the next token is behind an operation
abbrev pub joint : Option Token → Joint
joint None = no_joint
joint (Some t) = joint_by t.kind

-- ---- arrow functions (15.3)

-- => on the line of the token before it
abbrev pub is_arrow : Option Token → Bool
is_arrow o = is_on_line o && is_kind kinds.Arrow o

-- How names in parentheses end, behind the first parenthesis: whether an arrow alone can follow, since there is no name
-- or a comma behind the last one; and the tokens after the last parenthesis. None where other tokens stand there.
abbrev pub past_names : Bool → List Token → Option (Bool × List Token)
past_names at_name [] = None
past_names true (t ∷ ts) =
    if is_kind kinds.RightParenthesis (Some t) then Some (true, ts) else
    (if is_kind kinds.Name (Some t) then past_names false ts else None)
past_names false (t ∷ ts) =
    if is_kind kinds.RightParenthesis (Some t) then Some (false, ts) else
    (if is_kind kinds.Comma (Some t) then past_names true ts else None)

-- what an arrow function begins with
pub data ArrowStart : Type 0 where
  one_parameter : ArrowStart
  -- names in parentheses; of true no expression in parentheses begins so
  listed : Bool → ArrowStart
  no_arrow : ArrowStart

-- the head that names in parentheses are, by how they end: where an expression can begin so, an arrow must follow
abbrev pub listed_by : Option (Bool × List Token) → ArrowStart
listed_by None = no_arrow
listed_by (Some (true, ts)) = listed true
listed_by (Some (false, ts)) = if is_arrow (head_of ts) then listed false else no_arrow

-- what a token that begins so and those behind it are the head of
abbrev pub head_by : PrimaryStart → List Token → ArrowStart
head_by (a_name n) ts = if is_arrow (head_of ts) then one_parameter else no_arrow
head_by parenthesis ts = listed_by (past_names true ts)
head_by _ ts = no_arrow

-- the head of an arrow function with which the tokens begin, if they begin with one
abbrev pub arrow_head : List Token → ArrowStart
arrow_head ts = head_by (start (head_of ts)) (tail_of ts)

-- ---- object literals (13.2.5)

-- what begins a key
pub data KeyStart : Type 0 where
  a_word_key : List ℕ → KeyStart
  a_string_key : List ℕ → KeyStart
  a_number_key : ℕ → KeyStart
  a_computed_key : KeyStart
  no_key : KeyStart

-- what a token of this kind is as a key, with its string value and its number
abbrev pub key_start_by : TokenKind → List ℕ → ℕ → KeyStart
key_start_by kinds.String s n = a_string_key s
key_start_by kinds.Number s n = a_number_key n
key_start_by kinds.LeftBracket s n = a_computed_key
key_start_by k s n = if is_word k then a_word_key s else no_key

-- what the next token is as a key
abbrev pub key_start : Option Token → KeyStart
key_start None = no_key
key_start (Some t) = key_start_by t.kind t.string_value t.numeric_value

-- what comes behind a key
pub data AfterKey : Type 0 where
  colon : AfterKey
  parameters : AfterKey
  no_member : AfterKey

-- what a token of this kind is behind a key
abbrev pub after_key_by : TokenKind → AfterKey
after_key_by kinds.Colon = colon
after_key_by kinds.LeftParenthesis = parameters
after_key_by _ = no_member

-- what the next token is behind a key
abbrev pub after_key : Option Token → AfterKey
after_key None = no_member
after_key (Some t) = after_key_by t.kind

-- a name with neither a colon nor a parenthesis behind it
abbrev pub is_shorthand_by : Bool → AfterKey → Bool
is_shorthand_by true no_member = true
is_shorthand_by _ _ = false

-- the member that comes is a name alone
abbrev pub is_shorthand : List Token → Bool
is_shorthand ts = is_shorthand_by (is_kind kinds.Name (head_of ts)) (after_key (head_of (tail_of ts)))

-- ---- statements (14)

-- what begins a statement or a declaration
pub data StatementStart : Type 0 where
  a_block : StatementStart
  a_lexical : Bool → StatementStart
  a_semicolon : StatementStart
  an_if : StatementStart
  a_do : StatementStart
  a_while : StatementStart
  a_for : StatementStart
  a_continue : StatementStart
  a_break : StatementStart
  a_return : StatementStart
  a_throw : StatementStart
  a_try : StatementStart
  a_debugger : StatementStart
  a_function : StatementStart
  an_expression : StatementStart

-- what a token of this kind begins; any that begins no other statement begins an expression, if any
abbrev pub first_by : TokenKind → StatementStart
first_by kinds.LeftBrace = a_block
first_by kinds.Let = a_lexical false
first_by kinds.Const = a_lexical true
first_by kinds.Semicolon = a_semicolon
first_by kinds.If = an_if
first_by kinds.Do = a_do
first_by kinds.While = a_while
first_by kinds.For = a_for
first_by kinds.Continue = a_continue
first_by kinds.Break = a_break
first_by kinds.Return = a_return
first_by kinds.Throw = a_throw
first_by kinds.Try = a_try
first_by kinds.Debugger = a_debugger
first_by kinds.Function = a_function
first_by _ = an_expression

-- what the next token begins
abbrev pub first : Option Token → StatementStart
first None = an_expression
first (Some t) = first_by t.kind

-- whether return ends here, since no value follows it on its line
abbrev pub ends_return : Option Token → Bool
ends_return o = is_kind kinds.Semicolon o || absent after_word o

-- the token is this name
abbrev pub is_name : List ℕ → Option Token → Bool
is_name n o = is_kind kinds.Name o && pointwise nat_eq (text_of o) n

-- what the head of a for begins with, behind its parenthesis (14.7.4, 14.7.5)
pub data ForHead : Type 0 where
  -- let or const with one name and of
  each : Bool → ForHead
  -- let or const
  declares : Bool → ForHead
  plain_head : ForHead

-- the head whose first token begins so, with the tokens behind it
abbrev pub for_head_by : StatementStart → List Token → ForHead
for_head_by (a_lexical c) ts =
    if is_kind kinds.Name (head_of ts) && is_name (codes "of") (head_of (tail_of ts)) then each c else declares c
for_head_by _ ts = plain_head

-- the head that the tokens behind the parenthesis begin
abbrev pub for_head : List Token → ForHead
for_head ts = for_head_by (first (head_of ts)) (tail_of ts)
