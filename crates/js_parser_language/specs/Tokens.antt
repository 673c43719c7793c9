-- The tokens of a source as the grammar sees them, and which of them a tree's flat tokens match.
use Rattle.std.specs.Prelude.{◌≡◌, ◌⊎◌, ℕ, Bool, true, false, not, ◌&&◌, List, [], ◌∷◌, Option, Some, None}
use Rattle.js_lexer.specs.declared.token.TokenKind.{TokenKind}
use Rattle.js_lexer.specs.declared.token.TokenKind.TheVariants as kinds

-- A token of a source. Its string value is that of a word or a string literal (ECMA-262, 13.1.2 and 12.9.4.2), its
-- numeric value that of a number (12.9.3.3); it stands from start up to end.
pub record Token : Type 0 where
  pub kind : TokenKind
  pub string_value : List ℕ
  pub numeric_value : ℕ
  pub newline_before : Bool
  pub start : ℕ
  pub end : ℕ

-- ---- symbols

-- The terminal symbols of the grammar. A fixed one is a punctuator or a reserved word; an identifier is a name that
-- isn't reserved, an identifier name any name or reserved word (12.7).
pub data Symbol : Type 0 where
  fixed : TokenKind → Symbol
  identifier : List ℕ → Symbol
  identifier_name : List ℕ → Symbol
  numeric_literal : ℕ → Symbol
  string_literal : List ℕ → Symbol

-- a name or a reserved word (12.7, IdentifierName)
abbrev pub is_word : TokenKind → Bool
is_word kinds.Number = false
is_word kinds.String = false
is_word kinds.LeftBrace = false
is_word kinds.RightBrace = false
is_word kinds.LeftParenthesis = false
is_word kinds.RightParenthesis = false
is_word kinds.LeftBracket = false
is_word kinds.RightBracket = false
is_word kinds.Dot = false
is_word kinds.Semicolon = false
is_word kinds.Comma = false
is_word kinds.LessThan = false
is_word kinds.GreaterThan = false
is_word kinds.LessThanOrEqual = false
is_word kinds.GreaterThanOrEqual = false
is_word kinds.Equal = false
is_word kinds.NotEqual = false
is_word kinds.StrictEqual = false
is_word kinds.StrictNotEqual = false
is_word kinds.Plus = false
is_word kinds.Minus = false
is_word kinds.Multiply = false
is_word kinds.Divide = false
is_word kinds.Remainder = false
is_word kinds.Increment = false
is_word kinds.Decrement = false
is_word kinds.LeftShift = false
is_word kinds.RightShift = false
is_word kinds.UnsignedRightShift = false
is_word kinds.BitwiseAnd = false
is_word kinds.BitwiseOr = false
is_word kinds.BitwiseXor = false
is_word kinds.LogicalNot = false
is_word kinds.BitwiseNot = false
is_word kinds.LogicalAnd = false
is_word kinds.LogicalOr = false
is_word kinds.Question = false
is_word kinds.Colon = false
is_word kinds.Assign = false
is_word kinds.AddAssign = false
is_word kinds.SubtractAssign = false
is_word kinds.MultiplyAssign = false
is_word kinds.DivideAssign = false
is_word kinds.RemainderAssign = false
is_word kinds.LeftShiftAssign = false
is_word kinds.RightShiftAssign = false
is_word kinds.UnsignedRightShiftAssign = false
is_word kinds.BitwiseAndAssign = false
is_word kinds.BitwiseOrAssign = false
is_word kinds.BitwiseXorAssign = false
is_word kinds.Arrow = false
is_word kinds.Name = true
is_word kinds.Break = true
is_word kinds.Case = true
is_word kinds.Catch = true
is_word kinds.Class = true
is_word kinds.Const = true
is_word kinds.Continue = true
is_word kinds.Debugger = true
is_word kinds.Default = true
is_word kinds.Delete = true
is_word kinds.Do = true
is_word kinds.Else = true
is_word kinds.Enum = true
is_word kinds.Export = true
is_word kinds.Extends = true
is_word kinds.False = true
is_word kinds.Finally = true
is_word kinds.For = true
is_word kinds.Function = true
is_word kinds.If = true
is_word kinds.Import = true
is_word kinds.In = true
is_word kinds.Instanceof = true
is_word kinds.New = true
is_word kinds.Null = true
is_word kinds.Return = true
is_word kinds.Super = true
is_word kinds.Switch = true
is_word kinds.This = true
is_word kinds.Throw = true
is_word kinds.True = true
is_word kinds.Try = true
is_word kinds.Typeof = true
is_word kinds.Var = true
is_word kinds.Void = true
is_word kinds.While = true
is_word kinds.With = true
is_word kinds.Let = true
is_word kinds.Static = true
is_word kinds.Implements = true
is_word kinds.Interface = true
is_word kinds.Package = true
is_word kinds.Private = true
is_word kinds.Protected = true
is_word kinds.Public = true
is_word kinds.Yield = true
is_word kinds.Await = true
is_word kinds.Eval = true
is_word kinds.Arguments = true

-- the token is this symbol
abbrev pub IsSymbol : Symbol → Token → Type 0
IsSymbol (fixed k) t = t.kind ≡ k
IsSymbol (identifier n) t = (t.kind ≡ kinds.Name) × (t.string_value ≡ n)
IsSymbol (identifier_name n) t = (is_word t.kind ≡ true) × (t.string_value ≡ n)
IsSymbol (numeric_literal v) t = (t.kind ≡ kinds.Number) × (t.numeric_value ≡ v)
IsSymbol (string_literal v) t = (t.kind ≡ kinds.String) × (t.string_value ≡ v)

-- ---- absent semicolons (12.10)

-- what the last token of an expression ends
pub data ExpressionEnd : Type 0 where
  plain : ExpressionEnd
  -- an arrow function with a body in braces
  braces : ExpressionEnd
  -- a postfix ++ or --
  update : ExpressionEnd

-- what a statement ends in before its semicolon
pub data StatementEnd : Type 0 where
  after_expression : ExpressionEnd → StatementEnd
  -- a keyword, or a declared name without initializer
  after_word : StatementEnd
  -- the ) of a do
  after_do : StatementEnd

-- A token that goes on with an expression which ends so, also on a new line. The project's own: of all tokens that
-- ECMA-262 lets go on there, these are the ones that could begin a statement too. After an arrow function's braces none
-- does (15.3), and neither call nor key follows a postfix operator (13.4).
abbrev pub continues : ExpressionEnd → TokenKind → Bool
continues plain kinds.LeftParenthesis = true
continues plain kinds.LeftBracket = true
continues plain kinds.Plus = true
continues plain kinds.Minus = true
continues update kinds.Plus = true
continues update kinds.Minus = true
continues _ _ = false

-- Whether the semicolon of a statement that ends so may be absent before a token of this kind, with or without a line
-- terminator between.
abbrev pub absent_before : StatementEnd → TokenKind → Bool → Bool
-- the project's own: where a semicolon stands, it is the statement's
absent_before end kinds.Semicolon line = false
-- 12.10.1: before the offending token }
absent_before end kinds.RightBrace line = true
-- 12.10.1: at the end of a do-while statement
absent_before after_do kind line = true
-- 12.10.1: before an offending or restricted token behind a line terminator
absent_before after_word kind line = line
absent_before (after_expression edge) kind line = line && not (continues edge kind)

-- whether that semicolon may be absent before the next token, or at the end of the source
abbrev pub absent : StatementEnd → Option Token → Bool
-- 12.10.1: at the end of the input
absent end None = true
absent end (Some t) = absent_before end t.kind t.newline_before

-- ---- marks

-- What stands at a place of a tree's flat tokens.
pub data FlatToken : Type 0 where
  -- a token
  token : Symbol → FlatToken
  -- a token with no line terminator before it
  beside : Symbol → FlatToken
  -- the semicolon of a statement that ends so, which may be absent
  semicolon : StatementEnd → FlatToken
  -- the comma behind the last element of a list in parentheses, brackets or braces, which may be absent
  trailing_comma : FlatToken

-- the next token
abbrev pub head_of : List Token → Option Token
head_of [] = None
head_of (t ∷ ts) = Some t

-- the tokens after it
abbrev pub tail_of : List Token → List Token
tail_of [] = []
tail_of (t ∷ ts) = ts

-- the next token is this symbol
abbrev pub IsNext : Symbol → Option Token → Type 0
IsNext s None = ⊥
IsNext s (Some t) = IsSymbol s t

-- no line terminator stands before the next token
abbrev pub is_on_line : Option Token → Bool
is_on_line None = true
is_on_line (Some t) = not t.newline_before

-- These marks are the first of these tokens, and the others are left.
abbrev pub Matches : List FlatToken → List Token → List Token → Type 0
Matches [] ts left = ts ≡ left
Matches (token s ∷ ms) ts left = IsNext s (head_of ts) × Matches ms (tail_of ts) left
Matches (beside s ∷ ms) ts left =
    IsNext s (head_of ts) × (is_on_line (head_of ts) ≡ true) × Matches ms (tail_of ts) left
Matches (semicolon end ∷ ms) ts left =
    (IsNext (fixed kinds.Semicolon) (head_of ts) × Matches ms (tail_of ts) left)
    ⊎ ((absent end (head_of ts) ≡ true) × Matches ms ts left)
Matches (trailing_comma ∷ ms) ts left =
    (IsNext (fixed kinds.Comma) (head_of ts) × Matches ms (tail_of ts) left) ⊎ Matches ms ts left
