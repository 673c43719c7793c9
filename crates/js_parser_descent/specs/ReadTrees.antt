-- What the functions of the descent say of their answers: a tree, its height, and the tokens behind it.
use Rattle.std.specs.Prelude.{◌≡◌, ◌≤◌, ℕ, true, List, Result, IfOk}
use Rattle.std.specs.Borrow.{Bor}
use Rattle.std.specs.Global.{Box}
use Rattle.js_lexer.specs.declared.token.Token as lexer
use Rattle.js_tree.specs.declared.node.Span.{Span}
use Rattle.js_tree.specs.declared.tree.Expr.{Expr}
use Rattle.js_tree.specs.declared.tree.Stmt.{Stmt}
use Rattle.js_tree.specs.Trees.{Expression, Statement}
use Rattle.js_tree.specs.Height.{height, height_of_statement}
use Rattle.js_tree.specs.Views.{expression_view, statement_view}
use Rattle.js_parser_language.specs.Tokens.{Token}
use Rattle.js_parser_language.specs.Places.{expression_places, statement_places}
use Rattle.js_parser_readers.specs.declared.fault.ParseError.{ParseError}
use Rattle.js_parser_readers.specs.Giving.{Gives}
use Rattle.js_parser_readers.specs.Placed.{Placed}
use Rattle.js_parser_readers.specs.Reading.{Read}
use Rattle.js_parser_readers.specs.Views.{tokens_view}

-- a tree of the code with its height, and the tokens behind it, or why there is none
abbrev pub ReadTree : Type 0 → Type 0
ReadTree X = Result (X × ℕ × Bor (List lexer.Token)) ParseError

-- ---- expressions

-- the answer is the expression that this reading gives
abbrev pub ReadsExpression : Read Expression → ReadTree (Box Expr) → Type 0
ReadsExpression read answer = Gives (λ x. (expression_view x.0.value, tokens_view x.2.now)) answer read

-- the expression is as high as is told, and at most so high
abbrev pub ExpressionWithin : ℕ → ReadTree (Box Expr) → Type 0
ExpressionWithin most answer = IfOk answer (λ x. (x.1 ≡ height (expression_view x.0.value)) × (x.1 ≤ most))

-- while the spans grew from `old` to `new`, the expression was read from `start`, and its nodes were placed
abbrev pub ExpressionPlaced : List Span → List Span → List Token → ReadTree (Box Expr) → Type 0
ExpressionPlaced old new start answer =
    IfOk answer (λ x. Placed true old new (expression_places x.0.value) start (tokens_view x.2.now))

-- ---- statements

-- the answer is the statement that this reading gives
abbrev pub ReadsStatement : Read Statement → ReadTree Stmt → Type 0
ReadsStatement read answer = Gives (λ x. (statement_view x.0, tokens_view x.2.now)) answer read

-- the statement is as high as is told, and at most so high
abbrev pub StatementWithin : ℕ → ReadTree Stmt → Type 0
StatementWithin most answer = IfOk answer (λ x. (x.1 ≡ height_of_statement (statement_view x.0)) × (x.1 ≤ most))

-- while the spans grew from `old` to `new`, the statement was read from `start`, and its nodes were placed
abbrev pub StatementPlaced : List Span → List Span → List Token → ReadTree Stmt → Type 0
StatementPlaced old new start answer =
    IfOk answer (λ x. Placed true old new (statement_places x.0) start (tokens_view x.2.now))
