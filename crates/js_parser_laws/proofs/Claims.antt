-- What is claimed of the readers: of what reads below a node, and of productions.
use Rattle.std.specs.Prelude.{◌≡◌, ℕ, suc, max, ◌≤◌, Bool, true, false, ◌&&◌, List, [], ◌∷◌, ◌++◌, Option, Some, None, Ok}
use Rattle.js_lexer.specs.declared.token.TokenKind.{TokenKind}
use Rattle.js_lexer.specs.declared.token.TokenKind.TheVariants as kinds
use Rattle.js_tree.specs.Trees.{Identifier, Expression, Statement, Statements}
use Rattle.js_parser_language.specs.Tokens.{Token, fixed, identifier, FlatToken, token, beside, semicolon, ExpressionEnd, plain, braces, update, after_expression, head_of, Matches}
use Rattle.js_parser_language.specs.Flat as flats
use Rattle.js_parser_language.specs.Flat.{edge, flat, flat_optional, flat_expressions, trailing, flat_declarators, flat_statement, flat_statements, flat_parameters}
use Rattle.js_parser_language.specs.Well as levels
use Rattle.js_parser_language.specs.Well.{StatementContext, function_body, level, Well, WellOptional, AreAssignments, WellDeclarators, IsInitialized, is_some_declarator, WellStatement, WellStatements, is_statement, ends_in_if, AreFresh, DifferIn, declared_by, declared_names, names_of_declarators}
use Rattle.js_tree.specs.Height.{height, height_of_optional, height_of_expressions, height_of_declarators, height_of_statement, height_of_statements}
use Rattle.js_parser_language.specs.Kinds.{is_kind}
use Rattle.js_parser_readers.specs.Classes.{no_link, link, update_near, operator, no_joint, joint, is_arrow}
use Rattle.js_parser_readers.specs.Parsing.{operator_from}
use Rattle.js_parser_readers.specs.Productions.{ParametersAndBody, Below, Piece, tok, near, a_name, the_name, an_assignment, an_expression, optional, arguments, ended, an_end, declared, a_statement, a_block, in_braces, code, PieceValue, PieceValues, seq}

-- ---- what is read is a well-formed tree's

-- an expression of this level at least, at most n high
pub record TakesExpression (low n : ℕ) (ts : List Token) (e : Expression) (r : List Token) : Type 0 where
  pub marks : Matches (flat e) ts r
  pub well : Well e
  pub level : low ≤ level e
  pub height : height e ≤ n

-- no else follows a statement that ends in an if without one
abbrev pub NoElse : Statement → List Token → Type 0
NoElse s r = ends_in_if s ≡ true → is_kind kinds.Else (head_of r) ≡ false

-- a statement or a declaration of other names than those taken
pub record TakesItem (context : StatementContext) (taken : List Identifier) (n : ℕ) (ts : List Token) (s : Statement)
    (r : List Token) : Type 0 where
  pub marks : Matches (flat_statement s) ts r
  pub well : WellStatement context s
  pub fresh : AreFresh taken (declared_by s)
  pub no_else : NoElse s r
  pub height : height_of_statement s ≤ n

-- a statement, at most n high
pub record TakesStatement (context : StatementContext) (n : ℕ) (ts : List Token) (s : Statement) (r : List Token) : Type 0 where
  pub marks : Matches (flat_statement s) ts r
  pub well : WellStatement context s
  pub form : is_statement s ≡ true
  pub no_else : NoElse s r
  pub height : height_of_statement s ≤ n

-- statements in braces, each at most n high
pub record TakesBlock (context : StatementContext) (taken : List Identifier) (n : ℕ) (ts : List Token) (ss : Statements)
    (r : List Token) : Type 0 where
  pub marks : Matches (flats.in_braces (flat_statements ss)) ts r
  pub well : WellStatements context ss
  pub fresh : AreFresh taken (declared_names ss)
  pub height : height_of_statements ss ≤ n

-- the parameters of a function and its body, whose statements are at most n high
pub record TakesCode (n : ℕ) (ts : List Token) (f : ParametersAndBody) (r : List Token) : Type 0 where
  pub marks : Matches (flat_parameters f.parameters ++ flats.in_braces (flat_statements f.body)) ts r
  pub differ : DifferIn f.parameters f.body
  pub well : WellStatements function_body f.body
  pub height : height_of_statements f.body ≤ n

-- What reads below a node reads well-formed trees at most n high. A block and a function count one beside their
-- statements.
pub record SoundBelow (n : ℕ) (b : Below) : Type 0 where
  pub assignment : (ts : List Token) (x : Expression × List Token)
      → b.assignment ts ≡ Ok x
      → TakesExpression levels.an_assignment n ts x.0 x.1
  pub expression : (ts : List Token) (x : Expression × List Token)
      → b.expression ts ≡ Ok x
      → TakesExpression levels.any_expression n ts x.0 x.1
  -- an operation ends before an operator that binds so tightly
  pub operation : (m : ℕ)
      → m ≤ levels.a_unary
      → (ts : List Token) (x : Expression × List Token)
      → b.operation m ts ≡ Ok x
      → TakesExpression m n ts x.0 x.1 × (operator_from m (operator (head_of x.1)) ≡ None)
  pub unary : (ts : List Token) (x : Expression × List Token)
      → b.unary ts ≡ Ok x
      → TakesExpression levels.a_unary n ts x.0 x.1
  pub call : (ts : List Token) (x : Expression × List Token)
      → b.call ts ≡ Ok x
      → TakesExpression levels.a_call n ts x.0 x.1
  pub statement : (context : StatementContext) (ts : List Token) (x : Statement × List Token)
      → b.statement context ts ≡ Ok x
      → TakesStatement context n ts x.0 x.1
  pub item : (context : StatementContext) (taken : List Identifier) (ts : List Token) (x : Statement × List Token)
      → b.item context taken ts ≡ Ok x
      → TakesItem context taken n ts x.0 x.1
  pub block : (context : StatementContext) (taken : List Identifier) (ts : List Token) (x : Statements × List Token)
      → b.block context taken ts ≡ Ok x
      → TakesBlock context taken n ts x.0 x.1 × (suc (height_of_statements x.0) ≤ n)
  pub function : (ts : List Token) (x : ParametersAndBody × List Token)
      → b.function ts ≡ Ok x
      → TakesCode n ts x.0 x.1 × (suc (height_of_statements x.0.body) ≤ n)

-- ---- the flat tokens of a production

-- the flat tokens of an item with this value
abbrev pub marks_of : (i : Piece) → PieceValue i → List FlatToken
marks_of (tok k) v = token (fixed k) ∷ []
marks_of (near k) v = beside (fixed k) ∷ []
marks_of a_name n = token (identifier n) ∷ []
marks_of (the_name n) v = token (identifier n) ∷ []
marks_of an_assignment e = flat e
marks_of an_expression e = flat e
marks_of (optional k) e = flat_optional e ++ (token (fixed k) ∷ [])
marks_of (arguments k) es = flat_expressions es ++ (trailing es ++ (token (fixed k) ∷ []))
marks_of ended e = flat e ++ (semicolon (after_expression (edge e)) ∷ [])
marks_of (an_end end) v = semicolon end ∷ []
marks_of (declared constant taken) ds = flat_declarators ds
marks_of (a_statement context) s = flat_statement s
marks_of (a_block context taken) ss = flats.in_braces (flat_statements ss)
marks_of (in_braces context taken) ss = flats.in_braces (flat_statements ss)
marks_of code f = flat_parameters f.parameters ++ flats.in_braces (flat_statements f.body)

-- the flat tokens of items with these values, one after another
abbrev pub marks : (is : List Piece) → PieceValues is → List FlatToken
marks [] vs = []
marks (i ∷ is) vs = marks_of i vs.0 ++ marks is vs.1

-- a value of an item is well-formed
abbrev pub Sane : (i : Piece) → PieceValue i → Type 0
Sane an_assignment e = Well e × (levels.an_assignment ≤ level e)
Sane an_expression e = Well e
Sane (optional k) e = WellOptional e
Sane (arguments k) es = AreAssignments es
Sane ended e = Well e
Sane (declared constant taken) ds =
    (is_some_declarator ds ≡ true)
    × WellDeclarators ds
    × IsInitialized constant ds
    × AreFresh taken (names_of_declarators ds)
Sane (a_statement context) s = WellStatement context s × (is_statement s ≡ true)
Sane (a_block context taken) ss = AreFresh taken (declared_names ss) × WellStatements context ss
Sane (in_braces context taken) ss = AreFresh taken (declared_names ss) × WellStatements context ss
Sane code f = DifferIn f.parameters f.body × WellStatements function_body f.body
Sane i v = Unit {0}

-- the values of all items are well-formed
abbrev pub AllSane : (is : List Piece) → PieceValues is → Type 0
AllSane [] vs = Unit {0}
AllSane (i ∷ is) vs = Sane i vs.0 × AllSane is vs.1

-- how high what an item counts is
abbrev pub height_at : (i : Piece) → PieceValue i → ℕ
height_at an_assignment e = height e
height_at an_expression e = height e
height_at (optional k) e = height_of_optional e
height_at (arguments k) es = height_of_expressions es
height_at ended e = height e
height_at (declared constant taken) ds = height_of_declarators ds
height_at (a_statement context) s = height_of_statement s
height_at (a_block context taken) ss = suc (height_of_statements ss)
height_at (in_braces context taken) ss = height_of_statements ss
height_at code f = height_of_statements f.body
height_at i v = 0

-- how high the highest of some items' values is
abbrev pub height_all : (is : List Piece) → PieceValues is → ℕ
height_all [] vs = 0
height_all (i ∷ is) vs = max (height_at i vs.0) (height_all is vs.1)

-- behind the last item: no else after a statement that ends in an if without one
abbrev pub LastNoElse : (is : List Piece) → PieceValues is → List Token → Type 0
LastNoElse [] vs r = Unit {0}
LastNoElse (a_statement context ∷ []) vs r = NoElse vs.0 r
LastNoElse (i ∷ []) vs r = Unit {0}
LastNoElse (i ∷ j ∷ is) vs r = LastNoElse (j ∷ is) vs.1 r

-- The law of productions: what is read is that of its items.
pub record TakesAll (n : ℕ) (is : List Piece) (ts : List Token) (vs : PieceValues is) (r : List Token) : Type 0 where
  pub marks : Matches (marks is vs) ts r
  pub sane : AllSane is vs
  pub last : LastNoElse is vs r
  pub height : height_all is vs ≤ n

-- where what reads below a node is sound, so is what reads the items of a production
abbrev pub SeqSound : Type 0
SeqSound =
    (n : ℕ) (b : Below)
    → SoundBelow n b
    → (is : List Piece) (ts : List Token) (x : PieceValues is × List Token)
    → seq b is ts ≡ Ok x
    → TakesAll n is ts x.0 x.1

-- ---- what is well-formed is read

-- nothing goes on with an expression that ends so
abbrev pub Stops : ExpressionEnd → List Token → Type 0
Stops plain r =
    (link (head_of r) ≡ no_link)
    × (update_near (head_of r) ≡ None)
    × (operator (head_of r) ≡ None)
    × (joint (head_of r) ≡ no_joint)
    × (is_arrow (head_of r) ≡ false)
Stops update r = (operator (head_of r) ≡ None) × (joint (head_of r) ≡ no_joint)
Stops braces r = Unit {0}

-- no comma comes next
abbrev pub NoComma : List Token → Type 0
NoComma r = is_kind kinds.Comma (head_of r) ≡ false

-- what goes on with an operation is no operator that binds so tightly
abbrev pub StopsOperation : ℕ → ExpressionEnd → List Token → Type 0
StopsOperation m plain r =
    (link (head_of r) ≡ no_link) × (update_near (head_of r) ≡ None) × (operator_from m (operator (head_of r)) ≡ None)
StopsOperation m update r = operator_from m (operator (head_of r)) ≡ None
StopsOperation m braces r = Unit {0}

-- a unary expression is followed by no member, call or update
abbrev pub StopsUnary : ExpressionEnd → List Token → Type 0
StopsUnary plain r = (link (head_of r) ≡ no_link) × (update_near (head_of r) ≡ None)
StopsUnary _ r = Unit {0}

-- what may follow a statement: no token that could only go on with an expression, and no finally, which goes on with a
-- try
abbrev pub follows_by : TokenKind → Bool
follows_by kinds.Finally = false
follows_by kinds.Dot = false
follows_by kinds.Comma = false
follows_by kinds.RightParenthesis = false
follows_by kinds.RightBracket = false
follows_by kinds.Colon = false
follows_by kinds.Question = false
follows_by kinds.LessThan = false
follows_by kinds.GreaterThan = false
follows_by kinds.LessThanOrEqual = false
follows_by kinds.GreaterThanOrEqual = false
follows_by kinds.Equal = false
follows_by kinds.NotEqual = false
follows_by kinds.StrictEqual = false
follows_by kinds.StrictNotEqual = false
follows_by kinds.Multiply = false
follows_by kinds.Divide = false
follows_by kinds.Remainder = false
follows_by kinds.LeftShift = false
follows_by kinds.RightShift = false
follows_by kinds.UnsignedRightShift = false
follows_by kinds.BitwiseAnd = false
follows_by kinds.BitwiseOr = false
follows_by kinds.BitwiseXor = false
follows_by kinds.LogicalAnd = false
follows_by kinds.LogicalOr = false
follows_by kinds.Assign = false
follows_by kinds.AddAssign = false
follows_by kinds.SubtractAssign = false
follows_by kinds.MultiplyAssign = false
follows_by kinds.DivideAssign = false
follows_by kinds.RemainderAssign = false
follows_by kinds.LeftShiftAssign = false
follows_by kinds.RightShiftAssign = false
follows_by kinds.UnsignedRightShiftAssign = false
follows_by kinds.BitwiseAndAssign = false
follows_by kinds.BitwiseOrAssign = false
follows_by kinds.BitwiseXorAssign = false
follows_by kinds.Arrow = false
follows_by kinds.Name = true
follows_by kinds.Number = true
follows_by kinds.String = true
follows_by kinds.Break = true
follows_by kinds.Case = true
follows_by kinds.Catch = true
follows_by kinds.Class = true
follows_by kinds.Const = true
follows_by kinds.Continue = true
follows_by kinds.Debugger = true
follows_by kinds.Default = true
follows_by kinds.Delete = true
follows_by kinds.Do = true
follows_by kinds.Else = true
follows_by kinds.Enum = true
follows_by kinds.Export = true
follows_by kinds.Extends = true
follows_by kinds.False = true
follows_by kinds.For = true
follows_by kinds.Function = true
follows_by kinds.If = true
follows_by kinds.Import = true
follows_by kinds.In = true
follows_by kinds.Instanceof = true
follows_by kinds.New = true
follows_by kinds.Null = true
follows_by kinds.Return = true
follows_by kinds.Super = true
follows_by kinds.Switch = true
follows_by kinds.This = true
follows_by kinds.Throw = true
follows_by kinds.True = true
follows_by kinds.Try = true
follows_by kinds.Typeof = true
follows_by kinds.Var = true
follows_by kinds.Void = true
follows_by kinds.While = true
follows_by kinds.With = true
follows_by kinds.Let = true
follows_by kinds.Static = true
follows_by kinds.Implements = true
follows_by kinds.Interface = true
follows_by kinds.Package = true
follows_by kinds.Private = true
follows_by kinds.Protected = true
follows_by kinds.Public = true
follows_by kinds.Yield = true
follows_by kinds.Await = true
follows_by kinds.Eval = true
follows_by kinds.Arguments = true
follows_by kinds.LeftBrace = true
follows_by kinds.RightBrace = true
follows_by kinds.LeftParenthesis = true
follows_by kinds.LeftBracket = true
follows_by kinds.Semicolon = true
follows_by kinds.Plus = true
follows_by kinds.Minus = true
follows_by kinds.Increment = true
follows_by kinds.Decrement = true
follows_by kinds.LogicalNot = true
follows_by kinds.BitwiseNot = true

-- the next token, if there is one, may follow a statement
abbrev pub follows_statement : Option Token → Bool
follows_statement None = true
follows_statement (Some t) = follows_by t.kind

-- what may follow this statement comes next
abbrev pub Follows : Statement → List Token → Type 0
Follows s r = (follows_statement (head_of r) ≡ true) × NoElse s r

-- What reads below a node reads every well-formed tree that is at most n high.
pub record AgainBelow (n : ℕ) (b : Below) : Type 0 where
  pub assignment : (e : Expression)
      → Well e
      → levels.an_assignment ≤ level e
      → height e ≤ n
      → (ts r : List Token)
      → Matches (flat e) ts r
      → Stops (edge e) r
      → b.assignment ts ≡ Ok (e, r)
  pub expression : (e : Expression)
      → Well e
      → height e ≤ n
      → (ts r : List Token)
      → Matches (flat e) ts r
      → Stops (edge e) r
      → NoComma r
      → b.expression ts ≡ Ok (e, r)
  pub operation : (m : ℕ) (e : Expression)
      → Well e
      → levels.an_operation ≤ level e
      → m ≤ level e
      → height e ≤ n
      → (ts r : List Token)
      → Matches (flat e) ts r
      → StopsOperation m (edge e) r
      → b.operation m ts ≡ Ok (e, r)
  pub unary : (e : Expression)
      → Well e
      → levels.a_unary ≤ level e
      → height e ≤ n
      → (ts r : List Token)
      → Matches (flat e) ts r
      → StopsUnary (edge e) r
      → b.unary ts ≡ Ok (e, r)
  pub call : (e : Expression)
      → Well e
      → levels.a_call ≤ level e
      → height e ≤ n
      → (ts r : List Token)
      → Matches (flat e) ts r
      → link (head_of r) ≡ no_link
      → b.call ts ≡ Ok (e, r)
  pub statement : (context : StatementContext) (s : Statement)
      → WellStatement context s
      → is_statement s ≡ true
      → height_of_statement s ≤ n
      → (ts r : List Token)
      → Matches (flat_statement s) ts r
      → Follows s r
      → b.statement context ts ≡ Ok (s, r)
  pub item : (context : StatementContext) (taken : List Identifier) (s : Statement)
      → WellStatement context s
      → AreFresh taken (declared_by s)
      → height_of_statement s ≤ n
      → (ts r : List Token)
      → Matches (flat_statement s) ts r
      → Follows s r
      → b.item context taken ts ≡ Ok (s, r)
  pub block : (context : StatementContext) (taken : List Identifier) (ss : Statements)
      → WellStatements context ss
      → AreFresh taken (declared_names ss)
      → suc (height_of_statements ss) ≤ n
      → (ts r : List Token)
      → Matches (flats.in_braces (flat_statements ss)) ts r
      → b.block context taken ts ≡ Ok (ss, r)
  pub function : (f : ParametersAndBody)
      → DifferIn f.parameters f.body
      → WellStatements function_body f.body
      → suc (height_of_statements f.body) ≤ n
      → (ts r : List Token)
      → Matches (flat_parameters f.parameters ++ flats.in_braces (flat_statements f.body)) ts r
      → b.function ts ≡ Ok (f, r)

-- what an item's value needs of what follows it
abbrev pub Ends : (i : Piece) → PieceValue i → List Token → Type 0
Ends an_assignment e r = Stops (edge e) r
Ends an_expression e r = Stops (edge e) r × NoComma r
Ends ended e r = follows_statement (head_of r) ≡ true
Ends (a_statement context) s r = Follows s r
Ends i v r = Unit {0}

-- what the last item's value needs of what follows it
abbrev pub EndsLast : (is : List Piece) → PieceValues is → List Token → Type 0
EndsLast [] vs r = Unit {0}
EndsLast (i ∷ []) vs r = Ends i vs.0 r
EndsLast (i ∷ j ∷ is) vs r = EndsLast (j ∷ is) vs.1 r

-- a token that goes on with no expression
abbrev pub closes : TokenKind → Bool
closes kinds.RightParenthesis = true
closes kinds.RightBracket = true
closes kinds.RightBrace = true
closes kinds.Semicolon = true
closes kinds.Colon = true
closes _ = false

-- which items may stand before which, so that each ends where it should
abbrev pub fits : Piece → List Piece → Bool
fits an_assignment (tok k ∷ is) = closes k
fits an_assignment [] = true
fits an_assignment is = false
fits an_expression (tok k ∷ is) = closes k
fits an_expression [] = true
fits an_expression is = false
fits ended [] = true
fits ended is = false
fits (declared constant taken) (tok kinds.Semicolon ∷ is) = true
fits (declared constant taken) is = false
fits (a_statement context) (tok kinds.While ∷ is) = true
fits (a_statement context) [] = true
fits (a_statement context) is = false
fits (optional k) is = closes k
fits (arguments k) is = closes k
fits i is = true

-- each item fits before those behind it
abbrev pub all_fit : List Piece → Bool
all_fit [] = true
all_fit (i ∷ is) = fits i is && all_fit is

-- where every well-formed tree is read below a node, so are the items of a production that fit
abbrev pub SeqAgain : Type 0
SeqAgain =
    (n : ℕ) (b : Below)
    → AgainBelow n b
    → (is : List Piece) (vs : PieceValues is) (ts r : List Token)
    → AllSane is vs
    → height_all is vs ≤ n
    → all_fit is ≡ true
    → EndsLast is vs r
    → Matches (marks is vs) ts r
    → seq b is ts ≡ Ok (vs, r)
