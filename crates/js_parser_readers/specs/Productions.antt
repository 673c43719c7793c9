-- Productions as lists of items, which are read one after the other.
use Rattle.std.specs.Prelude.{ℕ, suc, Bool, true, false, List, [], ◌∷◌, length, Ok, Err, if◌then◌else◌}
use Rattle.js_lexer.specs.declared.token.TokenKind.{TokenKind}
use Rattle.js_lexer.specs.declared.token.TokenKind.TheVariants as kinds
use Rattle.js_tree.specs.Trees as trees
use Rattle.js_tree.specs.Trees.{Identifier, Expression, Expressions, OptionalExpression, Declarator, Declarators, Statement, Statements}
use Rattle.js_parser_language.specs.Tokens.{StatementEnd, after_expression, head_of, tail_of}
use Rattle.js_parser_language.specs.Flat.{edge}
use Rattle.js_parser_language.specs.Well.{StatementContext, function_body, declared_by}
use Rattle.js_tree.specs.Views.{expressions, statements, declarators}
use Rattle.js_parser_language.specs.Kinds.{is_kind}
use Rattle.js_parser_readers.specs.Reading.{stuck, Reader, ◌>>=◌, expect, expect_near, name_at, fresh_name, semicolon_at, elements, others, items, no_state, with_name, with_names}
use Rattle.js_parser_readers.specs.Classes.{is_name}

-- the parameters of a function and its body
pub record ParametersAndBody : Type 0 where
  pub parameters : List Identifier
  pub body : Statements

-- What reads the parts of a tree, whose height is bounded. A block and a function count one beside their statements.
pub record Below : Type 0 where
  pub assignment : Reader Expression
  pub expression : Reader Expression
  -- an operation of this strength at least
  pub operation : ℕ → Reader Expression
  pub unary : Reader Expression
  pub call : Reader Expression
  pub statement : StatementContext → Reader Statement
  -- a statement or a declaration of names that differ from these
  pub item : StatementContext → List Identifier → Reader Statement
  pub block : StatementContext → List Identifier → Reader Statements
  pub function : Reader ParametersAndBody

-- ---- lists of trees

-- the same reader for each element of a list, whatever stands before it
abbrev pub one_of : {A : Type 0} → Reader A → Unit {0} → Reader A
one_of r s ts = r ts

-- elements and arguments up to the token that ends them
unfoldable pub arguments_before : Below → TokenKind → Reader Expressions
arguments_before b closer ts = do
  x ← elements (one_of b.assignment) no_state closer (suc (length ts)) tt ts
  Ok (expressions x.0, x.1)

-- further expressions, each behind a comma
unfoldable pub more_assignments : Below → Reader Expressions
more_assignments b ts = do
  x ← others (one_of b.assignment) no_state (suc (length ts)) tt ts
  Ok (expressions x.0, x.1)

-- names in parentheses, behind the first of these
unfoldable pub names_before : Reader (List Identifier)
names_before ts = elements (one_of name_at) no_state kinds.RightParenthesis (suc (length ts)) tt ts

-- names in parentheses that differ from one another
unfoldable pub parameters_at : Reader (List Identifier)
parameters_at ts = do
  o ← expect kinds.LeftParenthesis ts
  elements fresh_name with_name kinds.RightParenthesis (suc (length o.1)) [] o.1

-- the names of a statement beside those before it
abbrev pub with_declared : List Identifier → Statement → List Identifier
with_declared taken s = with_names taken (declared_by s)

-- statements up to what ends a list, that declare other names than these
unfoldable pub items_at : Below → StatementContext → List Identifier → Reader Statements
items_at b context taken ts = do
  x ← items (λ names r. b.item context names r) with_declared (suc (length ts)) taken ts
  Ok (statements x.0, x.1)

-- statements in braces
unfoldable pub braces : Below → StatementContext → List Identifier → Reader Statements
braces b context taken ts = do
  o ← expect kinds.LeftBrace ts
  x ← items_at b context taken o.1
  c ← expect kinds.RightBrace x.1
  Ok (x.0, c.1)

-- the parameters of a function and its body
unfoldable pub code_at : Below → Reader ParametersAndBody
code_at b ts = do
  ps ← parameters_at ts
  body ← braces b function_body (with_names [] ps.0) ps.1
  Ok (record { parameters = ps.0; body = body.0 }, body.1)

-- ---- declared names

-- the initializer of a name, which a constant has
abbrev pub initializer_by : Below → Bool → Identifier → Bool → Reader Declarator
initializer_by b constant n true ts = do
  e ← b.assignment (tail_of ts)
  Ok (trees.declarator n (trees.present e.0), e.1)
initializer_by b true n false ts = Err (stuck (length ts))
initializer_by b false n false ts = Ok (trees.declarator n trees.omitted, ts)

-- a declarator whose name differs from these; a constant has its initializer (14.3.1)
unfoldable pub declarator_at : Below → Bool → List Identifier → Reader Declarator
declarator_at b constant taken ts = do
  n ← fresh_name taken ts
  initializer_by b constant n.0 (is_kind kinds.Assign (head_of n.1)) n.1

-- the name that a declarator declares
abbrev pub name_of : Declarator → Identifier
name_of (trees.declarator n e) = n

-- the names before, and that of a declarator
abbrev pub with_declarator : List Identifier → Declarator → List Identifier
with_declarator taken d = name_of d ∷ taken

-- names with commas between, that differ from these and from one another
unfoldable pub declarators_at : Below → Bool → List Identifier → Reader Declarators
declarators_at b constant taken ts = do
  d ← declarator_at b constant taken ts
  ds ← others (λ names r. declarator_at b constant names r) with_declarator (suc (length d.1))
      (with_declarator taken d.0) d.1
  Ok (trees.a_declarator d.0 (declarators ds.0), ds.1)

-- ---- expressions with what ends them

-- an expression and the token behind it, or that token at once
abbrev pub optional_by : Below → TokenKind → Bool → Reader OptionalExpression
optional_by b closer true ts = Ok (trees.omitted, tail_of ts)
optional_by b closer false ts = do
  e ← b.expression ts
  c ← expect closer e.1
  Ok (trees.present e.0, c.1)

-- an expression or nothing, and the token behind it
unfoldable pub optional_before : Below → TokenKind → Reader OptionalExpression
optional_before b closer ts = optional_by b closer (is_kind closer (head_of ts)) ts

-- an expression with the semicolon of its statement
unfoldable pub ended_expression : Below → Reader Expression
ended_expression b ts = do
  e ← b.expression ts
  s ← semicolon_at (after_expression (edge e.0)) e.1
  Ok (e.0, s.1)

-- ---- items

-- a piece of a production: a token, a name, a tree, or a list of trees with what ends it
pub data Piece : Type 0 where
  tok : TokenKind → Piece
  near : TokenKind → Piece
  a_name : Piece
  -- this name
  the_name : List ℕ → Piece
  an_assignment : Piece
  an_expression : Piece
  optional : TokenKind → Piece
  arguments : TokenKind → Piece
  ended : Piece
  an_end : StatementEnd → Piece
  declared : Bool → List Identifier → Piece
  a_statement : StatementContext → Piece
  a_block : StatementContext → List Identifier → Piece
  in_braces : StatementContext → List Identifier → Piece
  code : Piece

-- the type of what is read for a piece
abbrev pub PieceValue : Piece → Type 0
PieceValue (tok k) = Unit {0}
PieceValue (near k) = Unit {0}
PieceValue a_name = Identifier
PieceValue (the_name n) = Unit {0}
PieceValue an_assignment = Expression
PieceValue an_expression = Expression
PieceValue (optional k) = OptionalExpression
PieceValue (arguments k) = Expressions
PieceValue ended = Expression
PieceValue (an_end end) = Unit {0}
PieceValue (declared constant taken) = Declarators
PieceValue (a_statement context) = Statement
PieceValue (a_block context taken) = Statements
PieceValue (in_braces context taken) = Statements
PieceValue code = ParametersAndBody

-- the types of what is read for some pieces, one after the other
abbrev pub PieceValues : List Piece → Type 0
PieceValues [] = Unit {0}
PieceValues (i ∷ is) = PieceValue i × PieceValues is

-- this name
unfoldable pub expect_name : List ℕ → Reader (Unit {0})
expect_name n ts = if is_name n (head_of ts) then Ok (tt, tail_of ts) else Err (stuck (length ts))

-- what reads a piece
abbrev pub item : Below → (i : Piece) → Reader (PieceValue i)
item b (tok k) ts = expect k ts
item b (near k) ts = expect_near k ts
item b a_name ts = name_at ts
item b (the_name n) ts = expect_name n ts
item b an_assignment ts = b.assignment ts
item b an_expression ts = b.expression ts
item b (optional k) ts = optional_before b k ts
item b (arguments k) ts = arguments_before b k ts
item b ended ts = ended_expression b ts
item b (an_end end) ts = semicolon_at end ts
item b (declared constant taken) ts = declarators_at b constant taken ts
item b (a_statement context) ts = b.statement context ts
item b (a_block context taken) ts = b.block context taken ts
item b (in_braces context taken) ts = braces b context taken ts
item b code ts = code_at b ts

-- one after the other
abbrev pub seq : Below → (is : List Piece) → Reader (PieceValues is)
seq b [] ts = Ok (tt, ts)
seq b (i ∷ is) ts = item b i ts >>= λ x. seq b is x.1 >>= λ y. Ok ((x.0, y.0), y.1)

-- a form made from the values of a production
abbrev pub made : {A : Type 0} → Below → (is : List Piece) → (PieceValues is → A) → Reader A
made b is make ts = seq b is ts >>= λ x. Ok (make x.0, x.1)
