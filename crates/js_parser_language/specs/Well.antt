-- Which trees are well-formed. Each clause names its section of ECMA-262, or says that it is the project's own.
use Rattle.std.specs.Prelude.{◌≡◌, ℕ, ◌<◌, ◌≤◌, Bool, true, false, List, [], ◌∷◌, ◌++◌, Some, None, nat_eq}
use Rattle.std.specs.List.{list_any}
use Rattle.std.specs.Cmp.Lexicographic.{pointwise}
use Rattle.js_lexer.specs.declared.token.TokenKind.TheVariants as kinds
use Rattle.js_tree_operators.specs.declared.operator.UnaryOperator.{UnaryOperator}
use Rattle.js_tree_operators.specs.declared.operator.UnaryOperator.TheVariants as unaries
use Rattle.js_tree_operators.specs.declared.operator.BinaryOperator.{BinaryOperator}
use Rattle.js_tree_operators.specs.declared.operator.BinaryOperator.TheVariants as binaries
use Rattle.js_tree.specs.Trees.{Identifier, Parameters, one_name, name_list, Expression, array, object, function, arrow, arrow_block, parenthesized, member, index, call, postfix, prefix, unary, binary, conditional, assign, comma, Expressions, no_expressions, an_expression, OptionalExpression, omitted, present, Key, computed_key, PropertyDefinition, shorthand, value, method, PropertyDefinitions, no_properties, a_property, Declarator, declarator, Declarators, no_declarators, a_declarator, Statement, block, lexical, expression, if_then, if_else, do_while, while, for, for_lexical, for_of, continue, break, return, throw, try, declared_function, Handler, no_catch, catch, Finalizer, no_finally, finally, Statements, no_statements, a_statement}
use Rattle.js_tree.specs.Targets.{is_target}
use Rattle.js_parser_language.specs.Tokens.{fixed, FlatToken, token}
use Rattle.js_parser_language.specs.Flat.{flat}

-- ---- precedence

-- how tightly an operator binds its operands, the weakest first (ECMA-262, 13.6 to 13.13)
abbrev pub strength : BinaryOperator → ℕ
strength binaries.LogicalOr = 3
strength binaries.LogicalAnd = 4
strength binaries.BitwiseOr = 5
strength binaries.BitwiseXor = 6
strength binaries.BitwiseAnd = 7
strength binaries.Equal = 8
strength binaries.NotEqual = 8
strength binaries.StrictEqual = 8
strength binaries.StrictNotEqual = 8
strength binaries.LessThan = 9
strength binaries.GreaterThan = 9
strength binaries.LessThanOrEqual = 9
strength binaries.GreaterThanOrEqual = 9
strength binaries.LeftShift = 10
strength binaries.RightShift = 10
strength binaries.UnsignedRightShift = 10
strength binaries.Add = 11
strength binaries.Subtract = 11
strength binaries.Multiply = 12
strength binaries.Divide = 12
strength binaries.Remainder = 12

-- the levels of the grammar's expressions that have no number of their own in `strength`
abbrev pub any_expression : ℕ
any_expression = 0

-- 13.15, AssignmentExpression
abbrev pub an_assignment : ℕ
an_assignment = 1

-- 13.14, ConditionalExpression
abbrev pub a_conditional : ℕ
a_conditional = 2

-- 13.13, ShortCircuitExpression
abbrev pub an_operation : ℕ
an_operation = 3

-- 13.5, UnaryExpression
abbrev pub a_unary : ℕ
a_unary = 13

-- 13.4, UpdateExpression
abbrev pub an_update : ℕ
an_update = 14

-- 13.3, CallExpression and MemberExpression
abbrev pub a_call : ℕ
a_call = 15

-- the level of an expression: where one of a level may stand, so may one of a higher level
abbrev pub level : Expression → ℕ
level (comma es) = any_expression
level (assign o t v) = an_assignment
level (arrow ps e) = an_assignment
level (arrow_block ps body) = an_assignment
level (conditional t c e) = a_conditional
level (binary o l r) = strength o
level (unary o e) = a_unary
level (prefix o e) = a_unary
level (postfix o e) = an_update
level _ = a_call

-- ---- targets

-- a property, also in parentheses
abbrev pub is_property : Expression → Bool
is_property (member e n) = true
is_property (index e k) = true
is_property (parenthesized e) = is_property e
is_property _ = false

-- an operand that the operator takes: that of delete is a property; the project's own, ECMA-262 (13.5.1) also lets
-- values through
abbrev pub takes : UnaryOperator → Expression → Bool
takes unaries.Delete e = is_property e
takes _ e = true

-- ---- first tokens

-- the first token is `{`
abbrev pub begins_with_brace : List FlatToken → Bool
begins_with_brace (token (fixed kinds.LeftBrace) ∷ ms) = true
begins_with_brace _ = false

-- the first token is `function`
abbrev pub begins_with_function : List FlatToken → Bool
begins_with_function (token (fixed kinds.Function) ∷ ms) = true
begins_with_function _ = false

-- ---- names

-- whether a name is among these
abbrev pub is_among : List Identifier → Identifier → Bool
is_among names n = list_any (λ m. pointwise nat_eq m n) names

-- the names differ from these and from one another
abbrev pub AreFresh : List Identifier → List Identifier → Type 0
AreFresh taken [] = Unit {0}
AreFresh taken (n ∷ ns) = (is_among taken n ≡ false) × AreFresh (n ∷ taken) ns

-- the names that declarators declare
abbrev pub names_of_declarators : Declarators → List Identifier
names_of_declarators no_declarators = []
names_of_declarators (a_declarator (declarator n e) ds) = n ∷ names_of_declarators ds

-- the names that a statement declares in the list that it stands in (8.2.4, LexicallyDeclaredNames)
abbrev pub declared_by : Statement → List Identifier
declared_by (lexical c ds) = names_of_declarators ds
declared_by (declared_function n ps body) = n ∷ []
declared_by _ = []

-- the names that a list of statements declares (8.2.4, LexicallyDeclaredNames)
abbrev pub declared_names : Statements → List Identifier
declared_names no_statements = []
declared_names (a_statement s ss) = declared_by s ++ declared_names ss

-- the parameters of a function and the names that its body's list declares all differ from one another
-- (15.2.1, as in strict code; the project's own for function declarations)
abbrev pub DifferIn : List Identifier → Statements → Type 0
DifferIn ps body = AreFresh [] ps × AreFresh ps (declared_names body)

-- the names of an arrow function's parameters
abbrev pub names_of_parameters : Parameters → List Identifier
names_of_parameters (one_name n) = n ∷ []
names_of_parameters (name_list ns) = ns

-- ---- statements

-- what a statement stands in
pub record StatementContext : Type 0 where
  pub in_loop : Bool
  pub in_function : Bool

-- at the top of a script
abbrev pub top : StatementContext
top = record { in_loop = false; in_function = false }

-- in the body of a function, which is in no loop of that function
abbrev pub function_body : StatementContext
function_body = record { in_loop = false; in_function = true }

-- in the body of a loop
abbrev pub loop_body : StatementContext → StatementContext
loop_body c = record c { in_loop = true }

-- neither let, const nor a function declaration (14, Statement)
abbrev pub is_statement : Statement → Bool
is_statement (lexical c ds) = false
is_statement (declared_function n ps body) = false
is_statement _ = true

-- the statement ends in an if without else
abbrev pub ends_in_if : Statement → Bool
ends_in_if (if_then e s) = true
ends_in_if (if_else e s t) = ends_in_if t
ends_in_if (while e s) = ends_in_if s
ends_in_if (for i t u s) = ends_in_if s
ends_in_if (for_lexical c ds t u s) = ends_in_if s
ends_in_if (for_of c n e s) = ends_in_if s
ends_in_if _ = false

-- a declarator has its initializer
abbrev pub has_initializer : Declarator → Bool
has_initializer (declarator n omitted) = false
has_initializer (declarator n (present e)) = true

-- a constant has an initializer (14.3.1.1)
abbrev pub IsInitialized : Bool → Declarators → Type 0
IsInitialized false ds = Unit {0}
IsInitialized true no_declarators = Unit {0}
IsInitialized true (a_declarator d ds) = (has_initializer d ≡ true) × IsInitialized true ds

-- there is one declarator at least
abbrev pub is_some_declarator : Declarators → Bool
is_some_declarator no_declarators = false
is_some_declarator (a_declarator d ds) = true

-- there are two expressions at least
abbrev pub is_two_expressions : Expressions → Bool
is_two_expressions (an_expression e (an_expression f es)) = true
is_two_expressions _ = false

-- a catch or a finally (14.15)
abbrev pub is_handled : Handler → Finalizer → Bool
is_handled no_catch no_finally = false
is_handled _ _ = true

-- ---- well-formed trees

-- the tree is well-formed, for each type of trees; a statement by what it stands in
abbrev mutual
  -- an expression is well-formed
  pub Well : Expression → Type 0
  -- 13.2.4
  Well (array es) = AreAssignments es
  -- 13.2.5
  Well (object ps) = WellProperties ps
  -- 15.2
  Well (function n ps body) = DifferIn ps body × WellStatements function_body body
  -- 15.3: ConciseBody doesn't begin with {
  Well (arrow ps e) =
      AreFresh [] (names_of_parameters ps) × Well e × (an_assignment ≤ level e) × (begins_with_brace (flat e) ≡ false)
  -- 15.3
  Well (arrow_block ps body) = DifferIn (names_of_parameters ps) body × WellStatements function_body body
  -- 13.2.9
  Well (parenthesized e) = Well e
  -- 13.3.2
  Well (member e n) = Well e × (a_call ≤ level e)
  Well (index e k) = Well e × (a_call ≤ level e) × Well k
  -- 13.3.6
  Well (call f es) = Well f × (a_call ≤ level f) × AreAssignments es
  -- 13.4, 13.4.1
  Well (postfix o e) = Well e × (is_target e ≡ true)
  Well (prefix o e) = Well e × (is_target e ≡ true)
  -- 13.5; 13.5.1.1 for delete
  Well (unary o e) = Well e × (a_unary ≤ level e) × (takes o e ≡ true)
  -- 13.7 to 13.13: operators of one level go together from the left
  Well (binary o l r) = Well l × (strength o ≤ level l) × Well r × (strength o < level r)
  -- 13.14
  Well (conditional t c e) =
      Well t × (an_operation ≤ level t) × Well c × (an_assignment ≤ level c) × Well e × (an_assignment ≤ level e)
  -- 13.15, 13.15.1
  Well (assign o t v) = Well t × (is_target t ≡ true) × Well v × (an_assignment ≤ level v)
  -- 13.16; all at one level in the project's trees
  Well (comma es) = (is_two_expressions es ≡ true) × AreAssignments es
  -- 13.2.1, 13.1, 12.9
  Well _ = Unit {0}

  -- the elements of a list: each an AssignmentExpression (13.15)
  pub AreAssignments : Expressions → Type 0
  AreAssignments no_expressions = Unit {0}
  AreAssignments (an_expression e es) = Well e × (an_assignment ≤ level e) × AreAssignments es

  -- an expression that may be left out is well-formed
  pub WellOptional : OptionalExpression → Type 0
  WellOptional omitted = Unit {0}
  WellOptional (present e) = Well e

  -- 13.2.5, PropertyName
  pub WellKey : Key → Type 0
  WellKey (computed_key e) = Well e × (an_assignment ≤ level e)
  WellKey _ = Unit {0}

  -- 13.2.5, PropertyDefinition; two members may have one key, also __proto__
  pub WellProperty : PropertyDefinition → Type 0
  WellProperty (shorthand n) = Unit {0}
  WellProperty (value k e) = WellKey k × Well e × (an_assignment ≤ level e)
  -- 15.4
  WellProperty (method k ps body) = WellKey k × DifferIn ps body × WellStatements function_body body

  -- each of these members is well-formed
  pub WellProperties : PropertyDefinitions → Type 0
  WellProperties no_properties = Unit {0}
  WellProperties (a_property p ps) = WellProperty p × WellProperties ps

  -- 14.3.1, LexicalBinding
  pub WellDeclarator : Declarator → Type 0
  WellDeclarator (declarator n omitted) = Unit {0}
  WellDeclarator (declarator n (present e)) = Well e × (an_assignment ≤ level e)

  -- each of these declarators is well-formed
  pub WellDeclarators : Declarators → Type 0
  WellDeclarators no_declarators = Unit {0}
  WellDeclarators (a_declarator d ds) = WellDeclarator d × WellDeclarators ds

  -- a statement or a declaration is well-formed in what it stands in
  pub WellStatement : StatementContext → Statement → Type 0
  -- 14.2, 14.2.1: the names that a block declares differ
  WellStatement c (block ss) = AreFresh [] (declared_names ss) × WellStatements c ss
  -- 14.3.1
  WellStatement c (lexical constant ds) =
      (is_some_declarator ds ≡ true) × WellDeclarators ds × IsInitialized constant ds
  -- 14.5: an ExpressionStatement doesn't begin with { or function
  WellStatement c (expression e) =
      Well e × (begins_with_brace (flat e) ≡ false) × (begins_with_function (flat e) ≡ false)
  -- 14.6
  WellStatement c (if_then e s) = Well e × WellStatement c s × (is_statement s ≡ true)
  -- 14.6: an else goes with the nearest if
  WellStatement c (if_else e s t) =
      Well e
      × WellStatement c s
      × (is_statement s ≡ true)
      × (ends_in_if s ≡ false)
      × WellStatement c t
      × (is_statement t ≡ true)
  -- 14.7.2
  WellStatement c (do_while s e) = WellStatement (loop_body c) s × (is_statement s ≡ true) × Well e
  -- 14.7.3
  WellStatement c (while e s) = Well e × WellStatement (loop_body c) s × (is_statement s ≡ true)
  -- 14.7.4
  WellStatement c (for i t u s) =
      WellOptional i × WellOptional t × WellOptional u × WellStatement (loop_body c) s × (is_statement s ≡ true)
  -- 14.7.4, 14.7.4.1: the names of the head differ
  WellStatement c (for_lexical constant ds t u s) =
      (is_some_declarator ds ≡ true)
      × WellDeclarators ds
      × IsInitialized constant ds
      × AreFresh [] (names_of_declarators ds)
      × WellOptional t
      × WellOptional u
      × WellStatement (loop_body c) s
      × (is_statement s ≡ true)
  -- 14.7.5
  WellStatement c (for_of constant n e s) =
      Well e × (an_assignment ≤ level e) × WellStatement (loop_body c) s × (is_statement s ≡ true)
  -- 14.8.1, 14.9.1
  WellStatement c continue = c.in_loop ≡ true
  WellStatement c break = c.in_loop ≡ true
  -- 14.10
  WellStatement c (return e) = (c.in_function ≡ true) × WellOptional e
  -- 14.14
  WellStatement c (throw e) = Well e
  -- 14.15
  WellStatement c (try ss h f) =
      AreFresh [] (declared_names ss)
      × WellStatements c ss
      × WellHandler c h
      × WellFinalizer c f
      × (is_handled h f ≡ true)
  -- 15.2
  WellStatement c (declared_function n ps body) = DifferIn ps body × WellStatements function_body body
  -- 14.4, 14.16
  WellStatement c _ = Unit {0}

  -- 14.15.1: the name of a catch differs from those of its block
  pub WellHandler : StatementContext → Handler → Type 0
  WellHandler c no_catch = Unit {0}
  WellHandler c (catch None ss) = AreFresh [] (declared_names ss) × WellStatements c ss
  WellHandler c (catch (Some n) ss) = AreFresh (n ∷ []) (declared_names ss) × WellStatements c ss

  -- a finally, which may be left out, is well-formed
  pub WellFinalizer : StatementContext → Finalizer → Type 0
  WellFinalizer c no_finally = Unit {0}
  WellFinalizer c (finally ss) = AreFresh [] (declared_names ss) × WellStatements c ss

  -- each of these statements is well-formed
  pub WellStatements : StatementContext → Statements → Type 0
  WellStatements c no_statements = Unit {0}
  WellStatements c (a_statement s ss) = WellStatement c s × WellStatements c ss

-- 16.1.1, 16.1.7: the names that a script declares differ from one another and from those of earlier scripts
abbrev pub WellScript : List Identifier → Statements → Type 0
WellScript earlier body = AreFresh earlier (declared_names body) × WellStatements top body

-- a function expression or an arrow function (15.2, 15.3)
abbrev pub is_function : Expression → Bool
is_function (function n ps body) = true
is_function (arrow ps e) = true
is_function (arrow_block ps body) = true
is_function _ = false
