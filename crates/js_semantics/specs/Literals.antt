-- The string literals of a tree in the order of its source. A key that is a string literal makes no cell, and is none
-- of them. Nor are those of what the makers drop, which no source has: a function that is declared elsewhere than in a
-- list of statements, and the value of an assignment to what is no target.
use Rattle.std.specs.Prelude.{ℕ, List, [], ◌∷◌, ◌++◌, if◌then◌else◌}
use Rattle.js_tree.specs.declared.tree.Expr.{Expr}
use Rattle.js_tree.specs.Trees as trees
use Rattle.js_tree.specs.Trees.{Expression, Expressions, OptionalExpression, Key, PropertyDefinition, PropertyDefinitions, Statement, Statements, Handler, Finalizer}
use Rattle.js_tree.specs.Targets.{is_target}
use Rattle.js_tree.specs.Views.{expression_view}

-- the string literals of each type of tree, in order
abbrev mutual
  -- the string literals of an expression
  pub expression_literals : Expression → List (List ℕ)
  expression_literals (trees.string us) = us ∷ []
  expression_literals (trees.array es) = expressions_literals es
  expression_literals (trees.object ps) = properties_literals ps
  expression_literals (trees.function x ps body) = statements_literals body
  expression_literals (trees.arrow ps e) = expression_literals e
  expression_literals (trees.arrow_block ps body) = statements_literals body
  expression_literals (trees.parenthesized e) = expression_literals e
  expression_literals (trees.member e key) = expression_literals e
  expression_literals (trees.index e k) = expression_literals e ++ expression_literals k
  expression_literals (trees.call f es) = expression_literals f ++ expressions_literals es
  expression_literals (trees.postfix o e) = expression_literals e
  expression_literals (trees.prefix o e) = expression_literals e
  expression_literals (trees.unary o e) = expression_literals e
  expression_literals (trees.binary o l r) = expression_literals l ++ expression_literals r
  expression_literals (trees.conditional t a b) =
      expression_literals t ++ expression_literals a ++ expression_literals b
  expression_literals (trees.assign o t e) =
      expression_literals t ++ (if is_target t then expression_literals e else [])
  expression_literals (trees.comma es) = expressions_literals es
  expression_literals _ = []

  -- the string literals of each of these expressions
  pub expressions_literals : Expressions → List (List ℕ)
  expressions_literals trees.no_expressions = []
  expressions_literals (trees.an_expression e es) = expression_literals e ++ expressions_literals es

  -- the string literals of an expression that may be left out
  pub optional_literals : OptionalExpression → List (List ℕ)
  optional_literals trees.omitted = []
  optional_literals (trees.present e) = expression_literals e

  -- the string literals of a computed key; another key has none
  pub key_literals : Key → List (List ℕ)
  key_literals (trees.computed_key e) = expression_literals e
  key_literals _ = []

  -- the string literals of a member of an object literal
  pub property_literals : PropertyDefinition → List (List ℕ)
  property_literals (trees.shorthand x) = []
  property_literals (trees.value k e) = key_literals k ++ expression_literals e
  property_literals (trees.method k ps body) = key_literals k ++ statements_literals body

  -- the string literals of each of these members
  pub properties_literals : PropertyDefinitions → List (List ℕ)
  properties_literals trees.no_properties = []
  properties_literals (trees.a_property p ps) = property_literals p ++ properties_literals ps

  -- the string literals of a declarator's value, if it has one
  pub declarator_literals : trees.Declarator → List (List ℕ)
  declarator_literals (trees.declarator x e) = optional_literals e

  -- the string literals of each of these declarators
  pub declarators_literals : trees.Declarators → List (List ℕ)
  declarators_literals trees.no_declarators = []
  declarators_literals (trees.a_declarator d ds) = declarator_literals d ++ declarators_literals ds

  -- the string literals of a statement, but for those of a function that it declares
  pub statement_literals : Statement → List (List ℕ)
  statement_literals (trees.block ss) = statements_literals ss
  statement_literals (trees.lexical constant ds) = declarators_literals ds
  statement_literals (trees.expression e) = expression_literals e
  statement_literals (trees.if_then e s) = expression_literals e ++ statement_literals s
  statement_literals (trees.if_else e s t) = expression_literals e ++ statement_literals s ++ statement_literals t
  statement_literals (trees.do_while s e) = statement_literals s ++ expression_literals e
  statement_literals (trees.while e s) = expression_literals e ++ statement_literals s
  statement_literals (trees.for i t u s) =
      optional_literals i ++ optional_literals t ++ optional_literals u ++ statement_literals s
  statement_literals (trees.for_lexical constant ds t u s) =
      declarators_literals ds ++ optional_literals t ++ optional_literals u ++ statement_literals s
  statement_literals (trees.for_of constant x e s) = expression_literals e ++ statement_literals s
  statement_literals (trees.return e) = optional_literals e
  statement_literals (trees.throw e) = expression_literals e
  statement_literals (trees.try ss h f) = statements_literals ss ++ handler_literals h ++ finalizer_literals f
  statement_literals _ = []

  -- the string literals of a function that a statement declares; every other statement has those above
  pub declared_literals : Statement → List (List ℕ)
  declared_literals (trees.declared_function x ps body) = statements_literals body
  declared_literals _ = []

  -- the string literals of a catch, which may be left out
  pub handler_literals : Handler → List (List ℕ)
  handler_literals trees.no_catch = []
  handler_literals (trees.catch x ss) = statements_literals ss

  -- the string literals of a finally, which may be left out
  pub finalizer_literals : Finalizer → List (List ℕ)
  finalizer_literals trees.no_finally = []
  finalizer_literals (trees.finally ss) = statements_literals ss

  -- the string literals of each of these statements
  pub statements_literals : Statements → List (List ℕ)
  statements_literals trees.no_statements = []
  statements_literals (trees.a_statement s ss) = declared_literals s ++ statement_literals s ++ statements_literals ss

-- the string literals of a parser's tree
abbrev pub source_literals : Expr → List (List ℕ)
source_literals e = expression_literals (expression_view e)
