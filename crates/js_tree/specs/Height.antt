-- How deep a tree is: the greatest number of statements, expressions and methods on a path from its root. The project's
-- own.
use Rattle.std.specs.Prelude.{ℕ, suc, max}
use Rattle.js_tree.specs.Trees.{Expression, array, object, function, arrow, arrow_block, parenthesized, member, index, call, postfix, prefix, unary, binary, conditional, assign, comma, Expressions, no_expressions, an_expression, OptionalExpression, omitted, present, Key, computed_key, PropertyDefinition, shorthand, value, method, PropertyDefinitions, no_properties, a_property, Declarator, declarator, Declarators, no_declarators, a_declarator, Statement, block, lexical, expression, if_then, if_else, do_while, while, for, for_lexical, for_of, return, throw, try, declared_function, Handler, no_catch, catch, Finalizer, no_finally, finally, Statements, no_statements, a_statement}

-- Each statement, expression and method counts one over its parts. Lists, declarators, other members, names and a catch
-- count nothing of their own; the blocks of a try are statements.
abbrev mutual
  -- the height of an expression
  pub height : Expression → ℕ
  height (array es) = suc (height_of_expressions es)
  height (object ps) = suc (height_of_properties ps)
  height (function n ps body) = suc (height_of_statements body)
  height (arrow ps e) = suc (height e)
  height (arrow_block ps body) = suc (height_of_statements body)
  height (parenthesized e) = suc (height e)
  height (member e n) = suc (height e)
  height (index e k) = suc (max (height e) (height k))
  height (call f es) = suc (max (height f) (height_of_expressions es))
  height (postfix o e) = suc (height e)
  height (prefix o e) = suc (height e)
  height (unary o e) = suc (height e)
  height (binary o l r) = suc (max (height l) (height r))
  height (conditional t c e) = suc (max (height t) (max (height c) (height e)))
  height (assign o t v) = suc (max (height t) (height v))
  height (comma es) = suc (height_of_expressions es)
  height _ = 1

  -- the greatest height of these expressions
  pub height_of_expressions : Expressions → ℕ
  height_of_expressions no_expressions = 0
  height_of_expressions (an_expression e es) = max (height e) (height_of_expressions es)

  -- the height of an expression that may be left out
  pub height_of_optional : OptionalExpression → ℕ
  height_of_optional omitted = 0
  height_of_optional (present e) = height e

  -- the height of a computed key's expression; another key has none
  pub height_of_key : Key → ℕ
  height_of_key (computed_key e) = height e
  height_of_key _ = 0

  -- the height of a member of an object literal
  pub height_of_property : PropertyDefinition → ℕ
  height_of_property (shorthand n) = 0
  height_of_property (value k e) = max (height_of_key k) (height e)
  height_of_property (method k ps body) = suc (max (height_of_key k) (height_of_statements body))

  -- the greatest height of these members
  pub height_of_properties : PropertyDefinitions → ℕ
  height_of_properties no_properties = 0
  height_of_properties (a_property p ps) = max (height_of_property p) (height_of_properties ps)

  -- the height of a declarator's value, if it has one
  pub height_of_declarator : Declarator → ℕ
  height_of_declarator (declarator n e) = height_of_optional e

  -- the greatest height of these declarators
  pub height_of_declarators : Declarators → ℕ
  height_of_declarators no_declarators = 0
  height_of_declarators (a_declarator d ds) = max (height_of_declarator d) (height_of_declarators ds)

  -- the height of a statement or a declaration
  pub height_of_statement : Statement → ℕ
  height_of_statement (block ss) = suc (height_of_statements ss)
  height_of_statement (lexical c ds) = suc (height_of_declarators ds)
  height_of_statement (expression e) = suc (height e)
  height_of_statement (if_then e s) = suc (max (height e) (height_of_statement s))
  height_of_statement (if_else e s t) = suc (max (height e) (max (height_of_statement s) (height_of_statement t)))
  height_of_statement (do_while s e) = suc (max (height_of_statement s) (height e))
  height_of_statement (while e s) = suc (max (height e) (height_of_statement s))
  height_of_statement (for i t u s) =
      suc (max (height_of_optional i) (max (height_of_optional t) (max (height_of_optional u) (height_of_statement s))))
  height_of_statement (for_lexical c ds t u s) =
      suc (max (height_of_declarators ds)
      (max (height_of_optional t) (max (height_of_optional u) (height_of_statement s))))
  height_of_statement (for_of c n e s) = suc (max (height e) (height_of_statement s))
  height_of_statement (return e) = suc (height_of_optional e)
  height_of_statement (throw e) = suc (height e)
  height_of_statement (try ss h f) =
      suc (max (suc (height_of_statements ss)) (max (height_of_handler h) (height_of_finalizer f)))
  height_of_statement (declared_function n ps body) = suc (height_of_statements body)
  height_of_statement _ = 1

  -- the height of a catch's block, if there is a catch
  pub height_of_handler : Handler → ℕ
  height_of_handler no_catch = 0
  height_of_handler (catch n ss) = suc (height_of_statements ss)

  -- the height of a finally's block, if there is a finally
  pub height_of_finalizer : Finalizer → ℕ
  height_of_finalizer no_finally = 0
  height_of_finalizer (finally ss) = suc (height_of_statements ss)

  -- the greatest height of these statements
  pub height_of_statements : Statements → ℕ
  height_of_statements no_statements = 0
  height_of_statements (a_statement s ss) = max (height_of_statement s) (height_of_statements ss)
