-- The terms of trees without places: a node's number is given by the path to it, so that functions differ. They serve
-- to compute runs of scripts that are written as trees. Programs run by the terms of the parser's trees (Sources),
-- which differ from these in the numbers alone; that a run's steps, output and end don't depend on them, as long as
-- functions differ, is not proved.
use Rattle.std.specs.Prelude.{ℕ, ◌+◌, ◌*◌, true, false, List, [], ◌∷◌, Option, Some, None, decimal}
use Rattle.js_tree.specs.Trees as trees
use Rattle.js_tree.specs.Trees.{Expression, Expressions, OptionalExpression, Key, PropertyDefinition, PropertyDefinitions, Statement, Statements, Handler, Finalizer}
use Rattle.js_heap.specs.declared.value.Value.TheVariants as values
use Rattle.js_semantics.specs.Terms.{Term, Terms, end, more}
use Rattle.js_semantics.specs.Makers.{parameter_names, MadeExpression, MadeStatement, MadeStatements, PropertyKey, fixed_key, computed_key, MadeProperty, value_property, method_property, MadeDeclarator, MadeCatch, value_made, number_made, string_made, this_made, name_made, array_made, parenthesized_made, member_made, index_made, assign_made, update_made, unary_made, binary_made, conditional_made, comma_made, call_made, function_made, returned_body, arrow_made, object_made, no_items, and_items, block_item, empty_item, expression_item, lexical_item, if_item, while_item, do_while_item, for_item, for_lexical_item, for_of_item, continue_item, break_item, return_item, throw_item, try_item, debugger_item, function_item, script_term}

-- the numbers of a node's parts: the node's own times five and one to four more, so that nodes on different paths
-- differ
abbrev pub part_number : ℕ → ℕ → ℕ
part_number n i = n * 5 + i

-- what is made of each type of clean tree, its node having this number
abbrev mutual
  pub expression_made : ℕ → Expression → MadeExpression
  expression_made n trees.this = this_made n
  expression_made n (trees.name x) = name_made n x
  expression_made n (trees.number v) = number_made n v
  expression_made n (trees.string us) = string_made n us
  expression_made n (trees.boolean b) = value_made n (values.Bool b)
  expression_made n trees.null = value_made n values.Null
  expression_made n (trees.array es) = array_made n (expressions_made (part_number n 1) es)
  expression_made n (trees.object ps) = object_made n (properties_made (part_number n 1) ps)
  expression_made n (trees.function x ps body) = function_made n x ps (statements_made (part_number n 1) body)
  expression_made n (trees.arrow ps e) =
      arrow_made n (parameter_names ps) (returned_body (expression_made (part_number n 1) e))
  expression_made n (trees.arrow_block ps body) =
      arrow_made n (parameter_names ps) (statements_made (part_number n 1) body)
  expression_made n (trees.parenthesized e) = parenthesized_made n (expression_made (part_number n 1) e)
  expression_made n (trees.member e key) = member_made n (expression_made (part_number n 1) e) key
  expression_made n (trees.index e k) =
      index_made n (expression_made (part_number n 1) e) (expression_made (part_number n 2) k)
  expression_made n (trees.call f es) =
      call_made n (expression_made (part_number n 1) f) (part_number n 2) (expressions_made (part_number n 3) es)
  expression_made n (trees.postfix o e) = update_made n o false (expression_made (part_number n 1) e)
  expression_made n (trees.prefix o e) = update_made n o true (expression_made (part_number n 1) e)
  expression_made n (trees.unary o e) = unary_made n o (expression_made (part_number n 1) e)
  expression_made n (trees.binary o l r) =
      binary_made n o (expression_made (part_number n 1) l) (expression_made (part_number n 2) r)
  expression_made n (trees.conditional t a b) =
      conditional_made n (expression_made (part_number n 1) t) (expression_made (part_number n 2) a)
      (expression_made (part_number n 3) b)
  expression_made n (trees.assign o t e) =
      assign_made n o (expression_made (part_number n 1) t) (expression_made (part_number n 2) e)
  expression_made n (trees.comma es) = comma_made n (expressions_made (part_number n 1) es)

  pub expressions_made : ℕ → Expressions → List MadeExpression
  expressions_made n trees.no_expressions = []
  expressions_made n (trees.an_expression e es) =
      expression_made (part_number n 1) e ∷ expressions_made (part_number n 2) es

  pub optional_made : ℕ → OptionalExpression → Option MadeExpression
  optional_made n trees.omitted = None
  optional_made n (trees.present e) = Some (expression_made n e)

  pub key_made : ℕ → Key → PropertyKey
  key_made n (trees.word_key us) = fixed_key us
  key_made n (trees.string_key us) = fixed_key us
  key_made n (trees.number_key v) = fixed_key (decimal v)
  key_made n (trees.computed_key e) = computed_key (expression_made n e)

  pub property_made : ℕ → PropertyDefinition → MadeProperty
  property_made n (trees.shorthand x) = value_property (fixed_key x) (name_made n x)
  property_made n (trees.value k e) =
      value_property (key_made (part_number n 1) k) (expression_made (part_number n 2) e)
  property_made n (trees.method k ps body) =
      method_property n (key_made (part_number n 1) k) ps (statements_made (part_number n 2) body)

  pub properties_made : ℕ → PropertyDefinitions → List MadeProperty
  properties_made n trees.no_properties = []
  properties_made n (trees.a_property p ps) = property_made (part_number n 1) p ∷ properties_made (part_number n 2) ps

  pub declarator_made : ℕ → trees.Declarator → MadeDeclarator
  declarator_made n (trees.declarator x e) = record { name = x; initializer = optional_made n e }

  pub declarators_made : ℕ → trees.Declarators → List MadeDeclarator
  declarators_made n trees.no_declarators = []
  declarators_made n (trees.a_declarator d ds) =
      declarator_made (part_number n 1) d ∷ declarators_made (part_number n 2) ds

  pub statement_made : ℕ → Statement → MadeStatement
  statement_made n (trees.block ss) = block_item (statements_made (part_number n 1) ss)
  statement_made n (trees.lexical constant ds) = lexical_item n constant (declarators_made (part_number n 1) ds)
  statement_made n trees.empty = empty_item
  statement_made n (trees.expression e) = expression_item n (expression_made (part_number n 1) e)
  statement_made n (trees.if_then e s) =
      if_item n (expression_made (part_number n 1) e) (statement_made (part_number n 2) s) None
  statement_made n (trees.if_else e s t) =
      if_item n (expression_made (part_number n 1) e) (statement_made (part_number n 2) s)
      (Some (statement_made (part_number n 3) t))
  statement_made n (trees.do_while s e) =
      do_while_item n (statement_made (part_number n 1) s) (expression_made (part_number n 2) e)
  statement_made n (trees.while e s) =
      while_item n (expression_made (part_number n 1) e) (statement_made (part_number n 2) s)
  statement_made n (trees.for i t u s) =
      for_item n (optional_made (part_number n 1) i) (optional_made (part_number n 2) t)
      (optional_made (part_number n 3) u) (statement_made (part_number n 4) s)
  statement_made n (trees.for_lexical constant ds t u s) =
      for_lexical_item n constant (declarators_made (part_number n 1) ds) (optional_made (part_number n 2) t)
      (optional_made (part_number n 3) u) (statement_made (part_number n 4) s)
  statement_made n (trees.for_of constant x e s) =
      for_of_item n constant x (expression_made (part_number n 1) e) (statement_made (part_number n 2) s)
  statement_made n trees.continue = continue_item n
  statement_made n trees.break = break_item n
  statement_made n (trees.return e) = return_item n (optional_made (part_number n 1) e)
  statement_made n (trees.throw e) = throw_item n (expression_made (part_number n 1) e)
  statement_made n (trees.try ss h f) =
      try_item n (statements_made (part_number n 1) ss) (handler_made (part_number n 2) h)
      (finalizer_made (part_number n 3) f)
  statement_made n trees.debugger = debugger_item n
  statement_made n (trees.declared_function x ps body) = function_item n x ps (statements_made (part_number n 1) body)

  pub handler_made : ℕ → Handler → Option MadeCatch
  handler_made n trees.no_catch = None
  handler_made n (trees.catch x ss) = Some (record { name = x; body = statements_made n ss })

  pub finalizer_made : ℕ → Finalizer → Option MadeStatements
  finalizer_made n trees.no_finally = None
  finalizer_made n (trees.finally ss) = Some (statements_made n ss)

  pub statements_made : ℕ → Statements → MadeStatements
  statements_made n trees.no_statements = no_items
  statements_made n (trees.a_statement s ss) =
      and_items (statement_made (part_number n 1) s) (statements_made (part_number n 2) ss)

-- the term of a script, as the number-th
abbrev pub clean_script : ℕ → Statements → Term
clean_script number ss = script_term number (statements_made 1 ss)

-- the terms of scripts that are numbered from a number on
abbrev pub clean_scripts_from : ℕ → List Statements → Terms
clean_scripts_from n [] = end
clean_scripts_from n (ss ∷ rest) = more (clean_script n ss) (clean_scripts_from (n + 1) rest)

-- the terms of some scripts
abbrev pub clean_scripts : List Statements → Terms
clean_scripts ss = clean_scripts_from 1 ss
