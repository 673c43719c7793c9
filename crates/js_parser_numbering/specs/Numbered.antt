-- The terms of clean trees whose nodes are numbered one after another, in the order in which they end.
use Rattle.std.specs.Prelude.{ℕ, true, false, List, [], ◌∷◌, Option, Some, None, decimal}
use Rattle.js_tree.specs.Trees as trees
use Rattle.js_tree.specs.Trees.{Expression, Expressions, OptionalExpression, Key, PropertyDefinition, PropertyDefinitions, Statement, Statements, Handler, Finalizer}
use Rattle.js_heap.specs.declared.value.Value.TheVariants as values
use Rattle.js_semantics.specs.Makers.{parameter_names, MadeExpression, MadeStatement, MadeStatements, PropertyKey, fixed_key, computed_key, MadeProperty, value_property, method_property, MadeDeclarator, MadeCatch, value_made, number_made, string_made, this_made, name_made, array_made, parenthesized_made, member_made, index_made, assign_made, update_made, unary_made, binary_made, conditional_made, comma_made, call_made, function_made, returned_body, arrow_made, object_made, no_items, and_items, block_item, empty_item, expression_item, lexical_item, if_item, while_item, do_while_item, for_item, for_lexical_item, for_of_item, continue_item, break_item, return_item, throw_item, try_item, debugger_item, function_item}
use Rattle.js_parser_numbering.specs.Numbering.{Numbering, give, both, of_part, node, leaf}

-- the node of a call's arguments with their parentheses
abbrev pub arguments_node : Numbering (List MadeExpression) → Numbering (ℕ × List MadeExpression)
arguments_node es = node (λ n xs. (n, xs)) es

-- the node of a block
abbrev pub block_node : Numbering MadeStatements → Numbering MadeStatements
block_node ss = node (λ n is. is) ss

-- a declarator with its initialiser, if there is one
abbrev pub a_declarator_made : List ℕ → Option MadeExpression → MadeDeclarator
a_declarator_made n e = record { name = n; initializer = e }

-- a catch with its name, if it has one, and its block
abbrev pub a_catch_made : Option (List ℕ) → MadeStatements → Option MadeCatch
a_catch_made n b = Some (record { name = n; body = b })

-- a key that is computed
abbrev pub a_computed_key : MadeExpression → PropertyKey
a_computed_key e = computed_key e

-- a part that isn't left out
abbrev pub a_present : {A : Type 0} → A → Option A
a_present x = Some x

-- what is made of each type of tree, from the first number for its nodes
abbrev mutual
  -- what is made of an expression
  pub expression_numbered : Expression → Numbering MadeExpression
  expression_numbered trees.this = leaf (λ n. this_made n)
  expression_numbered (trees.name x) = leaf (λ n. name_made n x)
  expression_numbered (trees.number v) = leaf (λ n. number_made n v)
  expression_numbered (trees.string us) = leaf (λ n. string_made n us)
  expression_numbered (trees.boolean b) = leaf (λ n. value_made n (values.Bool b))
  expression_numbered trees.null = leaf (λ n. value_made n values.Null)
  expression_numbered (trees.array es) = node (λ n xs. array_made n xs) (expressions_numbered es)
  expression_numbered (trees.object ps) = node (λ n xs. object_made n xs) (properties_numbered ps)
  expression_numbered (trees.function x ps body) = node (λ n b. function_made n x ps b) (statements_numbered body)
  expression_numbered (trees.arrow ps e) =
      node (λ n x. arrow_made n (parameter_names ps) (returned_body x)) (expression_numbered e)
  expression_numbered (trees.arrow_block ps body) =
      node (λ n b. arrow_made n (parameter_names ps) b) (statements_numbered body)
  expression_numbered (trees.parenthesized e) = node (λ n x. parenthesized_made n x) (expression_numbered e)
  expression_numbered (trees.member e key) = node (λ n x. member_made n x key) (expression_numbered e)
  expression_numbered (trees.index e k) =
      node (λ n x. index_made n x.0 x.1) (both (expression_numbered e) (expression_numbered k))
  expression_numbered (trees.call f es) =
      node (λ n x. call_made n x.0 x.1.0 x.1.1)
      (both (expression_numbered f) (arguments_node (expressions_numbered es)))
  expression_numbered (trees.postfix o e) = node (λ n x. update_made n o false x) (expression_numbered e)
  expression_numbered (trees.prefix o e) = node (λ n x. update_made n o true x) (expression_numbered e)
  expression_numbered (trees.unary o e) = node (λ n x. unary_made n o x) (expression_numbered e)
  expression_numbered (trees.binary o l r) =
      node (λ n x. binary_made n o x.0 x.1) (both (expression_numbered l) (expression_numbered r))
  expression_numbered (trees.conditional t a b) =
      node (λ n x. conditional_made n x.0 x.1.0 x.1.1)
      (both (expression_numbered t) (both (expression_numbered a) (expression_numbered b)))
  expression_numbered (trees.assign o t e) =
      node (λ n x. assign_made n o x.0 x.1) (both (expression_numbered t) (expression_numbered e))
  expression_numbered (trees.comma es) = node (λ n xs. comma_made n xs) (expressions_numbered es)

  -- what is made of each of these expressions
  pub expressions_numbered : Expressions → Numbering (List MadeExpression)
  expressions_numbered trees.no_expressions = give []
  expressions_numbered (trees.an_expression e es) =
      of_part (λ x. x.0 ∷ x.1) (both (expression_numbered e) (expressions_numbered es))

  -- what is made of an expression that may be left out
  pub optional_numbered : OptionalExpression → Numbering (Option MadeExpression)
  optional_numbered trees.omitted = give None
  optional_numbered (trees.present e) = of_part (λ x. a_present x) (expression_numbered e)

  -- what is made of a key
  pub key_numbered : Key → Numbering PropertyKey
  key_numbered (trees.word_key us) = give (fixed_key us)
  key_numbered (trees.string_key us) = give (fixed_key us)
  key_numbered (trees.number_key v) = give (fixed_key (decimal v))
  key_numbered (trees.computed_key e) = of_part (λ x. a_computed_key x) (expression_numbered e)

  -- what is made of a member of an object literal, of which a method alone is a node
  pub property_numbered : PropertyDefinition → Numbering MadeProperty
  property_numbered (trees.shorthand n) = give (value_property (fixed_key n) (name_made 0 n))
  property_numbered (trees.value k e) =
      of_part (λ x. value_property x.0 x.1) (both (key_numbered k) (expression_numbered e))
  property_numbered (trees.method k ps body) =
      node (λ n x. method_property n x.0 ps x.1) (both (key_numbered k) (statements_numbered body))

  -- what is made of each of these members
  pub properties_numbered : PropertyDefinitions → Numbering (List MadeProperty)
  properties_numbered trees.no_properties = give []
  properties_numbered (trees.a_property p ps) =
      of_part (λ x. x.0 ∷ x.1) (both (property_numbered p) (properties_numbered ps))

  -- what is made of a declarator, which is no node of its own
  pub declarator_numbered : trees.Declarator → Numbering MadeDeclarator
  declarator_numbered (trees.declarator n e) = of_part (λ x. a_declarator_made n x) (optional_numbered e)

  -- what is made of each of these declarators
  pub declarators_numbered : trees.Declarators → Numbering (List MadeDeclarator)
  declarators_numbered trees.no_declarators = give []
  declarators_numbered (trees.a_declarator d ds) =
      of_part (λ x. x.0 ∷ x.1) (both (declarator_numbered d) (declarators_numbered ds))

  -- what is made of a statement or a declaration
  pub statement_numbered : Statement → Numbering MadeStatement
  statement_numbered (trees.block ss) = of_part (λ b. block_item b) (block_node (statements_numbered ss))
  statement_numbered (trees.lexical constant ds) = node (λ n x. lexical_item n constant x) (declarators_numbered ds)
  statement_numbered trees.empty = leaf (λ n. empty_item)
  statement_numbered (trees.expression e) = node (λ n x. expression_item n x) (expression_numbered e)
  statement_numbered (trees.if_then e s) =
      node (λ n x. if_item n x.0 x.1 None) (both (expression_numbered e) (statement_numbered s))
  statement_numbered (trees.if_else e s t) =
      node (λ n x. if_item n x.0 x.1.0 (Some x.1.1))
      (both (expression_numbered e) (both (statement_numbered s) (statement_numbered t)))
  statement_numbered (trees.do_while s e) =
      node (λ n x. do_while_item n x.0 x.1) (both (statement_numbered s) (expression_numbered e))
  statement_numbered (trees.while e s) =
      node (λ n x. while_item n x.0 x.1) (both (expression_numbered e) (statement_numbered s))
  statement_numbered (trees.for i t u s) =
      node (λ n x. for_item n x.0 x.1.0 x.1.1.0 x.1.1.1)
      (both (optional_numbered i) (both (optional_numbered t) (both (optional_numbered u) (statement_numbered s))))
  statement_numbered (trees.for_lexical constant ds t u s) =
      node (λ n x. for_lexical_item n constant x.0 x.1.0 x.1.1.0 x.1.1.1)
      (both (declarators_numbered ds)
      (both (optional_numbered t) (both (optional_numbered u) (statement_numbered s))))
  statement_numbered (trees.for_of constant name e s) =
      node (λ n x. for_of_item n constant name x.0 x.1) (both (expression_numbered e) (statement_numbered s))
  statement_numbered trees.continue = leaf (λ n. continue_item n)
  statement_numbered trees.break = leaf (λ n. break_item n)
  statement_numbered (trees.return e) = node (λ n x. return_item n x) (optional_numbered e)
  statement_numbered (trees.throw e) = node (λ n x. throw_item n x) (expression_numbered e)
  statement_numbered (trees.try ss h f) =
      node (λ n x. try_item n x.0 x.1.0 x.1.1)
      (both (block_node (statements_numbered ss)) (both (handler_numbered h) (finalizer_numbered f)))
  statement_numbered trees.debugger = leaf (λ n. debugger_item n)
  statement_numbered (trees.declared_function name ps body) =
      node (λ n b. function_item n name ps b) (statements_numbered body)

  -- what is made of a catch, which may be left out and is no node of its own
  pub handler_numbered : Handler → Numbering (Option MadeCatch)
  handler_numbered trees.no_catch = give None
  handler_numbered (trees.catch n ss) = of_part (λ b. a_catch_made n b) (block_node (statements_numbered ss))

  -- what is made of a finally, which may be left out and is no node of its own
  pub finalizer_numbered : Finalizer → Numbering (Option MadeStatements)
  finalizer_numbered trees.no_finally = give None
  finalizer_numbered (trees.finally ss) = of_part (λ b. a_present b) (block_node (statements_numbered ss))

  -- what is made of these statements
  pub statements_numbered : Statements → Numbering MadeStatements
  statements_numbered trees.no_statements = give no_items
  statements_numbered (trees.a_statement s ss) =
      of_part (λ x. and_items x.0 x.1) (both (statement_numbered s) (statements_numbered ss))

-- what is made of an expression whose nodes have the numbers from 0 on
unfoldable pub numbered_made : Expression → MadeExpression
numbered_made e = (expression_numbered e 0).value
