-- The terms of the parser's trees.
use Rattle.std.specs.Prelude.{true, false, List, [], ◌∷◌, Some, None, decimal}
use Rattle.js_tree.specs.declared.tree.Expr.{Expr}
use Rattle.js_tree.specs.declared.tree.PropertyDefinition.{PropertyDefinition}
use Rattle.js_tree.specs.declared.tree.PropertyName.{PropertyName}
use Rattle.js_tree.specs.declared.tree.Stmt.{Stmt}
use Rattle.js_tree.specs.declared.tree.Block.{Block}
use Rattle.js_tree.specs.declared.tree.Catch.{Catch}
use Rattle.js_tree.specs.declared.tree.Declarator.{Declarator}
use Rattle.js_tree.specs.declared.tree.Declarators.{Declarators}
use Rattle.js_tree.specs.declared.tree.Exprs.{Exprs}
use Rattle.js_tree.specs.declared.tree.PropertyDefinitions.{PropertyDefinitions}
use Rattle.js_tree.specs.declared.tree.Stmts.{Stmts}
use Rattle.js_tree.specs.declared.script.Script.{Script}
use Rattle.js_tree.specs.declared.tree.Expr.TheOpen as layers
use Rattle.js_tree.specs.declared.tree.Expr.TheOpen.{Expr-F, Stmt-F, PropertyName-F, PropertyDefinition-F}
use Rattle.js_tree.specs.declared.tree.Expr.TheFolds.{fold-Expr, fold-PropertyDefinition, fold-PropertyName, fold-Stmt, fold-Block, fold-Catch, fold-Declarator, fold-Declarators, fold-Exprs, fold-PropertyDefinitions, fold-Stmts}
use Rattle.js_tree.specs.Views.{parameters_view}
use Rattle.js_heap.specs.declared.value.Value.TheVariants as values
use Rattle.js_semantics.specs.Terms.{Term, Terms, end, more}
use Rattle.js_semantics.specs.Makers.{parameter_names, MadeExpression, MadeStatement, MadeStatements, PropertyKey, fixed_key, computed_key, MadeProperty, value_property, method_property, MadeDeclarator, MadeCatch, value_made, number_made, string_made, this_made, name_made, array_made, parenthesized_made, member_made, index_made, assign_made, update_made, unary_made, binary_made, conditional_made, comma_made, call_made, function_made, returned_body, arrow_made, object_made, items_of, block_item, empty_item, expression_item, lexical_item, if_item, while_item, do_while_item, for_item, for_lexical_item, for_of_item, continue_item, break_item, return_item, throw_item, try_item, debugger_item, function_item, script_term}

-- what is made of each type of tree
abbrev pub Layer :
    (Type 0 → Type 0 → Type 0 → Type 0 → Type 0 → Type 0 → Type 0 → Type 0 → Type 0 → Type 0 → Type 0 → Type 0)
    → Type 0
Layer F =
    F MadeExpression MadeProperty PropertyKey MadeStatement MadeStatements MadeCatch MadeDeclarator (List MadeDeclarator) (List MadeExpression)
    (List MadeProperty) MadeStatements

-- one level of an expression, with what is made of its parts
abbrev pub expression_layer : Layer Expr-F → MadeExpression
expression_layer (Expr-F.This node) = this_made node.0
expression_layer (Expr-F.Name node n) = name_made node.0 n
expression_layer (Expr-F.Number node v) = number_made node.0 v.value
expression_layer (Expr-F.String node us) = string_made node.0 us
expression_layer (Expr-F.Boolean node b) = value_made node.0 (values.Bool b)
expression_layer (Expr-F.Null node) = value_made node.0 values.Null
expression_layer (Expr-F.Array node es) = array_made node.0 es
expression_layer (Expr-F.Object node ps) = object_made node.0 ps
expression_layer (Expr-F.Function node n ps body) = function_made node.0 n ps body
expression_layer (Expr-F.Arrow node ps e) =
    arrow_made node.0 (parameter_names (parameters_view ps)) (returned_body e.value)
expression_layer (Expr-F.ArrowBlock node ps body) = arrow_made node.0 (parameter_names (parameters_view ps)) body
expression_layer (Expr-F.Parenthesized node e) = parenthesized_made node.0 e.value
expression_layer (Expr-F.Member node e n) = member_made node.0 e.value n
expression_layer (Expr-F.Index node e k) = index_made node.0 e.value k.value
expression_layer (Expr-F.Call node f parentheses es) = call_made node.0 f.value parentheses.0 es
expression_layer (Expr-F.Postfix node o e) = update_made node.0 o false e.value
expression_layer (Expr-F.Prefix node o e) = update_made node.0 o true e.value
expression_layer (Expr-F.Unary node o e) = unary_made node.0 o e.value
expression_layer (Expr-F.Binary node o l r) = binary_made node.0 o l.value r.value
expression_layer (Expr-F.Conditional node t a b) = conditional_made node.0 t.value a.value b.value
expression_layer (Expr-F.Assign node o t e) = assign_made node.0 o t.value e.value
expression_layer (Expr-F.Comma node es) = comma_made node.0 es

-- one level of a property's key
abbrev pub key_layer : Layer PropertyName-F → PropertyKey
key_layer (PropertyName-F.Word us) = fixed_key us
key_layer (PropertyName-F.StringLiteral us) = fixed_key us
key_layer (PropertyName-F.NumericLiteral v) = fixed_key (decimal v.value)
key_layer (PropertyName-F.Computed e) = computed_key e

-- one level of a member of an object literal
abbrev pub property_layer : Layer PropertyDefinition-F → MadeProperty
property_layer (PropertyDefinition-F.Shorthand n) = value_property (fixed_key n) (name_made 0 n)
property_layer (PropertyDefinition-F.Value k e) = value_property k e
property_layer (PropertyDefinition-F.Method node k ps body) = method_property node.0 k ps body

-- one level of a statement or declaration
abbrev pub statement_layer : Layer Stmt-F → MadeStatement
statement_layer (Stmt-F.Block b) = block_item b
statement_layer (Stmt-F.Lexical node c ds) = lexical_item node.0 c ds
statement_layer (Stmt-F.Empty node) = empty_item
statement_layer (Stmt-F.Expression node e) = expression_item node.0 e
statement_layer (Stmt-F.If node e s None) = if_item node.0 e s.value None
statement_layer (Stmt-F.If node e s (Some t)) = if_item node.0 e s.value (Some t.value)
statement_layer (Stmt-F.DoWhile node s e) = do_while_item node.0 s.value e
statement_layer (Stmt-F.While node e s) = while_item node.0 e s.value
statement_layer (Stmt-F.For node i t u s) = for_item node.0 i t u s.value
statement_layer (Stmt-F.ForLexical node c ds t u s) = for_lexical_item node.0 c ds t u s.value
statement_layer (Stmt-F.ForOf node c n e s) = for_of_item node.0 c n e s.value
statement_layer (Stmt-F.Continue node) = continue_item node.0
statement_layer (Stmt-F.Break node) = break_item node.0
statement_layer (Stmt-F.Return node e) = return_item node.0 e
statement_layer (Stmt-F.Throw node e) = throw_item node.0 e
statement_layer (Stmt-F.Try node b h f) = try_item node.0 b h f
statement_layer (Stmt-F.Debugger node) = debugger_item node.0
statement_layer (Stmt-F.FunctionDeclaration node n ps body) = function_item node.0 n ps body

-- one level of a block
abbrev pub block_layer : Layer layers.Block-F → MadeStatements
block_layer b = b.body

-- one level of a catch
abbrev pub catch_layer : Layer layers.Catch-F → MadeCatch
catch_layer c = record { name = c.parameter; body = c.block }

-- one level of a declarator
abbrev pub declarator_layer : Layer layers.Declarator-F → MadeDeclarator
declarator_layer d = record { name = d.name; initializer = d.initializer }

-- one level of the declarators of a declaration
abbrev pub declarators_layer : Layer layers.Declarators-F → List MadeDeclarator
declarators_layer ds = ds.items.items

-- one level of a list of expressions
abbrev pub expressions_layer : Layer layers.Exprs-F → List MadeExpression
expressions_layer es = es.items.items

-- one level of the members of an object literal
abbrev pub properties_layer : Layer layers.PropertyDefinitions-F → List MadeProperty
properties_layer ps = ps.items.items

-- one level of a list of statements
abbrev pub statements_layer : Layer layers.Stmts-F → MadeStatements
statements_layer ss = items_of ss.items.items

-- what is made of an expression
unfoldable pub expression_source : Expr → MadeExpression
expression_source =
    fold-Expr MadeExpression MadeProperty PropertyKey MadeStatement MadeStatements MadeCatch MadeDeclarator (List MadeDeclarator) (List MadeExpression)
    (List MadeProperty)
    MadeStatements expression_layer property_layer key_layer statement_layer block_layer catch_layer declarator_layer
    declarators_layer expressions_layer properties_layer statements_layer

-- what is made of a member of an object literal
unfoldable pub property_source : PropertyDefinition → MadeProperty
property_source =
    fold-PropertyDefinition MadeExpression MadeProperty PropertyKey MadeStatement MadeStatements MadeCatch MadeDeclarator (List MadeDeclarator)
    (List MadeExpression) (List MadeProperty)
    MadeStatements expression_layer property_layer key_layer statement_layer block_layer catch_layer declarator_layer
    declarators_layer expressions_layer properties_layer statements_layer

-- what is made of a property's key
unfoldable pub key_source : PropertyName → PropertyKey
key_source =
    fold-PropertyName MadeExpression MadeProperty PropertyKey MadeStatement MadeStatements MadeCatch MadeDeclarator (List MadeDeclarator)
    (List MadeExpression) (List MadeProperty)
    MadeStatements expression_layer property_layer key_layer statement_layer block_layer catch_layer declarator_layer
    declarators_layer expressions_layer properties_layer statements_layer

-- what is made of a statement or declaration
unfoldable pub statement_source : Stmt → MadeStatement
statement_source =
    fold-Stmt MadeExpression MadeProperty PropertyKey MadeStatement MadeStatements MadeCatch MadeDeclarator (List MadeDeclarator) (List MadeExpression)
    (List MadeProperty)
    MadeStatements expression_layer property_layer key_layer statement_layer block_layer catch_layer declarator_layer
    declarators_layer expressions_layer properties_layer statements_layer

-- what is made of a block
unfoldable pub block_source : Block → MadeStatements
block_source =
    fold-Block MadeExpression MadeProperty PropertyKey MadeStatement MadeStatements MadeCatch MadeDeclarator (List MadeDeclarator) (List MadeExpression)
    (List MadeProperty)
    MadeStatements expression_layer property_layer key_layer statement_layer block_layer catch_layer declarator_layer
    declarators_layer expressions_layer properties_layer statements_layer

-- what is made of a catch
unfoldable pub catch_source : Catch → MadeCatch
catch_source =
    fold-Catch MadeExpression MadeProperty PropertyKey MadeStatement MadeStatements MadeCatch MadeDeclarator (List MadeDeclarator) (List MadeExpression)
    (List MadeProperty)
    MadeStatements expression_layer property_layer key_layer statement_layer block_layer catch_layer declarator_layer
    declarators_layer expressions_layer properties_layer statements_layer

-- what is made of a declarator
unfoldable pub declarator_source : Declarator → MadeDeclarator
declarator_source =
    fold-Declarator MadeExpression MadeProperty PropertyKey MadeStatement MadeStatements MadeCatch MadeDeclarator (List MadeDeclarator) (List MadeExpression)
    (List MadeProperty)
    MadeStatements expression_layer property_layer key_layer statement_layer block_layer catch_layer declarator_layer
    declarators_layer expressions_layer properties_layer statements_layer

-- what is made of the declarators of a declaration
unfoldable pub declarators_source : Declarators → List MadeDeclarator
declarators_source =
    fold-Declarators MadeExpression MadeProperty PropertyKey MadeStatement MadeStatements MadeCatch MadeDeclarator (List MadeDeclarator) (List MadeExpression)
    (List MadeProperty)
    MadeStatements expression_layer property_layer key_layer statement_layer block_layer catch_layer declarator_layer
    declarators_layer expressions_layer properties_layer statements_layer

-- what is made of a list of expressions
unfoldable pub expressions_source : Exprs → List MadeExpression
expressions_source =
    fold-Exprs MadeExpression MadeProperty PropertyKey MadeStatement MadeStatements MadeCatch MadeDeclarator (List MadeDeclarator) (List MadeExpression)
    (List MadeProperty)
    MadeStatements expression_layer property_layer key_layer statement_layer block_layer catch_layer declarator_layer
    declarators_layer expressions_layer properties_layer statements_layer

-- what is made of the members of an object literal
unfoldable pub properties_source : PropertyDefinitions → List MadeProperty
properties_source =
    fold-PropertyDefinitions MadeExpression MadeProperty PropertyKey MadeStatement MadeStatements MadeCatch MadeDeclarator (List MadeDeclarator)
    (List MadeExpression) (List MadeProperty)
    MadeStatements expression_layer property_layer key_layer statement_layer block_layer catch_layer declarator_layer
    declarators_layer expressions_layer properties_layer statements_layer

-- what is made of a list of statements
unfoldable pub statements_source : Stmts → MadeStatements
statements_source =
    fold-Stmts MadeExpression MadeProperty PropertyKey MadeStatement MadeStatements MadeCatch MadeDeclarator (List MadeDeclarator) (List MadeExpression)
    (List MadeProperty)
    MadeStatements expression_layer property_layer key_layer statement_layer block_layer catch_layer declarator_layer
    declarators_layer expressions_layer properties_layer statements_layer

-- the term of a script
abbrev pub term_of_script : Script → Term
term_of_script s = script_term s.number (statements_source s.body)

-- the terms of some scripts, which run one after another
abbrev pub terms_of_scripts : List Script → Terms
terms_of_scripts [] = end
terms_of_scripts (s ∷ ss) = more (term_of_script s) (terms_of_scripts ss)
