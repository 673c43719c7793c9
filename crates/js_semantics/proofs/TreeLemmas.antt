-- What is made of a tree of each form.
use Rattle.std.proofs.Common.{◌≡◌, ℕ, Bool, true, false, List, Option, Some, None, map, sym, ap, ◌∙◌, decimal}
use Rattle.std.specs.Option.{option_map}
use Rattle.std.specs.Global.{Box}
use Rattle.js_tree.specs.declared.node.NodeId.{NodeId}
use Rattle.js_tree.specs.declared.integer.SafeInteger.{SafeInteger}
use Rattle.js_tree_operators.specs.declared.operator.UnaryOperator.{UnaryOperator}
use Rattle.js_tree_operators.specs.declared.operator.UpdateOperator.{UpdateOperator}
use Rattle.js_tree_operators.specs.declared.operator.BinaryOperator.{BinaryOperator}
use Rattle.js_tree_operators.specs.declared.operator.AssignmentOperator.{AssignmentOperator}
use Rattle.js_tree.specs.declared.tree.ArrowParameters.{ArrowParameters}
use Rattle.js_tree.specs.declared.tree.Expr.{Expr}
use Rattle.js_tree.specs.declared.tree.PropertyDefinition.{PropertyDefinition}
use Rattle.js_tree.specs.declared.tree.PropertyName.{PropertyName}
use Rattle.js_tree.specs.declared.tree.Stmt.{Stmt}
use Rattle.js_tree.specs.declared.tree.Block.{Block}
use Rattle.js_tree.specs.declared.tree.Catch.{Catch}
use Rattle.js_tree.specs.declared.tree.Declarator.{Declarator}
use Rattle.js_tree.specs.declared.tree.Declarators.{Declarators, out-Declarators}
use Rattle.js_tree.specs.declared.tree.Exprs.{Exprs}
use Rattle.js_tree.specs.declared.tree.PropertyDefinitions.{PropertyDefinitions}
use Rattle.js_tree.specs.declared.tree.Stmts.{Stmts}
use Rattle.js_tree.specs.declared.tree.Expr.TheOpen.{Expr-F, PropertyDefinition-F, PropertyName-F, Stmt-F}
use Rattle.js_tree.specs.declared.tree.Expr.TheFolds.{fold_out-Block, fold_out-Catch, fold_out-Declarator, fold_out-Declarators, fold_out-Exprs, fold_out-PropertyDefinitions, fold_out-Stmts}
use Rattle.js_tree.specs.declared.tree.Expr.TheVariants.{rolls-This, rolls-Name, rolls-Number, rolls-String, rolls-Boolean, rolls-Null, rolls-Array, rolls-Object, rolls-Function, rolls-Arrow, rolls-ArrowBlock, rolls-Parenthesized, rolls-Member, rolls-Index, rolls-Call, rolls-Postfix, rolls-Prefix, rolls-Unary, rolls-Binary, rolls-Conditional, rolls-Assign, rolls-Comma}
use Rattle.js_tree.specs.declared.tree.Stmt.TheVariants.{rolls-Lexical, rolls-Empty, rolls-Expression, rolls-DoWhile, rolls-While, rolls-For, rolls-ForLexical, rolls-ForOf, rolls-Continue, rolls-Break, rolls-Return, rolls-Throw, rolls-Try, rolls-Debugger, rolls-FunctionDeclaration, rolls-Block, rolls-If}
use Rattle.js_tree.specs.declared.tree.PropertyName.TheVariants.{rolls-Word, rolls-StringLiteral, rolls-NumericLiteral, rolls-Computed}
use Rattle.js_tree.specs.declared.tree.PropertyDefinition.TheVariants.{rolls-Shorthand, rolls-Value, rolls-Method}
use Rattle.js_tree.specs.declared.tree.Expr.TheViews as views
use Rattle.js_tree.specs.Views.{parameters_view}
use Rattle.js_heap.specs.declared.value.Value.TheVariants as values
use Rattle.js_semantics.specs.Makers as makers
use Rattle.js_semantics.specs.Makers.{parameter_names, MadeExpression, MadeStatement, MadeStatements, PropertyKey, MadeProperty, MadeDeclarator, MadeCatch}
use Rattle.js_semantics.specs.Sources.{expression_source, statements_source, expression_layer, property_layer, key_layer, statement_layer, block_layer, catch_layer, declarator_layer, declarators_layer, expressions_layer, properties_layer, statements_layer, property_source, key_source, statement_source, block_source, catch_source, declarator_source, declarators_source, expressions_source, properties_source}
use Rattle.js_semantics.proofs.SourceFolds.{expression_turn, property_turn, key_turn, statement_turn}

-- ---- expressions

pub source_this : (node : NodeId) → expression_source (Expr.This node) ≡ makers.this_made node.0
source_this node = ap expression_source (sym (rolls-This node)) ∙ expression_turn (Expr-F.This node)

pub source_name : (node : NodeId) (n : List ℕ) → expression_source (Expr.Name node n) ≡ makers.name_made node.0 n
source_name node n = ap expression_source (sym (rolls-Name node n)) ∙ expression_turn (Expr-F.Name node n)

pub source_number : (node : NodeId) (v : SafeInteger)
    → expression_source (Expr.Number node v) ≡ makers.number_made node.0 v.value
source_number node v = ap expression_source (sym (rolls-Number node v)) ∙ expression_turn (Expr-F.Number node v)

pub source_string : (node : NodeId) (us : List ℕ)
    → expression_source (Expr.String node us) ≡ makers.string_made node.0 us
source_string node us = ap expression_source (sym (rolls-String node us)) ∙ expression_turn (Expr-F.String node us)

pub source_boolean : (node : NodeId) (b : Bool)
    → expression_source (Expr.Boolean node b) ≡ makers.value_made node.0 (values.Bool b)
source_boolean node b = ap expression_source (sym (rolls-Boolean node b)) ∙ expression_turn (Expr-F.Boolean node b)

pub source_null : (node : NodeId) → expression_source (Expr.Null node) ≡ makers.value_made node.0 values.Null
source_null node = ap expression_source (sym (rolls-Null node)) ∙ expression_turn (Expr-F.Null node)

pub source_array : (node : NodeId) (es : Exprs)
    → expression_source (views.Array node es) ≡ makers.array_made node.0 (expressions_source es)
source_array node es = ap expression_source (sym (rolls-Array node es)) ∙ expression_turn (Expr-F.Array node es)

pub source_object : (node : NodeId) (ps : PropertyDefinitions)
    → expression_source (views.Object node ps) ≡ makers.object_made node.0 (properties_source ps)
source_object node ps = ap expression_source (sym (rolls-Object node ps)) ∙ expression_turn (Expr-F.Object node ps)

pub source_function : (node : NodeId) (n : Option (List ℕ)) (ps : List (List ℕ)) (body : Stmts)
    → expression_source (views.Function node n ps body) ≡ makers.function_made node.0 n ps (statements_source body)
source_function node n ps body =
    ap expression_source (sym (rolls-Function node n ps body)) ∙ expression_turn (Expr-F.Function node n ps body)

pub source_arrow : (node : NodeId) (ps : ArrowParameters) (x : Box Expr)
    → expression_source (views.Arrow node ps x) ≡ makers.arrow_made node.0 (parameter_names (parameters_view ps))
    (makers.returned_body (expression_source x.value))
source_arrow node ps x = ap expression_source (sym (rolls-Arrow node ps x)) ∙ expression_turn (Expr-F.Arrow node ps x)

pub source_arrow_block : (node : NodeId) (ps : ArrowParameters) (body : Stmts)
    → expression_source (views.ArrowBlock node ps body) ≡ makers.arrow_made node.0
    (parameter_names (parameters_view ps)) (statements_source body)
source_arrow_block node ps body =
    ap expression_source (sym (rolls-ArrowBlock node ps body)) ∙ expression_turn (Expr-F.ArrowBlock node ps body)

pub source_parenthesized : (node : NodeId) (x : Box Expr)
    → expression_source (views.Parenthesized node x) ≡ makers.parenthesized_made node.0 (expression_source x.value)
source_parenthesized node x =
    ap expression_source (sym (rolls-Parenthesized node x)) ∙ expression_turn (Expr-F.Parenthesized node x)

pub source_member : (node : NodeId) (x : Box Expr) (n : List ℕ)
    → expression_source (views.Member node x n) ≡ makers.member_made node.0 (expression_source x.value) n
source_member node x n = ap expression_source (sym (rolls-Member node x n)) ∙ expression_turn (Expr-F.Member node x n)

pub source_index : (node : NodeId) (x : Box Expr) (k : Box Expr)
    → expression_source (views.Index node x k) ≡ makers.index_made node.0 (expression_source x.value)
    (expression_source k.value)
source_index node x k = ap expression_source (sym (rolls-Index node x k)) ∙ expression_turn (Expr-F.Index node x k)

pub source_call : (node : NodeId) (f : Box Expr) (parentheses : NodeId) (es : Exprs)
    → expression_source (views.Call node f parentheses es) ≡ makers.call_made node.0 (expression_source f.value)
    parentheses.0 (expressions_source es)
source_call node f parentheses es =
    ap expression_source (sym (rolls-Call node f parentheses es)) ∙ expression_turn (Expr-F.Call node f parentheses es)

pub source_postfix : (node : NodeId) (o : UpdateOperator) (x : Box Expr)
    → expression_source (views.Postfix node o x) ≡ makers.update_made node.0 o false (expression_source x.value)
source_postfix node o x =
    ap expression_source (sym (rolls-Postfix node o x)) ∙ expression_turn (Expr-F.Postfix node o x)

pub source_prefix : (node : NodeId) (o : UpdateOperator) (x : Box Expr)
    → expression_source (views.Prefix node o x) ≡ makers.update_made node.0 o true (expression_source x.value)
source_prefix node o x = ap expression_source (sym (rolls-Prefix node o x)) ∙ expression_turn (Expr-F.Prefix node o x)

pub source_unary : (node : NodeId) (o : UnaryOperator) (x : Box Expr)
    → expression_source (views.Unary node o x) ≡ makers.unary_made node.0 o (expression_source x.value)
source_unary node o x = ap expression_source (sym (rolls-Unary node o x)) ∙ expression_turn (Expr-F.Unary node o x)

pub source_binary : (node : NodeId) (o : BinaryOperator) (l : Box Expr) (r : Box Expr)
    → expression_source (views.Binary node o l r) ≡ makers.binary_made node.0 o (expression_source l.value)
    (expression_source r.value)
source_binary node o l r =
    ap expression_source (sym (rolls-Binary node o l r)) ∙ expression_turn (Expr-F.Binary node o l r)

pub source_conditional : (node : NodeId) (t : Box Expr) (a : Box Expr) (b : Box Expr)
    → expression_source (views.Conditional node t a b) ≡ makers.conditional_made node.0 (expression_source t.value)
    (expression_source a.value) (expression_source b.value)
source_conditional node t a b =
    ap expression_source (sym (rolls-Conditional node t a b)) ∙ expression_turn (Expr-F.Conditional node t a b)

pub source_assign : (node : NodeId) (o : AssignmentOperator) (t : Box Expr) (v : Box Expr)
    → expression_source (views.Assign node o t v) ≡ makers.assign_made node.0 o (expression_source t.value)
    (expression_source v.value)
source_assign node o t v =
    ap expression_source (sym (rolls-Assign node o t v)) ∙ expression_turn (Expr-F.Assign node o t v)

pub source_comma : (node : NodeId) (es : Exprs)
    → expression_source (views.Comma node es) ≡ makers.comma_made node.0 (expressions_source es)
source_comma node es = ap expression_source (sym (rolls-Comma node es)) ∙ expression_turn (Expr-F.Comma node es)

-- ---- keys and members of object literals

pub source_word_key : (us : List ℕ) → key_source (PropertyName.Word us) ≡ makers.fixed_key us
source_word_key us = ap key_source (sym (rolls-Word us)) ∙ key_turn (PropertyName-F.Word us)

pub source_string_key : (us : List ℕ) → key_source (PropertyName.StringLiteral us) ≡ makers.fixed_key us
source_string_key us = ap key_source (sym (rolls-StringLiteral us)) ∙ key_turn (PropertyName-F.StringLiteral us)

pub source_number_key : (v : SafeInteger)
    → key_source (PropertyName.NumericLiteral v) ≡ makers.fixed_key (decimal v.value)
source_number_key v = ap key_source (sym (rolls-NumericLiteral v)) ∙ key_turn (PropertyName-F.NumericLiteral v)

pub source_computed_key : (x : Expr) → key_source (PropertyName.Computed x) ≡ makers.computed_key (expression_source x)
source_computed_key x = ap key_source (sym (rolls-Computed x)) ∙ key_turn (PropertyName-F.Computed x)

pub source_shorthand : (n : List ℕ)
    → property_source (PropertyDefinition.Shorthand n) ≡ makers.value_property (makers.fixed_key n)
    (makers.name_made 0 n)
source_shorthand n = ap property_source (sym (rolls-Shorthand n)) ∙ property_turn (PropertyDefinition-F.Shorthand n)

pub source_value : (k : PropertyName) (x : Expr)
    → property_source (PropertyDefinition.Value k x) ≡ makers.value_property (key_source k) (expression_source x)
source_value k x = ap property_source (sym (rolls-Value k x)) ∙ property_turn (PropertyDefinition-F.Value k x)

pub source_method : (node : NodeId) (k : PropertyName) (ps : List (List ℕ)) (body : Stmts)
    → property_source (views.Method node k ps body) ≡ makers.method_property node.0 (key_source k) ps
    (statements_source body)
source_method node k ps body =
    ap property_source (sym (rolls-Method node k ps body)) ∙ property_turn (PropertyDefinition-F.Method node k ps body)

-- ---- statements

pub source_block : (b : Block) → statement_source (views.Block b) ≡ makers.block_item (block_source b)
source_block b = ap statement_source (sym (rolls-Block b)) ∙ statement_turn (Stmt-F.Block b)

pub source_lexical : (node : NodeId) (c : Bool) (ds : Declarators)
    → statement_source (Stmt.Lexical node c ds) ≡ makers.lexical_item node.0 c (declarators_source ds)
source_lexical node c ds =
    ap statement_source (sym (rolls-Lexical node c ds)) ∙ statement_turn (Stmt-F.Lexical node c ds)

pub source_empty : (node : NodeId) → statement_source (Stmt.Empty node) ≡ makers.empty_item
source_empty node = ap statement_source (sym (rolls-Empty node)) ∙ statement_turn (Stmt-F.Empty node)

pub source_expression : (node : NodeId) (x : Expr)
    → statement_source (Stmt.Expression node x) ≡ makers.expression_item node.0 (expression_source x)
source_expression node x =
    ap statement_source (sym (rolls-Expression node x)) ∙ statement_turn (Stmt-F.Expression node x)

pub source_if : (node : NodeId) (x : Expr) (s : Box Stmt) (t : Option (Box Stmt))
    → statement_source (views.If node x s t) ≡ makers.if_item node.0 (expression_source x) (statement_source s.value)
    (option_map (λ b. statement_source b.value) t)
source_if node x s None = ap statement_source (sym (rolls-If node x s None)) ∙ statement_turn (Stmt-F.If node x s None)
source_if node x s (Some t) =
    ap statement_source (sym (rolls-If node x s (Some t))) ∙ statement_turn (Stmt-F.If node x s (Some t))

pub source_do_while : (node : NodeId) (s : Box Stmt) (x : Expr)
    → statement_source (views.DoWhile node s x) ≡ makers.do_while_item node.0 (statement_source s.value)
    (expression_source x)
source_do_while node s x = ap statement_source (sym (rolls-DoWhile node s x)) ∙ statement_turn (Stmt-F.DoWhile node s x)

pub source_while : (node : NodeId) (x : Expr) (s : Box Stmt)
    → statement_source (views.While node x s) ≡ makers.while_item node.0 (expression_source x)
    (statement_source s.value)
source_while node x s = ap statement_source (sym (rolls-While node x s)) ∙ statement_turn (Stmt-F.While node x s)

pub source_for : (node : NodeId) (i : Option Expr) (t : Option Expr) (u : Option Expr) (s : Box Stmt)
    → statement_source (views.For node i t u s) ≡ makers.for_item node.0 (option_map expression_source i)
    (option_map expression_source t) (option_map expression_source u) (statement_source s.value)
source_for node None None None s =
    ap statement_source (sym (rolls-For node None None None s)) ∙ statement_turn (Stmt-F.For node None None None s)
source_for node None None (Some u) s =
    ap statement_source (sym (rolls-For node None None (Some u) s))
    ∙ statement_turn (Stmt-F.For node None None (Some u) s)
source_for node None (Some t) None s =
    ap statement_source (sym (rolls-For node None (Some t) None s))
    ∙ statement_turn (Stmt-F.For node None (Some t) None s)
source_for node None (Some t) (Some u) s =
    ap statement_source (sym (rolls-For node None (Some t) (Some u) s))
    ∙ statement_turn (Stmt-F.For node None (Some t) (Some u) s)
source_for node (Some i) None None s =
    ap statement_source (sym (rolls-For node (Some i) None None s))
    ∙ statement_turn (Stmt-F.For node (Some i) None None s)
source_for node (Some i) None (Some u) s =
    ap statement_source (sym (rolls-For node (Some i) None (Some u) s))
    ∙ statement_turn (Stmt-F.For node (Some i) None (Some u) s)
source_for node (Some i) (Some t) None s =
    ap statement_source (sym (rolls-For node (Some i) (Some t) None s))
    ∙ statement_turn (Stmt-F.For node (Some i) (Some t) None s)
source_for node (Some i) (Some t) (Some u) s =
    ap statement_source (sym (rolls-For node (Some i) (Some t) (Some u) s))
    ∙ statement_turn (Stmt-F.For node (Some i) (Some t) (Some u) s)

pub source_for_lexical : (node : NodeId) (c : Bool) (ds : Declarators) (t : Option Expr) (u : Option Expr)
    (s : Box Stmt)
    → statement_source (views.ForLexical node c ds t u s) ≡ makers.for_lexical_item node.0 c (declarators_source ds)
    (option_map expression_source t) (option_map expression_source u) (statement_source s.value)
source_for_lexical node c ds None None s =
    ap statement_source (sym (rolls-ForLexical node c ds None None s))
    ∙ statement_turn (Stmt-F.ForLexical node c ds None None s)
source_for_lexical node c ds None (Some u) s =
    ap statement_source (sym (rolls-ForLexical node c ds None (Some u) s))
    ∙ statement_turn (Stmt-F.ForLexical node c ds None (Some u) s)
source_for_lexical node c ds (Some t) None s =
    ap statement_source (sym (rolls-ForLexical node c ds (Some t) None s))
    ∙ statement_turn (Stmt-F.ForLexical node c ds (Some t) None s)
source_for_lexical node c ds (Some t) (Some u) s =
    ap statement_source (sym (rolls-ForLexical node c ds (Some t) (Some u) s))
    ∙ statement_turn (Stmt-F.ForLexical node c ds (Some t) (Some u) s)

pub source_for_of : (node : NodeId) (c : Bool) (n : List ℕ) (x : Expr) (s : Box Stmt)
    → statement_source (views.ForOf node c n x s) ≡ makers.for_of_item node.0 c n (expression_source x)
    (statement_source s.value)
source_for_of node c n x s =
    ap statement_source (sym (rolls-ForOf node c n x s)) ∙ statement_turn (Stmt-F.ForOf node c n x s)

pub source_continue : (node : NodeId) → statement_source (Stmt.Continue node) ≡ makers.continue_item node.0
source_continue node = ap statement_source (sym (rolls-Continue node)) ∙ statement_turn (Stmt-F.Continue node)

pub source_break : (node : NodeId) → statement_source (Stmt.Break node) ≡ makers.break_item node.0
source_break node = ap statement_source (sym (rolls-Break node)) ∙ statement_turn (Stmt-F.Break node)

pub source_return : (node : NodeId) (x : Option Expr)
    → statement_source (views.Return node x) ≡ makers.return_item node.0 (option_map expression_source x)
source_return node None = ap statement_source (sym (rolls-Return node None)) ∙ statement_turn (Stmt-F.Return node None)
source_return node (Some x) =
    ap statement_source (sym (rolls-Return node (Some x))) ∙ statement_turn (Stmt-F.Return node (Some x))

pub source_throw : (node : NodeId) (x : Expr)
    → statement_source (Stmt.Throw node x) ≡ makers.throw_item node.0 (expression_source x)
source_throw node x = ap statement_source (sym (rolls-Throw node x)) ∙ statement_turn (Stmt-F.Throw node x)

pub source_try : (node : NodeId) (b : Block) (h : Option Catch) (f : Option Block)
    → statement_source (views.Try node b h f) ≡ makers.try_item node.0 (block_source b) (option_map catch_source h)
    (option_map block_source f)
source_try node b None None =
    ap statement_source (sym (rolls-Try node b None None)) ∙ statement_turn (Stmt-F.Try node b None None)
source_try node b None (Some f) =
    ap statement_source (sym (rolls-Try node b None (Some f))) ∙ statement_turn (Stmt-F.Try node b None (Some f))
source_try node b (Some h) None =
    ap statement_source (sym (rolls-Try node b (Some h) None)) ∙ statement_turn (Stmt-F.Try node b (Some h) None)
source_try node b (Some h) (Some f) =
    ap statement_source (sym (rolls-Try node b (Some h) (Some f)))
    ∙ statement_turn (Stmt-F.Try node b (Some h) (Some f))

pub source_debugger : (node : NodeId) → statement_source (Stmt.Debugger node) ≡ makers.debugger_item node.0
source_debugger node = ap statement_source (sym (rolls-Debugger node)) ∙ statement_turn (Stmt-F.Debugger node)

pub source_function_declaration : (node : NodeId) (n : List ℕ) (ps : List (List ℕ)) (body : Stmts)
    → statement_source (views.FunctionDeclaration node n ps body) ≡ makers.function_item node.0 n ps
    (statements_source body)
source_function_declaration node n ps body =
    ap statement_source (sym (rolls-FunctionDeclaration node n ps body))
    ∙ statement_turn (Stmt-F.FunctionDeclaration node n ps body)

-- ---- parts

pub source_block_body : (b : Block) → block_source b ≡ statements_source b.body
unfolding expression_source property_source key_source statement_source block_source catch_source declarator_source
    declarators_source expressions_source properties_source statements_source
source_block_body b =
    fold_out-Block MadeExpression MadeProperty PropertyKey MadeStatement MadeStatements MadeCatch MadeDeclarator (List MadeDeclarator) (List MadeExpression)
    (List MadeProperty)
    MadeStatements expression_layer property_layer key_layer statement_layer block_layer catch_layer declarator_layer
    declarators_layer expressions_layer properties_layer statements_layer b

pub source_catch : (h : Catch) → catch_source h ≡ record { name = h.parameter; body = block_source h.block }
unfolding expression_source property_source key_source statement_source block_source catch_source declarator_source
    declarators_source expressions_source properties_source statements_source
source_catch h =
    fold_out-Catch MadeExpression MadeProperty PropertyKey MadeStatement MadeStatements MadeCatch MadeDeclarator (List MadeDeclarator) (List MadeExpression)
    (List MadeProperty)
    MadeStatements expression_layer property_layer key_layer statement_layer block_layer catch_layer declarator_layer
    declarators_layer expressions_layer properties_layer statements_layer h

pub source_declarators : (ds : Declarators)
    → declarators_source ds ≡ map declarator_source (out-Declarators ds).items.items
unfolding expression_source property_source key_source statement_source block_source catch_source declarator_source
    declarators_source expressions_source properties_source statements_source
source_declarators ds =
    fold_out-Declarators MadeExpression MadeProperty PropertyKey MadeStatement MadeStatements MadeCatch MadeDeclarator (List MadeDeclarator)
    (List MadeExpression) (List MadeProperty)
    MadeStatements expression_layer property_layer key_layer statement_layer block_layer catch_layer declarator_layer
    declarators_layer expressions_layer properties_layer statements_layer ds

pub source_expressions : (es : Exprs) → expressions_source es ≡ map expression_source es.items.items
unfolding expression_source property_source key_source statement_source block_source catch_source declarator_source
    declarators_source expressions_source properties_source statements_source
source_expressions es =
    fold_out-Exprs MadeExpression MadeProperty PropertyKey MadeStatement MadeStatements MadeCatch MadeDeclarator (List MadeDeclarator) (List MadeExpression)
    (List MadeProperty)
    MadeStatements expression_layer property_layer key_layer statement_layer block_layer catch_layer declarator_layer
    declarators_layer expressions_layer properties_layer statements_layer es

pub source_properties : (ps : PropertyDefinitions) → properties_source ps ≡ map property_source ps.items.items
unfolding expression_source property_source key_source statement_source block_source catch_source declarator_source
    declarators_source expressions_source properties_source statements_source
source_properties ps =
    fold_out-PropertyDefinitions MadeExpression MadeProperty PropertyKey MadeStatement MadeStatements MadeCatch MadeDeclarator (List MadeDeclarator)
    (List MadeExpression) (List MadeProperty)
    MadeStatements expression_layer property_layer key_layer statement_layer block_layer catch_layer declarator_layer
    declarators_layer expressions_layer properties_layer statements_layer ps

pub source_statements : (ss : Stmts) → statements_source ss ≡ makers.items_of (map statement_source ss.items.items)
unfolding expression_source property_source key_source statement_source block_source catch_source declarator_source
    declarators_source expressions_source properties_source statements_source
source_statements ss =
    fold_out-Stmts MadeExpression MadeProperty PropertyKey MadeStatement MadeStatements MadeCatch MadeDeclarator (List MadeDeclarator) (List MadeExpression)
    (List MadeProperty)
    MadeStatements expression_layer property_layer key_layer statement_layer block_layer catch_layer declarator_layer
    declarators_layer expressions_layer properties_layer statements_layer ss

declarator_by : (n : List ℕ) (o : Option Expr)
    → declarator_source (record { name = n; initializer = o })
    ≡ record { name = n; initializer = option_map expression_source o }
unfolding expression_source property_source key_source statement_source block_source catch_source declarator_source
    declarators_source expressions_source properties_source statements_source
declarator_by n None =
    fold_out-Declarator MadeExpression MadeProperty PropertyKey MadeStatement MadeStatements MadeCatch MadeDeclarator (List MadeDeclarator)
    (List MadeExpression) (List MadeProperty)
    MadeStatements expression_layer property_layer key_layer statement_layer block_layer catch_layer declarator_layer
    declarators_layer expressions_layer properties_layer statements_layer
    (record { name = n; initializer = None })
declarator_by n (Some e) =
    fold_out-Declarator MadeExpression MadeProperty PropertyKey MadeStatement MadeStatements MadeCatch MadeDeclarator (List MadeDeclarator)
    (List MadeExpression) (List MadeProperty)
    MadeStatements expression_layer property_layer key_layer statement_layer block_layer catch_layer declarator_layer
    declarators_layer expressions_layer properties_layer statements_layer
    (record { name = n; initializer = Some e })

pub source_declarator : (d : Declarator)
    → declarator_source d ≡ record { name = d.name; initializer = option_map expression_source d.initializer }
source_declarator d = declarator_by d.name d.initializer

pub ruleset expression_laws = (
  source_this,
  source_name,
  source_number,
  source_string,
  source_boolean,
  source_null,
  source_array,
  source_object,
  source_function,
  source_arrow,
  source_arrow_block,
  source_parenthesized,
  source_member,
  source_index,
  source_call,
  source_postfix,
  source_prefix,
  source_unary,
  source_binary,
  source_conditional,
  source_assign,
  source_comma,
)

pub ruleset key_laws = (source_word_key, source_string_key, source_number_key, source_computed_key)

pub ruleset property_laws = (source_shorthand, source_value, source_method)

pub ruleset statement_laws = (
  source_block,
  source_lexical,
  source_empty,
  source_expression,
  source_if,
  source_do_while,
  source_while,
  source_for,
  source_for_lexical,
  source_for_of,
  source_continue,
  source_break,
  source_return,
  source_throw,
  source_try,
  source_debugger,
  source_function_declaration,
)
