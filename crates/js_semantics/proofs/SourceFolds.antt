-- A law of what is made of the parser's trees, from one lemma for each maker. What is made of a tree stands beside its
-- clean tree, so that a law may speak of both.
use Rattle.std.proofs.Common.{◌≡◌, ℕ, Bool, true, false, List, [], ◌∷◌, Option, None, Some, map, option_map, decimal, sym, subst}
use Rattle.js_tree.specs.declared.tree.Expr.{Expr}
use Rattle.js_tree.specs.declared.tree.PropertyDefinition.{PropertyDefinition}
use Rattle.js_tree.specs.declared.tree.PropertyName.{PropertyName}
use Rattle.js_tree.specs.declared.tree.Stmt.{Stmt}
use Rattle.js_tree.specs.declared.tree.Block.{Block}
use Rattle.js_tree.specs.declared.tree.Catch.{Catch}
use Rattle.js_tree.specs.declared.tree.Declarator.{Declarator}
use Rattle.js_tree.specs.declared.tree.Declarators.{Declarators}
use Rattle.js_tree.specs.declared.tree.Exprs.{Exprs}
use Rattle.js_tree.specs.declared.tree.PropertyDefinitions.{PropertyDefinitions}
use Rattle.js_tree.specs.declared.tree.Stmts.{Stmts}
use Rattle.js_tree.specs.declared.tree.Expr.TheOpen as layers
use Rattle.js_tree.specs.declared.tree.Expr.TheOpen.{Expr-F, Stmt-F, PropertyName-F, PropertyDefinition-F}
use Rattle.js_tree.specs.declared.tree.Expr.TheFolds.{map-Expr, map-PropertyDefinition, map-PropertyName, map-Stmt, map-Block, map-Catch, map-Declarator, map-Declarators, map-Exprs, map-PropertyDefinitions, map-Stmts, fold-roll-Expr, fold-roll-PropertyDefinition, fold-roll-PropertyName, fold-roll-Stmt, fold-roll-Block, fold-roll-Catch, fold-roll-Declarator, fold-roll-Declarators, fold-roll-Exprs, fold-roll-PropertyDefinitions, fold-roll-Stmts}
use Rattle.js_tree.specs.declared.tree.Expr.TheViews as views
use Rattle.js_tree.specs.Trees as trees
use Rattle.js_tree.specs.Trees.{Parameters, Expression, Expressions, OptionalExpression, Key, PropertyDefinition as Property, PropertyDefinitions as Properties, Statement, Statements, Handler, Finalizer}
use Rattle.js_tree.specs.Views.{parameters_view, expressions, statements, properties, declarators, optional, expression_step, property_step, key_step, statement_step, block_step, catch_step, declarator_step, declarators_step, expressions_step, properties_step, statements_step, expression_view, property_view, key_view, statement_view, block_view, catch_view, declarator_view, declarators_view, expressions_view, properties_view, statements_view}
use Rattle.js_tree.proofs.ViewLemmas.{Layer as Level, expression_roll, property_roll, key_roll, statement_roll, block_roll, catch_roll, declarator_roll, declarators_roll, expressions_roll, properties_roll, statements_roll}
use Rattle.js_tree_operators.specs.declared.operator.UnaryOperator.{UnaryOperator}
use Rattle.js_tree_operators.specs.declared.operator.UpdateOperator.{UpdateOperator}
use Rattle.js_tree_operators.specs.declared.operator.BinaryOperator.{BinaryOperator}
use Rattle.js_tree_operators.specs.declared.operator.AssignmentOperator.{AssignmentOperator}
use Rattle.js_heap.specs.declared.value.Value.TheVariants as values
use Rattle.js_semantics.specs.Makers.{parameter_names, MadeExpression, MadeStatement, MadeStatements, PropertyKey, fixed_key, computed_key, MadeProperty, value_property, method_property, MadeDeclarator, MadeCatch, value_made, number_made, string_made, this_made, name_made, array_made, parenthesized_made, member_made, index_made, assign_made, update_made, unary_made, binary_made, conditional_made, comma_made, call_made, function_made, returned_body, arrow_made, object_made, no_items, and_items, items_of, block_item, empty_item, expression_item, lexical_item, if_item, while_item, do_while_item, for_item, for_lexical_item, for_of_item, continue_item, break_item, return_item, throw_item, try_item, debugger_item, function_item}
use Rattle.js_semantics.specs.Sources.{Layer, expression_layer, property_layer, key_layer, statement_layer, block_layer, catch_layer, declarator_layer, declarators_layer, expressions_layer, properties_layer, statements_layer, expression_source, property_source, key_source, statement_source, block_source, catch_source, declarator_source, declarators_source, expressions_source, properties_source, statements_source}
use Rattle.js_semantics.proofs.TreeFolds.{Former, Mapper, Claims, Known, known_trees, Grows, every-expression, every-statements}

-- ---- what is made of one level

-- the parts' clean trees in its places
abbrev pub CleanLayer : Former → Type 0
CleanLayer F =
    F Expression Property Key Statement Statements Handler trees.Declarator trees.Declarators Expressions Properties
    Statements

-- what is made of the parts, and the parts' clean trees
abbrev pub made_parts : (F : Former) → Mapper F → Level F → Layer F
made_parts F change =
    change Expr PropertyDefinition PropertyName Stmt Block Catch Declarator Declarators Exprs PropertyDefinitions Stmts
    MadeExpression MadeProperty PropertyKey MadeStatement MadeStatements MadeCatch MadeDeclarator
    (List MadeDeclarator) (List MadeExpression) (List MadeProperty)
    MadeStatements expression_source property_source key_source statement_source block_source catch_source declarator_source
    declarators_source expressions_source properties_source statements_source

abbrev pub clean_parts : (F : Former) → Mapper F → Level F → CleanLayer F
clean_parts F change =
    change Expr PropertyDefinition PropertyName Stmt Block Catch Declarator Declarators Exprs PropertyDefinitions Stmts
    Expression Property Key Statement Statements Handler trees.Declarator trees.Declarators Expressions Properties
    Statements expression_view property_view key_view statement_view block_view catch_view declarator_view
    declarators_view expressions_view properties_view statements_view

-- what is made of a tree is made of what is made of its parts
pub expression_turn : (x : Level Expr-F)
    → expression_source (views.roll-Expr x) ≡ expression_layer (made_parts Expr-F map-Expr x)
unfolding expression_source property_source key_source statement_source block_source catch_source declarator_source
    declarators_source expressions_source properties_source statements_source
expression_turn x =
    fold-roll-Expr _ _ _ _ _ _ _ _ _ _ _ expression_layer property_layer key_layer statement_layer block_layer
    catch_layer declarator_layer declarators_layer expressions_layer properties_layer statements_layer x

pub property_turn : (x : Level PropertyDefinition-F)
    → property_source (views.roll-PropertyDefinition x) ≡ property_layer
    (made_parts PropertyDefinition-F map-PropertyDefinition x)
unfolding expression_source property_source key_source statement_source block_source catch_source declarator_source
    declarators_source expressions_source properties_source statements_source
property_turn x =
    fold-roll-PropertyDefinition _ _ _ _ _ _ _ _ _ _ _ expression_layer property_layer key_layer statement_layer block_layer
    catch_layer declarator_layer declarators_layer expressions_layer properties_layer statements_layer x

pub key_turn : (x : Level PropertyName-F)
    → key_source (views.roll-PropertyName x) ≡ key_layer (made_parts PropertyName-F map-PropertyName x)
unfolding expression_source property_source key_source statement_source block_source catch_source declarator_source
    declarators_source expressions_source properties_source statements_source
key_turn x =
    fold-roll-PropertyName _ _ _ _ _ _ _ _ _ _ _ expression_layer property_layer key_layer statement_layer block_layer
    catch_layer declarator_layer declarators_layer expressions_layer properties_layer statements_layer x

pub statement_turn : (x : Level Stmt-F)
    → statement_source (views.roll-Stmt x) ≡ statement_layer (made_parts Stmt-F map-Stmt x)
unfolding expression_source property_source key_source statement_source block_source catch_source declarator_source
    declarators_source expressions_source properties_source statements_source
statement_turn x =
    fold-roll-Stmt _ _ _ _ _ _ _ _ _ _ _ expression_layer property_layer key_layer statement_layer block_layer
    catch_layer declarator_layer declarators_layer expressions_layer properties_layer statements_layer x

pub block_turn : (x : Level layers.Block-F)
    → block_source (views.roll-Block x) ≡ block_layer (made_parts layers.Block-F map-Block x)
unfolding expression_source property_source key_source statement_source block_source catch_source declarator_source
    declarators_source expressions_source properties_source statements_source
block_turn x =
    fold-roll-Block _ _ _ _ _ _ _ _ _ _ _ expression_layer property_layer key_layer statement_layer block_layer
    catch_layer declarator_layer declarators_layer expressions_layer properties_layer statements_layer x

pub catch_turn : (x : Level layers.Catch-F)
    → catch_source (views.roll-Catch x) ≡ catch_layer (made_parts layers.Catch-F map-Catch x)
unfolding expression_source property_source key_source statement_source block_source catch_source declarator_source
    declarators_source expressions_source properties_source statements_source
catch_turn x =
    fold-roll-Catch _ _ _ _ _ _ _ _ _ _ _ expression_layer property_layer key_layer statement_layer block_layer
    catch_layer declarator_layer declarators_layer expressions_layer properties_layer statements_layer x

pub declarator_turn : (x : Level layers.Declarator-F)
    → declarator_source (views.roll-Declarator x) ≡ declarator_layer (made_parts layers.Declarator-F map-Declarator x)
unfolding expression_source property_source key_source statement_source block_source catch_source declarator_source
    declarators_source expressions_source properties_source statements_source
declarator_turn x =
    fold-roll-Declarator _ _ _ _ _ _ _ _ _ _ _ expression_layer property_layer key_layer statement_layer block_layer
    catch_layer declarator_layer declarators_layer expressions_layer properties_layer statements_layer x

pub declarators_turn : (x : Level layers.Declarators-F)
    → declarators_source (views.roll-Declarators x) ≡ declarators_layer
    (made_parts layers.Declarators-F map-Declarators x)
unfolding expression_source property_source key_source statement_source block_source catch_source declarator_source
    declarators_source expressions_source properties_source statements_source
declarators_turn x =
    fold-roll-Declarators _ _ _ _ _ _ _ _ _ _ _ expression_layer property_layer key_layer statement_layer block_layer
    catch_layer declarator_layer declarators_layer expressions_layer properties_layer statements_layer x

pub expressions_turn : (x : Level layers.Exprs-F)
    → expressions_source (views.roll-Exprs x) ≡ expressions_layer (made_parts layers.Exprs-F map-Exprs x)
unfolding expression_source property_source key_source statement_source block_source catch_source declarator_source
    declarators_source expressions_source properties_source statements_source
expressions_turn x =
    fold-roll-Exprs _ _ _ _ _ _ _ _ _ _ _ expression_layer property_layer key_layer statement_layer block_layer
    catch_layer declarator_layer declarators_layer expressions_layer properties_layer statements_layer x

pub properties_turn : (x : Level layers.PropertyDefinitions-F)
    → properties_source (views.roll-PropertyDefinitions x) ≡ properties_layer
    (made_parts layers.PropertyDefinitions-F map-PropertyDefinitions x)
unfolding expression_source property_source key_source statement_source block_source catch_source declarator_source
    declarators_source expressions_source properties_source statements_source
properties_turn x =
    fold-roll-PropertyDefinitions _ _ _ _ _ _ _ _ _ _ _ expression_layer property_layer key_layer statement_layer block_layer
    catch_layer declarator_layer declarators_layer expressions_layer properties_layer statements_layer x

pub statements_turn : (x : Level layers.Stmts-F)
    → statements_source (views.roll-Stmts x) ≡ statements_layer (made_parts layers.Stmts-F map-Stmts x)
unfolding expression_source property_source key_source statement_source block_source catch_source declarator_source
    declarators_source expressions_source properties_source statements_source
statements_turn x =
    fold-roll-Stmts _ _ _ _ _ _ _ _ _ _ _ expression_layer property_layer key_layer statement_layer block_layer
    catch_layer declarator_layer declarators_layer expressions_layer properties_layer statements_layer x

-- ---- what is made of a tree beside its clean tree

-- a relation for each type of what is made
pub record Relations : Type 1 where
  pub expression : MadeExpression → Expression → Type 0
  pub expressions : List MadeExpression → Expressions → Type 0
  pub optional : Option MadeExpression → OptionalExpression → Type 0
  pub key : PropertyKey → Key → Type 0
  pub property : MadeProperty → Property → Type 0
  pub properties : List MadeProperty → Properties → Type 0
  pub declarator : MadeDeclarator → trees.Declarator → Type 0
  pub declarators : List MadeDeclarator → trees.Declarators → Type 0
  pub statement : MadeStatement → Statement → Type 0
  pub handler : Option MadeCatch → Handler → Type 0
  pub finalizer : Option MadeStatements → Finalizer → Type 0
  pub statements : MadeStatements → Statements → Type 0

-- each maker keeps it: what it makes of related parts is related
pub record Keeps (R : Relations) : Type 0 where
  pub of_this : (node : ℕ) → R.expression (this_made node) trees.this
  pub of_name : (node : ℕ) (n : List ℕ) → R.expression (name_made node n) (trees.name n)
  pub of_number : (node v : ℕ) → R.expression (number_made node v) (trees.number v)
  pub of_string : (node : ℕ) (us : List ℕ) → R.expression (string_made node us) (trees.string us)
  pub of_boolean : (node : ℕ) (b : Bool) → R.expression (value_made node (values.Bool b)) (trees.boolean b)
  pub of_null : (node : ℕ) → R.expression (value_made node values.Null) trees.null
  pub of_array : (node : ℕ) (es : List MadeExpression) (xs : Expressions)
      → R.expressions es xs
      → R.expression (array_made node es) (trees.array xs)
  pub of_object : (node : ℕ) (ps : List MadeProperty) (xs : Properties)
      → R.properties ps xs
      → R.expression (object_made node ps) (trees.object xs)
  pub of_function : (node : ℕ) (n : Option (List ℕ)) (ps : List (List ℕ)) (body : MadeStatements) (xs : Statements)
      → R.statements body xs
      → R.expression (function_made node n ps body) (trees.function n ps xs)
  pub of_arrow : (node : ℕ) (ps : Parameters) (e : MadeExpression) (x : Expression)
      → R.expression e x
      → R.expression (arrow_made node (parameter_names ps) (returned_body e)) (trees.arrow ps x)
  pub of_arrow_block : (node : ℕ) (ps : Parameters) (body : MadeStatements) (xs : Statements)
      → R.statements body xs
      → R.expression (arrow_made node (parameter_names ps) body) (trees.arrow_block ps xs)
  pub of_parenthesized : (node : ℕ) (e : MadeExpression) (x : Expression)
      → R.expression e x
      → R.expression (parenthesized_made node e) (trees.parenthesized x)
  pub of_member : (node : ℕ) (e : MadeExpression) (n : List ℕ) (x : Expression)
      → R.expression e x
      → R.expression (member_made node e n) (trees.member x n)
  pub of_index : (node : ℕ) (e k : MadeExpression) (x y : Expression)
      → R.expression e x
      → R.expression k y
      → R.expression (index_made node e k) (trees.index x y)
  pub of_call : (node parentheses : ℕ) (f : MadeExpression) (es : List MadeExpression) (x : Expression) (xs : Expressions)
      → R.expression f x
      → R.expressions es xs
      → R.expression (call_made node f parentheses es) (trees.call x xs)
  pub of_postfix : (node : ℕ) (o : UpdateOperator) (e : MadeExpression) (x : Expression)
      → R.expression e x
      → R.expression (update_made node o false e) (trees.postfix o x)
  pub of_prefix : (node : ℕ) (o : UpdateOperator) (e : MadeExpression) (x : Expression)
      → R.expression e x
      → R.expression (update_made node o true e) (trees.prefix o x)
  pub of_unary : (node : ℕ) (o : UnaryOperator) (e : MadeExpression) (x : Expression)
      → R.expression e x
      → R.expression (unary_made node o e) (trees.unary o x)
  pub of_binary : (node : ℕ) (o : BinaryOperator) (l r : MadeExpression) (x y : Expression)
      → R.expression l x
      → R.expression r y
      → R.expression (binary_made node o l r) (trees.binary o x y)
  pub of_conditional : (node : ℕ) (t a b : MadeExpression) (x y z : Expression)
      → R.expression t x
      → R.expression a y
      → R.expression b z
      → R.expression (conditional_made node t a b) (trees.conditional x y z)
  pub of_assign : (node : ℕ) (o : AssignmentOperator) (t e : MadeExpression) (x y : Expression)
      → R.expression t x
      → R.expression e y
      → R.expression (assign_made node o t e) (trees.assign o x y)
  pub of_comma : (node : ℕ) (es : List MadeExpression) (xs : Expressions)
      → R.expressions es xs
      → R.expression (comma_made node es) (trees.comma xs)
  pub of_no_expressions : R.expressions [] trees.no_expressions
  pub of_an_expression : (e : MadeExpression) (es : List MadeExpression) (x : Expression) (xs : Expressions)
      → R.expression e x
      → R.expressions es xs
      → R.expressions (e ∷ es) (trees.an_expression x xs)
  pub of_omitted : R.optional None trees.omitted
  pub of_present : (e : MadeExpression) (x : Expression) → R.expression e x → R.optional (Some e) (trees.present x)
  pub of_word_key : (us : List ℕ) → R.key (fixed_key us) (trees.word_key us)
  pub of_string_key : (us : List ℕ) → R.key (fixed_key us) (trees.string_key us)
  pub of_number_key : (v : ℕ) → R.key (fixed_key (decimal v)) (trees.number_key v)
  pub of_computed_key : (e : MadeExpression) (x : Expression) → R.expression e x → R.key (computed_key e) (trees.computed_key x)
  pub of_shorthand : (n : List ℕ) → R.property (value_property (fixed_key n) (name_made 0 n)) (trees.shorthand n)
  pub of_value : (k : PropertyKey) (e : MadeExpression) (x : Key) (y : Expression)
      → R.key k x
      → R.expression e y
      → R.property (value_property k e) (trees.value x y)
  pub of_method : (node : ℕ) (k : PropertyKey) (ps : List (List ℕ)) (body : MadeStatements) (x : Key) (xs : Statements)
      → R.key k x
      → R.statements body xs
      → R.property (method_property node k ps body) (trees.method x ps xs)
  pub of_no_properties : R.properties [] trees.no_properties
  pub of_a_property : (p : MadeProperty) (ps : List MadeProperty) (x : Property) (xs : Properties)
      → R.property p x
      → R.properties ps xs
      → R.properties (p ∷ ps) (trees.a_property x xs)
  pub of_declarator : (n : List ℕ) (e : Option MadeExpression) (x : OptionalExpression)
      → R.optional e x
      → R.declarator (record { name = n; initializer = e }) (trees.declarator n x)
  pub of_no_declarators : R.declarators [] trees.no_declarators
  pub of_a_declarator : (d : MadeDeclarator) (ds : List MadeDeclarator) (x : trees.Declarator) (xs : trees.Declarators)
      → R.declarator d x
      → R.declarators ds xs
      → R.declarators (d ∷ ds) (trees.a_declarator x xs)
  pub of_block : (b : MadeStatements) (xs : Statements) → R.statements b xs → R.statement (block_item b) (trees.block xs)
  pub of_lexical : (node : ℕ) (constant : Bool) (ds : List MadeDeclarator) (xs : trees.Declarators)
      → R.declarators ds xs
      → R.statement (lexical_item node constant ds) (trees.lexical constant xs)
  pub of_empty : R.statement empty_item trees.empty
  pub of_expression : (node : ℕ) (e : MadeExpression) (x : Expression)
      → R.expression e x
      → R.statement (expression_item node e) (trees.expression x)
  pub of_if_then : (node : ℕ) (e : MadeExpression) (s : MadeStatement) (x : Expression) (y : Statement)
      → R.expression e x
      → R.statement s y
      → R.statement (if_item node e s None) (trees.if_then x y)
  pub of_if_else : (node : ℕ) (e : MadeExpression) (s t : MadeStatement) (x : Expression) (y z : Statement)
      → R.expression e x
      → R.statement s y
      → R.statement t z
      → R.statement (if_item node e s (Some t)) (trees.if_else x y z)
  pub of_do_while : (node : ℕ) (s : MadeStatement) (e : MadeExpression) (x : Statement) (y : Expression)
      → R.statement s x
      → R.expression e y
      → R.statement (do_while_item node s e) (trees.do_while x y)
  pub of_while : (node : ℕ) (e : MadeExpression) (s : MadeStatement) (x : Expression) (y : Statement)
      → R.expression e x
      → R.statement s y
      → R.statement (while_item node e s) (trees.while x y)
  pub of_for : (node : ℕ) (i t u : Option MadeExpression) (s : MadeStatement) (x y z : OptionalExpression) (w : Statement)
      → R.optional i x
      → R.optional t y
      → R.optional u z
      → R.statement s w
      → R.statement (for_item node i t u s) (trees.for x y z w)
  pub of_for_lexical : (node : ℕ) (constant : Bool) (ds : List MadeDeclarator) (t u : Option MadeExpression) (s : MadeStatement)
      (x : trees.Declarators) (y z : OptionalExpression) (w : Statement)
      → R.declarators ds x
      → R.optional t y
      → R.optional u z
      → R.statement s w
      → R.statement (for_lexical_item node constant ds t u s) (trees.for_lexical constant x y z w)
  pub of_for_of : (node : ℕ) (constant : Bool) (n : List ℕ) (e : MadeExpression) (s : MadeStatement) (x : Expression) (y : Statement)
      → R.expression e x
      → R.statement s y
      → R.statement (for_of_item node constant n e s) (trees.for_of constant n x y)
  pub of_continue : (node : ℕ) → R.statement (continue_item node) trees.continue
  pub of_break : (node : ℕ) → R.statement (break_item node) trees.break
  pub of_return : (node : ℕ) (e : Option MadeExpression) (x : OptionalExpression)
      → R.optional e x
      → R.statement (return_item node e) (trees.return x)
  pub of_throw : (node : ℕ) (e : MadeExpression) (x : Expression)
      → R.expression e x
      → R.statement (throw_item node e) (trees.throw x)
  pub of_try : (node : ℕ) (b : MadeStatements) (h : Option MadeCatch) (f : Option MadeStatements) (xs : Statements) (y : Handler)
      (z : Finalizer)
      → R.statements b xs
      → R.handler h y
      → R.finalizer f z
      → R.statement (try_item node b h f) (trees.try xs y z)
  pub of_debugger : (node : ℕ) → R.statement (debugger_item node) trees.debugger
  pub of_declared_function : (node : ℕ) (n : List ℕ) (ps : List (List ℕ)) (body : MadeStatements) (xs : Statements)
      → R.statements body xs
      → R.statement (function_item node n ps body) (trees.declared_function n ps xs)
  pub of_no_catch : R.handler None trees.no_catch
  pub of_catch : (n : Option (List ℕ)) (b : MadeStatements) (xs : Statements)
      → R.statements b xs
      → R.handler (Some (record { name = n; body = b })) (trees.catch n xs)
  pub of_no_finally : R.finalizer None trees.no_finally
  pub of_finally : (b : MadeStatements) (xs : Statements) → R.statements b xs → R.finalizer (Some b) (trees.finally xs)
  pub of_no_statements : R.statements no_items trees.no_statements
  pub of_a_statement : (i : MadeStatement) (is : MadeStatements) (x : Statement) (xs : Statements)
      → R.statement i x
      → R.statements is xs
      → R.statements (and_items i is) (trees.a_statement x xs)

abbrev related : Relations → Claims
related R =
    record {
      of_expression = λ x. R.expression (expression_source x) (expression_view x);
      of_property = λ x. R.property
          (property_source x) (property_view x);
      of_key = λ x. R.key (key_source x)
          (key_view x);
      of_statement = λ x. R.statement (statement_source x)
          (statement_view x);
      of_block = λ x. R.statements (block_source x) (block_view x);
      of_catch = λ x. R.handler
          (Some (catch_source x)) (catch_view x);
      of_declarator = λ x. R.declarator (declarator_source x)
          (declarator_view x);
      of_declarators = λ x. R.declarators (declarators_source x)
          (declarators_view x);
      of_expressions = λ x. R.expressions (expressions_source x)
          (expressions_view x);
      of_properties = λ x. R.properties (properties_source x)
          (properties_view x);
      of_statements = λ x. R.statements (statements_source x) (statements_view x);
    }

-- ---- each form

expression-known : (R : Relations)
    → Keeps R
    → (y : Known (related R) Expr-F)
    → R.expression (expression_layer (made_parts Expr-F map-Expr (known_trees (related R) Expr-F map-Expr y)))
    (expression_step (clean_parts Expr-F map-Expr (known_trees (related R) Expr-F map-Expr y)))
expression-known R k (Expr-F.This node) = k.of_this node.0
expression-known R k (Expr-F.Name node n) = k.of_name node.0 n
expression-known R k (Expr-F.Number node v) = k.of_number node.0 v.value
expression-known R k (Expr-F.String node us) = k.of_string node.0 us
expression-known R k (Expr-F.Boolean node b) = k.of_boolean node.0 b
expression-known R k (Expr-F.Null node) = k.of_null node.0
expression-known R k (Expr-F.Array node es) = k.of_array node.0 _ _ es.1
expression-known R k (Expr-F.Object node ps) = k.of_object node.0 _ _ ps.1
expression-known R k (Expr-F.Function node n ps body) = k.of_function node.0 n ps _ _ body.1
expression-known R k (Expr-F.Arrow node ps e) = k.of_arrow node.0 (parameters_view ps) _ _ e.value.1
expression-known R k (Expr-F.ArrowBlock node ps body) = k.of_arrow_block node.0 (parameters_view ps) _ _ body.1
expression-known R k (Expr-F.Parenthesized node e) = k.of_parenthesized node.0 _ _ e.value.1
expression-known R k (Expr-F.Member node e n) = k.of_member node.0 _ n _ e.value.1
expression-known R k (Expr-F.Index node e i) = k.of_index node.0 _ _ _ _ e.value.1 i.value.1
expression-known R k (Expr-F.Call node f parentheses es) = k.of_call node.0 parentheses.0 _ _ _ _ f.value.1 es.1
expression-known R k (Expr-F.Postfix node o e) = k.of_postfix node.0 o _ _ e.value.1
expression-known R k (Expr-F.Prefix node o e) = k.of_prefix node.0 o _ _ e.value.1
expression-known R k (Expr-F.Unary node o e) = k.of_unary node.0 o _ _ e.value.1
expression-known R k (Expr-F.Binary node o l r) = k.of_binary node.0 o _ _ _ _ l.value.1 r.value.1
expression-known R k (Expr-F.Conditional node t a b) = k.of_conditional node.0 _ _ _ _ _ _ t.value.1 a.value.1 b.value.1
expression-known R k (Expr-F.Assign node o t e) = k.of_assign node.0 o _ _ _ _ t.value.1 e.value.1
expression-known R k (Expr-F.Comma node es) = k.of_comma node.0 _ _ es.1

property-known : (R : Relations)
    → Keeps R
    → (y : Known (related R) PropertyDefinition-F)
    → R.property
    (property_layer
    (made_parts PropertyDefinition-F map-PropertyDefinition
    (known_trees (related R) PropertyDefinition-F map-PropertyDefinition y)))
    (property_step
    (clean_parts PropertyDefinition-F map-PropertyDefinition
    (known_trees (related R) PropertyDefinition-F map-PropertyDefinition y)))
property-known R k (PropertyDefinition-F.Shorthand n) = k.of_shorthand n
property-known R k (PropertyDefinition-F.Value p e) = k.of_value _ _ _ _ p.1 e.1
property-known R k (PropertyDefinition-F.Method node p ps body) = k.of_method node.0 _ ps _ _ _ p.1 body.1

key-known : (R : Relations)
    → Keeps R
    → (y : Known (related R) PropertyName-F)
    → R.key (key_layer
    (made_parts PropertyName-F map-PropertyName (known_trees (related R) PropertyName-F map-PropertyName y)))
    (key_step
    (clean_parts PropertyName-F map-PropertyName (known_trees (related R) PropertyName-F map-PropertyName y)))
key-known R k (PropertyName-F.Word us) = k.of_word_key us
key-known R k (PropertyName-F.StringLiteral us) = k.of_string_key us
key-known R k (PropertyName-F.NumericLiteral v) = k.of_number_key v.value
key-known R k (PropertyName-F.Computed e) = k.of_computed_key _ _ e.1

-- an expression that is known, if there is one
abbrev SomeKnown : Relations → Type 0
SomeKnown R = Option ((x : Expr) × (related R).of_expression x)

optional-known : (R : Relations)
    → Keeps R
    → (o : SomeKnown R)
    → R.optional (option_map (λ e. expression_source e.0) o) (optional (option_map (λ e. expression_view e.0) o))
optional-known R k None = k.of_omitted
optional-known R k (Some e) = k.of_present _ _ e.1

for-known : (R : Relations) → Keeps R → (node : ℕ) (i t u : SomeKnown R) (s : (x : Stmt) × (related R).of_statement x) →
    R.statement
    (for_item node (option_map (λ e. expression_source e.0) i) (option_map (λ e. expression_source e.0) t)
    (option_map (λ e. expression_source e.0) u) (statement_source s.0))
    (trees.for (optional (option_map (λ e. expression_view e.0) i))
    (optional (option_map (λ e. expression_view e.0) t)) (optional (option_map (λ e. expression_view e.0) u))
    (statement_view s.0))
for-known R k node i t u s =
    k.of_for node _ _ _ _ _ _ _ _ (optional-known R k i) (optional-known R k t) (optional-known R k u) s.1

for_lexical-known : (R : Relations)
    → Keeps R
    → (node : ℕ) (c : Bool) (ds : (x : Declarators) × (related R).of_declarators x) (t u : SomeKnown R)
    (s : (x : Stmt) × (related R).of_statement x) →
    R.statement
    (for_lexical_item node c (declarators_source ds.0) (option_map (λ e. expression_source e.0) t)
    (option_map (λ e. expression_source e.0) u) (statement_source s.0))
    (trees.for_lexical c (declarators_view ds.0) (optional (option_map (λ e. expression_view e.0) t))
    (optional (option_map (λ e. expression_view e.0) u)) (statement_view s.0))
for_lexical-known R k node c ds t u s =
    k.of_for_lexical node c _ _ _ _ _ _ _ _ ds.1 (optional-known R k t) (optional-known R k u) s.1

statement-known : (R : Relations)
    → Keeps R
    → (y : Known (related R) Stmt-F)
    → R.statement (statement_layer (made_parts Stmt-F map-Stmt (known_trees (related R) Stmt-F map-Stmt y)))
    (statement_step (clean_parts Stmt-F map-Stmt (known_trees (related R) Stmt-F map-Stmt y)))
statement-known R k (Stmt-F.Block b) = k.of_block _ _ b.1
statement-known R k (Stmt-F.Lexical node c ds) = k.of_lexical node.0 c _ _ ds.1
statement-known R k (Stmt-F.Empty node) = k.of_empty
statement-known R k (Stmt-F.Expression node e) = k.of_expression node.0 _ _ e.1
statement-known R k (Stmt-F.If node e s None) = k.of_if_then node.0 _ _ _ _ e.1 s.value.1
statement-known R k (Stmt-F.If node e s (Some t)) = k.of_if_else node.0 _ _ _ _ _ _ e.1 s.value.1 t.value.1
statement-known R k (Stmt-F.DoWhile node s e) = k.of_do_while node.0 _ _ _ _ s.value.1 e.1
statement-known R k (Stmt-F.While node e s) = k.of_while node.0 _ _ _ _ e.1 s.value.1
statement-known R k (Stmt-F.For node None None None s) = for-known R k node.0 None None None s.value
statement-known R k (Stmt-F.For node None None (Some u) s) = for-known R k node.0 None None (Some u) s.value
statement-known R k (Stmt-F.For node None (Some t) None s) = for-known R k node.0 None (Some t) None s.value
statement-known R k (Stmt-F.For node None (Some t) (Some u) s) = for-known R k node.0 None (Some t) (Some u) s.value
statement-known R k (Stmt-F.For node (Some i) None None s) = for-known R k node.0 (Some i) None None s.value
statement-known R k (Stmt-F.For node (Some i) None (Some u) s) = for-known R k node.0 (Some i) None (Some u) s.value
statement-known R k (Stmt-F.For node (Some i) (Some t) None s) = for-known R k node.0 (Some i) (Some t) None s.value
statement-known R k (Stmt-F.For node (Some i) (Some t) (Some u) s) =
    for-known R k node.0 (Some i) (Some t) (Some u) s.value
statement-known R k (Stmt-F.ForLexical node c ds None None s) = for_lexical-known R k node.0 c ds None None s.value
statement-known R k (Stmt-F.ForLexical node c ds None (Some u) s) =
    for_lexical-known R k node.0 c ds None (Some u) s.value
statement-known R k (Stmt-F.ForLexical node c ds (Some t) None s) =
    for_lexical-known R k node.0 c ds (Some t) None s.value
statement-known R k (Stmt-F.ForLexical node c ds (Some t) (Some u) s) =
    for_lexical-known R k node.0 c ds (Some t) (Some u) s.value
statement-known R k (Stmt-F.ForOf node c n e s) = k.of_for_of node.0 c n _ _ _ _ e.1 s.value.1
statement-known R k (Stmt-F.Continue node) = k.of_continue node.0
statement-known R k (Stmt-F.Break node) = k.of_break node.0
statement-known R k (Stmt-F.Return node None) = k.of_return node.0 _ _ k.of_omitted
statement-known R k (Stmt-F.Return node (Some e)) = k.of_return node.0 _ _ (k.of_present _ _ e.1)
statement-known R k (Stmt-F.Throw node e) = k.of_throw node.0 _ _ e.1
statement-known R k (Stmt-F.Try node b None None) = k.of_try node.0 _ _ _ _ _ _ b.1 k.of_no_catch k.of_no_finally
statement-known R k (Stmt-F.Try node b None (Some f)) =
    k.of_try node.0 _ _ _ _ _ _ b.1 k.of_no_catch (k.of_finally _ _ f.1)
statement-known R k (Stmt-F.Try node b (Some h) None) = k.of_try node.0 _ _ _ _ _ _ b.1 h.1 k.of_no_finally
statement-known R k (Stmt-F.Try node b (Some h) (Some f)) = k.of_try node.0 _ _ _ _ _ _ b.1 h.1 (k.of_finally _ _ f.1)
statement-known R k (Stmt-F.Debugger node) = k.of_debugger node.0
statement-known R k (Stmt-F.FunctionDeclaration node n ps body) = k.of_declared_function node.0 n ps _ _ body.1

block-known : (R : Relations)
    → Keeps R
    → (y : Known (related R) layers.Block-F)
    → R.statements
    (block_layer (made_parts layers.Block-F map-Block (known_trees (related R) layers.Block-F map-Block y)))
    (block_step (clean_parts layers.Block-F map-Block (known_trees (related R) layers.Block-F map-Block y)))
block-known R k b = b.body.1

catch-known : (R : Relations)
    → Keeps R
    → (y : Known (related R) layers.Catch-F)
    → R.handler
    (Some (catch_layer (made_parts layers.Catch-F map-Catch (known_trees (related R) layers.Catch-F map-Catch y))))
    (catch_step (clean_parts layers.Catch-F map-Catch (known_trees (related R) layers.Catch-F map-Catch y)))
catch-known R k c = k.of_catch c.parameter _ _ c.block.1

declared-known : (R : Relations) → Keeps R → (n : List ℕ) (o : SomeKnown R) →
    let y : Known (related R) layers.Declarator-F = record { name = n; initializer = o } in
    R.declarator
    (declarator_layer
    (made_parts layers.Declarator-F map-Declarator
    (known_trees (related R) layers.Declarator-F map-Declarator y)))
    (declarator_step
    (clean_parts layers.Declarator-F map-Declarator
    (known_trees (related R) layers.Declarator-F map-Declarator y)))
declared-known R k n None = k.of_declarator n _ _ k.of_omitted
declared-known R k n (Some e) = k.of_declarator n _ _ (k.of_present _ _ e.1)

declarator-known : (R : Relations)
    → Keeps R
    → (y : Known (related R) layers.Declarator-F)
    → R.declarator
    (declarator_layer
    (made_parts layers.Declarator-F map-Declarator
    (known_trees (related R) layers.Declarator-F map-Declarator y)))
    (declarator_step
    (clean_parts layers.Declarator-F map-Declarator
    (known_trees (related R) layers.Declarator-F map-Declarator y)))
declarator-known R k d = declared-known R k d.name d.initializer

declarators-listed : (R : Relations)
    → Keeps R
    → (ds : List ((x : Declarator) × (related R).of_declarator x))
    → R.declarators (map declarator_source (map (λ e. e.0) ds)) (declarators (map declarator_view (map (λ e. e.0) ds)))
declarators-listed R k [] = k.of_no_declarators
declarators-listed R k (d ∷ ds) = k.of_a_declarator _ _ _ _ d.1 (declarators-listed R k ds)

expressions-listed : (R : Relations)
    → Keeps R
    → (es : List ((x : Expr) × (related R).of_expression x))
    → R.expressions (map expression_source (map (λ e. e.0) es)) (expressions (map expression_view (map (λ e. e.0) es)))
expressions-listed R k [] = k.of_no_expressions
expressions-listed R k (e ∷ es) = k.of_an_expression _ _ _ _ e.1 (expressions-listed R k es)

properties-listed : (R : Relations)
    → Keeps R
    → (ps : List ((x : PropertyDefinition) × (related R).of_property x))
    → R.properties (map property_source (map (λ e. e.0) ps)) (properties (map property_view (map (λ e. e.0) ps)))
properties-listed R k [] = k.of_no_properties
properties-listed R k (p ∷ ps) = k.of_a_property _ _ _ _ p.1 (properties-listed R k ps)

statements-listed : (R : Relations)
    → Keeps R
    → (ss : List ((x : Stmt) × (related R).of_statement x))
    → R.statements (items_of (map statement_source (map (λ e. e.0) ss)))
    (statements (map statement_view (map (λ e. e.0) ss)))
statements-listed R k [] = k.of_no_statements
statements-listed R k (s ∷ ss) = k.of_a_statement _ _ _ _ s.1 (statements-listed R k ss)

declarators-known : (R : Relations)
    → Keeps R
    → (y : Known (related R) layers.Declarators-F)
    → R.declarators
    (declarators_layer
    (made_parts layers.Declarators-F map-Declarators
    (known_trees (related R) layers.Declarators-F map-Declarators y)))
    (declarators_step
    (clean_parts layers.Declarators-F map-Declarators
    (known_trees (related R) layers.Declarators-F map-Declarators y)))
declarators-known R k ds = declarators-listed R k ds.items.items

expressions-known : (R : Relations)
    → Keeps R
    → (y : Known (related R) layers.Exprs-F)
    → R.expressions
    (expressions_layer (made_parts layers.Exprs-F map-Exprs (known_trees (related R) layers.Exprs-F map-Exprs y)))
    (expressions_step (clean_parts layers.Exprs-F map-Exprs (known_trees (related R) layers.Exprs-F map-Exprs y)))
expressions-known R k es = expressions-listed R k es.items.items

properties-known : (R : Relations)
    → Keeps R
    → (y : Known (related R) layers.PropertyDefinitions-F)
    → R.properties
    (properties_layer
    (made_parts layers.PropertyDefinitions-F map-PropertyDefinitions
    (known_trees (related R) layers.PropertyDefinitions-F map-PropertyDefinitions y)))
    (properties_step
    (clean_parts layers.PropertyDefinitions-F map-PropertyDefinitions
    (known_trees (related R) layers.PropertyDefinitions-F map-PropertyDefinitions y)))
properties-known R k ps = properties-listed R k ps.items.items

statements-known : (R : Relations)
    → Keeps R
    → (y : Known (related R) layers.Stmts-F)
    → R.statements
    (statements_layer (made_parts layers.Stmts-F map-Stmts (known_trees (related R) layers.Stmts-F map-Stmts y)))
    (statements_step (clean_parts layers.Stmts-F map-Stmts (known_trees (related R) layers.Stmts-F map-Stmts y)))
statements-known R k ss = statements-listed R k ss.items.items

-- what holds of what two trees are made of holds of them
turned : {A B : Type 0} (P : A → B → Type 0) (a c : A) (b d : B) → a ≡ c → b ≡ d → P c d → P a b
turned P a c b d e f h = subst (λ x. P x b) (sym e) (subst (λ y. P c y) (sym f) h)

grown-expression : (R : Relations)
    → Keeps R
    → (y : Known (related R) Expr-F)
    → (related R).of_expression (views.roll-Expr (known_trees (related R) Expr-F map-Expr y))
grown-expression R k y =
    let x : Level Expr-F = known_trees (related R) Expr-F map-Expr y in
    turned R.expression _ _ _ _ (expression_turn x) (expression_roll x) (expression-known R k y)

grown-property : (R : Relations)
    → Keeps R
    → (y : Known (related R) PropertyDefinition-F)
    → (related R).of_property (views.roll-PropertyDefinition (known_trees (related R) PropertyDefinition-F map-PropertyDefinition y))
grown-property R k y =
    let x : Level PropertyDefinition-F = known_trees (related R) PropertyDefinition-F map-PropertyDefinition y in
    turned R.property _ _ _ _ (property_turn x) (property_roll x) (property-known R k y)

grown-key : (R : Relations)
    → Keeps R
    → (y : Known (related R) PropertyName-F)
    → (related R).of_key (views.roll-PropertyName (known_trees (related R) PropertyName-F map-PropertyName y))
grown-key R k y =
    let x : Level PropertyName-F = known_trees (related R) PropertyName-F map-PropertyName y in
    turned R.key _ _ _ _ (key_turn x) (key_roll x) (key-known R k y)

grown-statement : (R : Relations)
    → Keeps R
    → (y : Known (related R) Stmt-F)
    → (related R).of_statement (views.roll-Stmt (known_trees (related R) Stmt-F map-Stmt y))
grown-statement R k y =
    let x : Level Stmt-F = known_trees (related R) Stmt-F map-Stmt y in
    turned R.statement _ _ _ _ (statement_turn x) (statement_roll x) (statement-known R k y)

grown-block : (R : Relations)
    → Keeps R
    → (y : Known (related R) layers.Block-F)
    → (related R).of_block (views.roll-Block (known_trees (related R) layers.Block-F map-Block y))
grown-block R k y =
    let x : Level layers.Block-F = known_trees (related R) layers.Block-F map-Block y in
    turned R.statements _ _ _ _ (block_turn x) (block_roll x) (block-known R k y)

grown-catch : (R : Relations)
    → Keeps R
    → (y : Known (related R) layers.Catch-F)
    → (related R).of_catch (views.roll-Catch (known_trees (related R) layers.Catch-F map-Catch y))
grown-catch R k y =
    let x : Level layers.Catch-F = known_trees (related R) layers.Catch-F map-Catch y in
    turned (λ m t. R.handler (Some m) t) _ _ _ _ (catch_turn x) (catch_roll x) (catch-known R k y)

grown-declarator : (R : Relations)
    → Keeps R
    → (y : Known (related R) layers.Declarator-F)
    → (related R).of_declarator (views.roll-Declarator (known_trees (related R) layers.Declarator-F map-Declarator y))
grown-declarator R k y =
    let x : Level layers.Declarator-F = known_trees (related R) layers.Declarator-F map-Declarator y in
    turned R.declarator _ _ _ _ (declarator_turn x) (declarator_roll x) (declarator-known R k y)

grown-declarators : (R : Relations)
    → Keeps R
    → (y : Known (related R) layers.Declarators-F)
    → (related R).of_declarators (views.roll-Declarators (known_trees (related R) layers.Declarators-F map-Declarators y))
grown-declarators R k y =
    let x : Level layers.Declarators-F = known_trees (related R) layers.Declarators-F map-Declarators y in
    turned R.declarators _ _ _ _ (declarators_turn x) (declarators_roll x) (declarators-known R k y)

grown-expressions : (R : Relations)
    → Keeps R
    → (y : Known (related R) layers.Exprs-F)
    → (related R).of_expressions (views.roll-Exprs (known_trees (related R) layers.Exprs-F map-Exprs y))
grown-expressions R k y =
    let x : Level layers.Exprs-F = known_trees (related R) layers.Exprs-F map-Exprs y in
    turned R.expressions _ _ _ _ (expressions_turn x) (expressions_roll x) (expressions-known R k y)

grown-properties : (R : Relations)
    → Keeps R
    → (y : Known (related R) layers.PropertyDefinitions-F)
    → (related R).of_properties (views.roll-PropertyDefinitions (known_trees (related R) layers.PropertyDefinitions-F map-PropertyDefinitions y))
grown-properties R k y =
    let x : Level layers.PropertyDefinitions-F = known_trees (related R) layers.PropertyDefinitions-F map-PropertyDefinitions y in
    turned R.properties _ _ _ _ (properties_turn x) (properties_roll x) (properties-known R k y)

grown-statements : (R : Relations)
    → Keeps R
    → (y : Known (related R) layers.Stmts-F)
    → (related R).of_statements (views.roll-Stmts (known_trees (related R) layers.Stmts-F map-Stmts y))
grown-statements R k y =
    let x : Level layers.Stmts-F = known_trees (related R) layers.Stmts-F map-Stmts y in
    turned R.statements _ _ _ _ (statements_turn x) (statements_roll x) (statements-known R k y)

grown : (R : Relations) → Keeps R → Grows (related R)
grown R k =
    record {
      grows_expression = grown-expression R k;
      grows_property = grown-property R k;
      grows_key = grown-key R k;
      grows_statement = grown-statement R k;
      grows_block = grown-block R k;
      grows_catch = grown-catch R k;
      grows_declarator = grown-declarator R k;
      grows_declarators = grown-declarators R k;
      grows_expressions = grown-expressions R k;
      grows_properties = grown-properties R k;
      grows_statements = grown-statements R k;
    }

-- what is made of every tree stands in the relation to its clean tree
pub expression-related : (R : Relations) → Keeps R → (e : Expr) → R.expression (expression_source e) (expression_view e)
expression-related R k = every-expression (related R) (grown R k)

pub statements-related : (R : Relations)
    → Keeps R
    → (ss : Stmts)
    → R.statements (statements_source ss) (statements_view ss)
statements-related R k = every-statements (related R) (grown R k)
