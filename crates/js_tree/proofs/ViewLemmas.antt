-- What a tree of each form looks like.
use Rattle.std.proofs.Common.{◌≡◌, ℕ, Bool, List, Option, Some, None, map, sym, ap, ◌∙◌}
use Rattle.std.specs.Global.{Vec, Box}
use Rattle.js_tree.specs.declared.node.NodeId.{NodeId}
use Rattle.js_tree.specs.declared.integer.SafeInteger.{SafeInteger}
use Rattle.js_tree_operators.specs.declared.operator.UnaryOperator.{UnaryOperator}
use Rattle.js_tree_operators.specs.declared.operator.UpdateOperator.{UpdateOperator}
use Rattle.js_tree_operators.specs.declared.operator.BinaryOperator.{BinaryOperator}
use Rattle.js_tree_operators.specs.declared.operator.AssignmentOperator.{AssignmentOperator}
use Rattle.js_tree.specs.declared.tree.ArrowParameters.{ArrowParameters}
use Rattle.js_tree.specs.declared.tree.Expr.{Expr}
use Rattle.js_tree.specs.declared.tree.PropertyDefinition.{PropertyDefinition}
use Rattle.js_tree.specs.declared.tree.PropertyName.{PropertyName}
use Rattle.js_tree.specs.declared.tree.Stmt.{Stmt}
use Rattle.js_tree.specs.declared.tree.Block.{Block}
use Rattle.js_tree.specs.declared.tree.Catch.{Catch}
use Rattle.js_tree.specs.declared.tree.Declarator.{Declarator}
use Rattle.js_tree.specs.declared.tree.Declarators.{Declarators, out-Declarators}
use Rattle.js_tree.specs.declared.tree.Exprs.{Exprs}
use Rattle.js_tree.specs.declared.tree.PropertyDefinitions.{PropertyDefinitions}
use Rattle.js_tree.specs.declared.tree.Stmts.{Stmts}
use Rattle.js_tree.specs.declared.tree.Expr.TheOpen.{Expr-F, PropertyDefinition-F, PropertyName-F, Stmt-F, Block-F, Catch-F, Declarator-F, Declarators-F, Exprs-F, PropertyDefinitions-F, Stmts-F}
use Rattle.js_tree.specs.declared.tree.Expr.TheFolds.{fold_out-Declarators, fold-roll-Expr, fold-roll-PropertyDefinition, fold-roll-PropertyName, fold-roll-Stmt, fold-roll-Block, fold-roll-Catch, fold-roll-Declarator, fold-roll-Declarators, fold-roll-Exprs, fold-roll-PropertyDefinitions, fold-roll-Stmts, map-Expr, map-PropertyDefinition, map-PropertyName, map-Stmt, map-Block, map-Catch, map-Declarator, map-Declarators, map-Exprs, map-PropertyDefinitions, map-Stmts}
use Rattle.js_tree.specs.declared.tree.Expr.TheVariants.{rolls-This, rolls-Name, rolls-Number, rolls-String, rolls-Boolean, rolls-Null, rolls-Array, rolls-Object, rolls-Function, rolls-Arrow, rolls-ArrowBlock, rolls-Parenthesized, rolls-Member, rolls-Index, rolls-Call, rolls-Postfix, rolls-Prefix, rolls-Unary, rolls-Binary, rolls-Conditional, rolls-Assign, rolls-Comma}
use Rattle.js_tree.specs.declared.tree.Stmt.TheVariants.{rolls-Lexical, rolls-Empty, rolls-Expression, rolls-DoWhile, rolls-While, rolls-For, rolls-ForLexical, rolls-ForOf, rolls-Continue, rolls-Break, rolls-Return, rolls-Throw, rolls-Try, rolls-Debugger, rolls-FunctionDeclaration, rolls-Block, rolls-If}
use Rattle.js_tree.specs.declared.tree.PropertyName.TheVariants.{rolls-Word, rolls-StringLiteral, rolls-NumericLiteral, rolls-Computed}
use Rattle.js_tree.specs.declared.tree.PropertyDefinition.TheVariants.{rolls-Shorthand, rolls-Value, rolls-Method}
use Rattle.js_tree.specs.declared.tree.Expr.TheViews as views
use Rattle.js_tree.specs.Trees as trees
use Rattle.js_tree.specs.Trees.{Expression, Expressions, PropertyDefinition as Property, PropertyDefinitions as Properties, Key, Statement, Statements, Handler}
use Rattle.js_tree.specs.Views.{parameters_view, optional_view, handler_view, finalizer_view, expressions, statements, properties, declarators, expression_view, property_view, key_view, statement_view, block_view, catch_view, declarator_view, declarators_view, expressions_view, properties_view, statements_view, expression_step, property_step, key_step, statement_step, block_step, catch_step, declarator_step, declarators_step, expressions_step, properties_step, statements_step}

-- one level of each type, with the trees themselves in its places
abbrev pub Layer :
    (Type 0 → Type 0 → Type 0 → Type 0 → Type 0 → Type 0 → Type 0 → Type 0 → Type 0 → Type 0 → Type 0 → Type 0)
    → Type 0
Layer F = F Expr PropertyDefinition PropertyName Stmt Block Catch Declarator Declarators Exprs PropertyDefinitions Stmts

-- the view of a tree is made of the views of its parts
pub expression_roll : (x : Layer Expr-F)
    → expression_view (views.roll-Expr x) ≡ expression_step
    (map-Expr Expr PropertyDefinition PropertyName Stmt Block Catch Declarator Declarators Exprs PropertyDefinitions
    Stmts Expression Property Key Statement Statements Handler trees.Declarator trees.Declarators Expressions
    Properties Statements expression_view property_view key_view statement_view block_view catch_view
    declarator_view declarators_view expressions_view properties_view statements_view x)
unfolding expression_view property_view key_view statement_view block_view catch_view declarator_view declarators_view
    expressions_view properties_view statements_view
expression_roll x =
    fold-roll-Expr Expression Property Key Statement Statements Handler trees.Declarator trees.Declarators Expressions
    Properties Statements expression_step property_step key_step statement_step block_step catch_step
    declarator_step declarators_step expressions_step properties_step statements_step x

pub property_roll : (x : Layer PropertyDefinition-F)
    → property_view (views.roll-PropertyDefinition x) ≡ property_step
    (map-PropertyDefinition Expr PropertyDefinition PropertyName Stmt Block Catch Declarator Declarators Exprs
    PropertyDefinitions Stmts Expression Property Key Statement Statements Handler trees.Declarator
    trees.Declarators Expressions Properties Statements expression_view property_view key_view statement_view
    block_view catch_view declarator_view declarators_view expressions_view properties_view statements_view x)
unfolding expression_view property_view key_view statement_view block_view catch_view declarator_view declarators_view
    expressions_view properties_view statements_view
property_roll x =
    fold-roll-PropertyDefinition Expression Property Key Statement Statements Handler trees.Declarator trees.Declarators
    Expressions Properties Statements expression_step property_step key_step statement_step block_step catch_step
    declarator_step declarators_step expressions_step properties_step statements_step x

pub key_roll : (x : Layer PropertyName-F)
    → key_view (views.roll-PropertyName x) ≡ key_step
    (map-PropertyName Expr PropertyDefinition PropertyName Stmt Block Catch Declarator Declarators Exprs
    PropertyDefinitions Stmts Expression Property Key Statement Statements Handler trees.Declarator
    trees.Declarators Expressions Properties Statements expression_view property_view key_view statement_view
    block_view catch_view declarator_view declarators_view expressions_view properties_view statements_view x)
unfolding expression_view property_view key_view statement_view block_view catch_view declarator_view declarators_view
    expressions_view properties_view statements_view
key_roll x =
    fold-roll-PropertyName Expression Property Key Statement Statements Handler trees.Declarator trees.Declarators
    Expressions Properties Statements expression_step property_step key_step statement_step block_step catch_step
    declarator_step declarators_step expressions_step properties_step statements_step x

pub statement_roll : (x : Layer Stmt-F)
    → statement_view (views.roll-Stmt x) ≡ statement_step
    (map-Stmt Expr PropertyDefinition PropertyName Stmt Block Catch Declarator Declarators Exprs PropertyDefinitions
    Stmts Expression Property Key Statement Statements Handler trees.Declarator trees.Declarators Expressions
    Properties Statements expression_view property_view key_view statement_view block_view catch_view
    declarator_view declarators_view expressions_view properties_view statements_view x)
unfolding expression_view property_view key_view statement_view block_view catch_view declarator_view declarators_view
    expressions_view properties_view statements_view
statement_roll x =
    fold-roll-Stmt Expression Property Key Statement Statements Handler trees.Declarator trees.Declarators Expressions
    Properties Statements expression_step property_step key_step statement_step block_step catch_step
    declarator_step declarators_step expressions_step properties_step statements_step x

pub block_roll : (x : Layer Block-F)
    → block_view (views.roll-Block x) ≡ block_step
    (map-Block Expr PropertyDefinition PropertyName Stmt Block Catch Declarator Declarators Exprs PropertyDefinitions
    Stmts Expression Property Key Statement Statements Handler trees.Declarator trees.Declarators Expressions
    Properties Statements expression_view property_view key_view statement_view block_view catch_view
    declarator_view declarators_view expressions_view properties_view statements_view x)
unfolding expression_view property_view key_view statement_view block_view catch_view declarator_view declarators_view
    expressions_view properties_view statements_view
block_roll x =
    fold-roll-Block Expression Property Key Statement Statements Handler trees.Declarator trees.Declarators Expressions
    Properties Statements expression_step property_step key_step statement_step block_step catch_step
    declarator_step declarators_step expressions_step properties_step statements_step x

pub catch_roll : (x : Layer Catch-F)
    → catch_view (views.roll-Catch x) ≡ catch_step
    (map-Catch Expr PropertyDefinition PropertyName Stmt Block Catch Declarator Declarators Exprs PropertyDefinitions
    Stmts Expression Property Key Statement Statements Handler trees.Declarator trees.Declarators Expressions
    Properties Statements expression_view property_view key_view statement_view block_view catch_view
    declarator_view declarators_view expressions_view properties_view statements_view x)
unfolding expression_view property_view key_view statement_view block_view catch_view declarator_view declarators_view
    expressions_view properties_view statements_view
catch_roll x =
    fold-roll-Catch Expression Property Key Statement Statements Handler trees.Declarator trees.Declarators Expressions
    Properties Statements expression_step property_step key_step statement_step block_step catch_step
    declarator_step declarators_step expressions_step properties_step statements_step x

pub declarator_roll : (x : Layer Declarator-F)
    → declarator_view (views.roll-Declarator x) ≡ declarator_step
    (map-Declarator Expr PropertyDefinition PropertyName Stmt Block Catch Declarator Declarators Exprs
    PropertyDefinitions Stmts Expression Property Key Statement Statements Handler trees.Declarator
    trees.Declarators Expressions Properties Statements expression_view property_view key_view statement_view
    block_view catch_view declarator_view declarators_view expressions_view properties_view statements_view x)
unfolding expression_view property_view key_view statement_view block_view catch_view declarator_view declarators_view
    expressions_view properties_view statements_view
declarator_roll x =
    fold-roll-Declarator Expression Property Key Statement Statements Handler trees.Declarator trees.Declarators
    Expressions Properties Statements expression_step property_step key_step statement_step block_step catch_step
    declarator_step declarators_step expressions_step properties_step statements_step x

pub declarators_roll : (x : Layer Declarators-F)
    → declarators_view (views.roll-Declarators x) ≡ declarators_step
    (map-Declarators Expr PropertyDefinition PropertyName Stmt Block Catch Declarator Declarators Exprs
    PropertyDefinitions Stmts Expression Property Key Statement Statements Handler trees.Declarator
    trees.Declarators Expressions Properties Statements expression_view property_view key_view statement_view
    block_view catch_view declarator_view declarators_view expressions_view properties_view statements_view x)
unfolding expression_view property_view key_view statement_view block_view catch_view declarator_view declarators_view
    expressions_view properties_view statements_view
declarators_roll x =
    fold-roll-Declarators Expression Property Key Statement Statements Handler trees.Declarator trees.Declarators
    Expressions Properties Statements expression_step property_step key_step statement_step block_step catch_step
    declarator_step declarators_step expressions_step properties_step statements_step x

pub expressions_roll : (x : Layer Exprs-F)
    → expressions_view (views.roll-Exprs x) ≡ expressions_step
    (map-Exprs Expr PropertyDefinition PropertyName Stmt Block Catch Declarator Declarators Exprs PropertyDefinitions
    Stmts Expression Property Key Statement Statements Handler trees.Declarator trees.Declarators Expressions
    Properties Statements expression_view property_view key_view statement_view block_view catch_view
    declarator_view declarators_view expressions_view properties_view statements_view x)
unfolding expression_view property_view key_view statement_view block_view catch_view declarator_view declarators_view
    expressions_view properties_view statements_view
expressions_roll x =
    fold-roll-Exprs Expression Property Key Statement Statements Handler trees.Declarator trees.Declarators Expressions
    Properties Statements expression_step property_step key_step statement_step block_step catch_step
    declarator_step declarators_step expressions_step properties_step statements_step x

pub properties_roll : (x : Layer PropertyDefinitions-F)
    → properties_view (views.roll-PropertyDefinitions x) ≡ properties_step
    (map-PropertyDefinitions Expr PropertyDefinition PropertyName Stmt Block Catch Declarator Declarators Exprs
    PropertyDefinitions Stmts Expression Property Key Statement Statements Handler trees.Declarator
    trees.Declarators Expressions Properties Statements expression_view property_view key_view statement_view
    block_view catch_view declarator_view declarators_view expressions_view properties_view statements_view x)
unfolding expression_view property_view key_view statement_view block_view catch_view declarator_view declarators_view
    expressions_view properties_view statements_view
properties_roll x =
    fold-roll-PropertyDefinitions Expression Property Key Statement Statements Handler trees.Declarator
    trees.Declarators Expressions Properties Statements expression_step property_step key_step statement_step
    block_step catch_step declarator_step declarators_step expressions_step properties_step statements_step x

pub statements_roll : (x : Layer Stmts-F)
    → statements_view (views.roll-Stmts x) ≡ statements_step
    (map-Stmts Expr PropertyDefinition PropertyName Stmt Block Catch Declarator Declarators Exprs PropertyDefinitions
    Stmts Expression Property Key Statement Statements Handler trees.Declarator trees.Declarators Expressions
    Properties Statements expression_view property_view key_view statement_view block_view catch_view
    declarator_view declarators_view expressions_view properties_view statements_view x)
unfolding expression_view property_view key_view statement_view block_view catch_view declarator_view declarators_view
    expressions_view properties_view statements_view
statements_roll x =
    fold-roll-Stmts Expression Property Key Statement Statements Handler trees.Declarator trees.Declarators Expressions
    Properties Statements expression_step property_step key_step statement_step block_step catch_step
    declarator_step declarators_step expressions_step properties_step statements_step x

-- ---- each form

pub view_this : (node : NodeId) → expression_view (Expr.This node) ≡ trees.this
view_this node = ap expression_view (sym (rolls-This node)) ∙ expression_roll (Expr-F.This node)

pub view_name : (node : NodeId) (name : List ℕ) → expression_view (Expr.Name node name) ≡ trees.name name
view_name node name = ap expression_view (sym (rolls-Name node name)) ∙ expression_roll (Expr-F.Name node name)

pub view_number : (node : NodeId) (value : SafeInteger)
    → expression_view (Expr.Number node value) ≡ trees.number value.value
view_number node value = ap expression_view (sym (rolls-Number node value)) ∙ expression_roll (Expr-F.Number node value)

pub view_string : (node : NodeId) (value : List ℕ) → expression_view (Expr.String node value) ≡ trees.string value
view_string node value = ap expression_view (sym (rolls-String node value)) ∙ expression_roll (Expr-F.String node value)

pub view_boolean : (node : NodeId) (value : Bool) → expression_view (Expr.Boolean node value) ≡ trees.boolean value
view_boolean node value =
    ap expression_view (sym (rolls-Boolean node value)) ∙ expression_roll (Expr-F.Boolean node value)

pub view_null : (node : NodeId) → expression_view (Expr.Null node) ≡ trees.null
view_null node = ap expression_view (sym (rolls-Null node)) ∙ expression_roll (Expr-F.Null node)

pub view_array : (node : NodeId) (elements : Exprs)
    → expression_view (views.Array node elements) ≡ trees.array (expressions_view elements)
view_array node elements =
    ap expression_view (sym (rolls-Array node elements)) ∙ expression_roll (Expr-F.Array node elements)

pub view_object : (node : NodeId) (properties : PropertyDefinitions)
    → expression_view (views.Object node properties) ≡ trees.object (properties_view properties)
view_object node properties =
    ap expression_view (sym (rolls-Object node properties)) ∙ expression_roll (Expr-F.Object node properties)

pub view_function : (node : NodeId) (name : Option (List ℕ)) (parameters : List (List ℕ)) (body : Stmts)
    → expression_view (views.Function node name parameters body) ≡ trees.function name parameters (statements_view body)
view_function node name parameters body =
    ap expression_view (sym (rolls-Function node name parameters body))
    ∙ expression_roll (Expr-F.Function node name parameters body)

pub view_arrow : (node : NodeId) (parameters : ArrowParameters) (body : Box Expr)
    → expression_view (views.Arrow node parameters body) ≡ trees.arrow (parameters_view parameters)
    (expression_view body.value)
view_arrow node parameters body =
    ap expression_view (sym (rolls-Arrow node parameters body)) ∙ expression_roll (Expr-F.Arrow node parameters body)

pub view_arrow_block : (node : NodeId) (parameters : ArrowParameters) (body : Stmts)
    → expression_view (views.ArrowBlock node parameters body) ≡ trees.arrow_block (parameters_view parameters)
    (statements_view body)
view_arrow_block node parameters body =
    ap expression_view (sym (rolls-ArrowBlock node parameters body))
    ∙ expression_roll (Expr-F.ArrowBlock node parameters body)

pub view_parenthesized : (node : NodeId) (inner : Box Expr)
    → expression_view (views.Parenthesized node inner) ≡ trees.parenthesized (expression_view inner.value)
view_parenthesized node inner =
    ap expression_view (sym (rolls-Parenthesized node inner)) ∙ expression_roll (Expr-F.Parenthesized node inner)

pub view_member : (node : NodeId) (object : Box Expr) (name : List ℕ)
    → expression_view (views.Member node object name) ≡ trees.member (expression_view object.value) name
view_member node object name =
    ap expression_view (sym (rolls-Member node object name)) ∙ expression_roll (Expr-F.Member node object name)

pub view_index : (node : NodeId) (object : Box Expr) (key : Box Expr)
    → expression_view (views.Index node object key) ≡ trees.index (expression_view object.value)
    (expression_view key.value)
view_index node object key =
    ap expression_view (sym (rolls-Index node object key)) ∙ expression_roll (Expr-F.Index node object key)

pub view_call : (node : NodeId) (callee : Box Expr) (parentheses : NodeId) (arguments : Exprs)
    → expression_view (views.Call node callee parentheses arguments) ≡ trees.call (expression_view callee.value)
    (expressions_view arguments)
view_call node callee parentheses arguments =
    ap expression_view (sym (rolls-Call node callee parentheses arguments))
    ∙ expression_roll (Expr-F.Call node callee parentheses arguments)

pub view_postfix : (node : NodeId) (operator : UpdateOperator) (operand : Box Expr)
    → expression_view (views.Postfix node operator operand) ≡ trees.postfix operator (expression_view operand.value)
view_postfix node operator operand =
    ap expression_view (sym (rolls-Postfix node operator operand))
    ∙ expression_roll (Expr-F.Postfix node operator operand)

pub view_prefix : (node : NodeId) (operator : UpdateOperator) (operand : Box Expr)
    → expression_view (views.Prefix node operator operand) ≡ trees.prefix operator (expression_view operand.value)
view_prefix node operator operand =
    ap expression_view (sym (rolls-Prefix node operator operand))
    ∙ expression_roll (Expr-F.Prefix node operator operand)

pub view_unary : (node : NodeId) (operator : UnaryOperator) (operand : Box Expr)
    → expression_view (views.Unary node operator operand) ≡ trees.unary operator (expression_view operand.value)
view_unary node operator operand =
    ap expression_view (sym (rolls-Unary node operator operand)) ∙ expression_roll (Expr-F.Unary node operator operand)

pub view_binary : (node : NodeId) (operator : BinaryOperator) (left : Box Expr) (right : Box Expr)
    → expression_view (views.Binary node operator left right) ≡ trees.binary operator (expression_view left.value)
    (expression_view right.value)
view_binary node operator left right =
    ap expression_view (sym (rolls-Binary node operator left right))
    ∙ expression_roll (Expr-F.Binary node operator left right)

pub view_conditional : (node : NodeId) (test : Box Expr) (consequent : Box Expr) (alternate : Box Expr)
    → expression_view (views.Conditional node test consequent alternate) ≡ trees.conditional
    (expression_view test.value) (expression_view consequent.value) (expression_view alternate.value)
view_conditional node test consequent alternate =
    ap expression_view (sym (rolls-Conditional node test consequent alternate))
    ∙ expression_roll (Expr-F.Conditional node test consequent alternate)

pub view_assign : (node : NodeId) (operator : AssignmentOperator) (target : Box Expr) (value : Box Expr)
    → expression_view (views.Assign node operator target value) ≡ trees.assign operator (expression_view target.value)
    (expression_view value.value)
view_assign node operator target value =
    ap expression_view (sym (rolls-Assign node operator target value))
    ∙ expression_roll (Expr-F.Assign node operator target value)

pub view_comma : (node : NodeId) (expressions : Exprs)
    → expression_view (views.Comma node expressions) ≡ trees.comma (expressions_view expressions)
view_comma node expressions =
    ap expression_view (sym (rolls-Comma node expressions)) ∙ expression_roll (Expr-F.Comma node expressions)

pub view_lexical_declaration : (node : NodeId) (constant : Bool) (declarators : Declarators)
    → statement_view (Stmt.Lexical node constant declarators) ≡ trees.lexical constant (declarators_view declarators)
view_lexical_declaration node constant declarators =
    ap statement_view (sym (rolls-Lexical node constant declarators))
    ∙ statement_roll (Stmt-F.Lexical node constant declarators)

pub view_empty_statement : (node : NodeId) → statement_view (Stmt.Empty node) ≡ trees.empty
view_empty_statement node = ap statement_view (sym (rolls-Empty node)) ∙ statement_roll (Stmt-F.Empty node)

pub view_expression_statement : (node : NodeId) (expression : Expr)
    → statement_view (Stmt.Expression node expression) ≡ trees.expression (expression_view expression)
view_expression_statement node expression =
    ap statement_view (sym (rolls-Expression node expression)) ∙ statement_roll (Stmt-F.Expression node expression)

pub view_do_while_statement : (node : NodeId) (body : Box Stmt) (test : Expr)
    → statement_view (views.DoWhile node body test) ≡ trees.do_while (statement_view body.value) (expression_view test)
view_do_while_statement node body test =
    ap statement_view (sym (rolls-DoWhile node body test)) ∙ statement_roll (Stmt-F.DoWhile node body test)

pub view_while_statement : (node : NodeId) (test : Expr) (body : Box Stmt)
    → statement_view (views.While node test body) ≡ trees.while (expression_view test) (statement_view body.value)
view_while_statement node test body =
    ap statement_view (sym (rolls-While node test body)) ∙ statement_roll (Stmt-F.While node test body)

pub view_for_statement : (node : NodeId) (initializer : Option Expr) (test : Option Expr) (update : Option Expr)
    (body : Box Stmt)
    → statement_view (views.For node initializer test update body) ≡ trees.for (optional_view initializer)
    (optional_view test) (optional_view update) (statement_view body.value)
view_for_statement node None None None body =
    ap statement_view (sym (rolls-For node None None None body)) ∙ statement_roll (Stmt-F.For node None None None body)
view_for_statement node None None (Some update) body =
    ap statement_view (sym (rolls-For node None None (Some update) body))
    ∙ statement_roll (Stmt-F.For node None None (Some update) body)
view_for_statement node None (Some test) None body =
    ap statement_view (sym (rolls-For node None (Some test) None body))
    ∙ statement_roll (Stmt-F.For node None (Some test) None body)
view_for_statement node None (Some test) (Some update) body =
    ap statement_view (sym (rolls-For node None (Some test) (Some update) body))
    ∙ statement_roll (Stmt-F.For node None (Some test) (Some update) body)
view_for_statement node (Some initializer) None None body =
    ap statement_view (sym (rolls-For node (Some initializer) None None body))
    ∙ statement_roll (Stmt-F.For node (Some initializer) None None body)
view_for_statement node (Some initializer) None (Some update) body =
    ap statement_view (sym (rolls-For node (Some initializer) None (Some update) body))
    ∙ statement_roll (Stmt-F.For node (Some initializer) None (Some update) body)
view_for_statement node (Some initializer) (Some test) None body =
    ap statement_view (sym (rolls-For node (Some initializer) (Some test) None body))
    ∙ statement_roll (Stmt-F.For node (Some initializer) (Some test) None body)
view_for_statement node (Some initializer) (Some test) (Some update) body =
    ap statement_view (sym (rolls-For node (Some initializer) (Some test) (Some update) body))
    ∙ statement_roll (Stmt-F.For node (Some initializer) (Some test) (Some update) body)

pub view_for_lexical_statement : (node : NodeId) (constant : Bool) (declarators : Declarators) (test : Option Expr)
    (update : Option Expr) (body : Box Stmt)
    → statement_view (views.ForLexical node constant declarators test update body) ≡ trees.for_lexical constant
    (declarators_view declarators) (optional_view test) (optional_view update) (statement_view body.value)
view_for_lexical_statement node constant declarators None None body =
    ap statement_view (sym (rolls-ForLexical node constant declarators None None body))
    ∙ statement_roll (Stmt-F.ForLexical node constant declarators None None body)
view_for_lexical_statement node constant declarators None (Some update) body =
    ap statement_view (sym (rolls-ForLexical node constant declarators None (Some update) body))
    ∙ statement_roll (Stmt-F.ForLexical node constant declarators None (Some update) body)
view_for_lexical_statement node constant declarators (Some test) None body =
    ap statement_view (sym (rolls-ForLexical node constant declarators (Some test) None body))
    ∙ statement_roll (Stmt-F.ForLexical node constant declarators (Some test) None body)
view_for_lexical_statement node constant declarators (Some test) (Some update) body =
    ap statement_view (sym (rolls-ForLexical node constant declarators (Some test) (Some update) body))
    ∙ statement_roll (Stmt-F.ForLexical node constant declarators (Some test) (Some update) body)

pub view_for_of_statement : (node : NodeId) (constant : Bool) (name : List ℕ) (list : Expr) (body : Box Stmt)
    → statement_view (views.ForOf node constant name list body) ≡ trees.for_of constant name (expression_view list)
    (statement_view body.value)
view_for_of_statement node constant name list body =
    ap statement_view (sym (rolls-ForOf node constant name list body))
    ∙ statement_roll (Stmt-F.ForOf node constant name list body)

pub view_continue_statement : (node : NodeId) → statement_view (Stmt.Continue node) ≡ trees.continue
view_continue_statement node = ap statement_view (sym (rolls-Continue node)) ∙ statement_roll (Stmt-F.Continue node)

pub view_break_statement : (node : NodeId) → statement_view (Stmt.Break node) ≡ trees.break
view_break_statement node = ap statement_view (sym (rolls-Break node)) ∙ statement_roll (Stmt-F.Break node)

pub view_return_statement : (node : NodeId) (value : Option Expr)
    → statement_view (views.Return node value) ≡ trees.return (optional_view value)
view_return_statement node None =
    ap statement_view (sym (rolls-Return node None)) ∙ statement_roll (Stmt-F.Return node None)
view_return_statement node (Some value) =
    ap statement_view (sym (rolls-Return node (Some value))) ∙ statement_roll (Stmt-F.Return node (Some value))

pub view_throw_statement : (node : NodeId) (value : Expr)
    → statement_view (Stmt.Throw node value) ≡ trees.throw (expression_view value)
view_throw_statement node value =
    ap statement_view (sym (rolls-Throw node value)) ∙ statement_roll (Stmt-F.Throw node value)

pub view_try_statement : (node : NodeId) (block : Block) (handler : Option Catch) (finalizer : Option Block)
    → statement_view (views.Try node block handler finalizer) ≡ trees.try (block_view block) (handler_view handler)
    (finalizer_view finalizer)
view_try_statement node block None None =
    ap statement_view (sym (rolls-Try node block None None)) ∙ statement_roll (Stmt-F.Try node block None None)
view_try_statement node block None (Some finalizer) =
    ap statement_view (sym (rolls-Try node block None (Some finalizer)))
    ∙ statement_roll (Stmt-F.Try node block None (Some finalizer))
view_try_statement node block (Some handler) None =
    ap statement_view (sym (rolls-Try node block (Some handler) None))
    ∙ statement_roll (Stmt-F.Try node block (Some handler) None)
view_try_statement node block (Some handler) (Some finalizer) =
    ap statement_view (sym (rolls-Try node block (Some handler) (Some finalizer)))
    ∙ statement_roll (Stmt-F.Try node block (Some handler) (Some finalizer))

pub view_debugger_statement : (node : NodeId) → statement_view (Stmt.Debugger node) ≡ trees.debugger
view_debugger_statement node = ap statement_view (sym (rolls-Debugger node)) ∙ statement_roll (Stmt-F.Debugger node)

pub view_function_declaration : (node : NodeId) (name : List ℕ) (parameters : List (List ℕ)) (body : Stmts)
    → statement_view (views.FunctionDeclaration node name parameters body) ≡ trees.declared_function name parameters
    (statements_view body)
view_function_declaration node name parameters body =
    ap statement_view (sym (rolls-FunctionDeclaration node name parameters body))
    ∙ statement_roll (Stmt-F.FunctionDeclaration node name parameters body)

pub view_word_key : (name : List ℕ) → key_view (PropertyName.Word name) ≡ trees.word_key name
view_word_key name = ap key_view (sym (rolls-Word name)) ∙ key_roll (PropertyName-F.Word name)

pub view_string_key : (value : List ℕ) → key_view (PropertyName.StringLiteral value) ≡ trees.string_key value
view_string_key value = ap key_view (sym (rolls-StringLiteral value)) ∙ key_roll (PropertyName-F.StringLiteral value)

pub view_number_key : (value : SafeInteger)
    → key_view (PropertyName.NumericLiteral value) ≡ trees.number_key value.value
view_number_key value = ap key_view (sym (rolls-NumericLiteral value)) ∙ key_roll (PropertyName-F.NumericLiteral value)

pub view_computed_key : (key : Expr) → key_view (PropertyName.Computed key) ≡ trees.computed_key (expression_view key)
view_computed_key key = ap key_view (sym (rolls-Computed key)) ∙ key_roll (PropertyName-F.Computed key)

pub view_shorthand_property : (name : List ℕ) → property_view (PropertyDefinition.Shorthand name) ≡ trees.shorthand name
view_shorthand_property name =
    ap property_view (sym (rolls-Shorthand name)) ∙ property_roll (PropertyDefinition-F.Shorthand name)

pub view_property : (key : PropertyName) (value : Expr)
    → property_view (PropertyDefinition.Value key value) ≡ trees.value (key_view key) (expression_view value)
view_property key value =
    ap property_view (sym (rolls-Value key value)) ∙ property_roll (PropertyDefinition-F.Value key value)

pub view_method : (node : NodeId) (key : PropertyName) (parameters : List (List ℕ)) (body : Stmts)
    → property_view (views.Method node key parameters body) ≡ trees.method (key_view key) parameters
    (statements_view body)
view_method node key parameters body =
    ap property_view (sym (rolls-Method node key parameters body))
    ∙ property_roll (PropertyDefinition-F.Method node key parameters body)

pub view_block_statement : (block : Block) → statement_view (views.Block block) ≡ trees.block (block_view block)
view_block_statement block = ap statement_view (sym (rolls-Block block)) ∙ statement_roll (Stmt-F.Block block)

pub view_if_then : (node : NodeId) (test : Expr) (consequent : Box Stmt)
    → statement_view (views.If node test consequent None) ≡ trees.if_then (expression_view test)
    (statement_view consequent.value)
view_if_then node test consequent =
    ap statement_view (sym (rolls-If node test consequent None)) ∙ statement_roll (Stmt-F.If node test consequent None)

pub view_if_else : (node : NodeId) (test : Expr) (consequent alternate : Box Stmt)
    → statement_view (views.If node test consequent (Some alternate)) ≡ trees.if_else (expression_view test)
    (statement_view consequent.value) (statement_view alternate.value)
view_if_else node test consequent alternate =
    ap statement_view (sym (rolls-If node test consequent (Some alternate)))
    ∙ statement_roll (Stmt-F.If node test consequent (Some alternate))

pub view_block : (node : NodeId) (body : Stmts)
    → block_view (views.roll-Block (record { node = node; body = body })) ≡ statements_view body
view_block node body = block_roll (record { node = node; body = body })

pub view_catch : (parameter : Option (List ℕ)) (block : Block)
    → catch_view (views.roll-Catch (record { parameter = parameter; block = block })) ≡ trees.catch parameter
    (block_view block)
view_catch parameter block = catch_roll (record { parameter = parameter; block = block })

pub view_declarator : (name : List ℕ) (initializer : Option Expr)
    → declarator_view (views.roll-Declarator (record { name = name; initializer = initializer }))
    ≡ trees.declarator name (optional_view initializer)
view_declarator name None = declarator_roll (record { name = name; initializer = None })
view_declarator name (Some initializer) = declarator_roll (record { name = name; initializer = Some initializer })

pub view_expressions : (items : Vec Expr)
    → expressions_view (views.roll-Exprs (record { items = items })) ≡ expressions (map expression_view items.items)
view_expressions items = expressions_roll (record { items = items })

pub view_statements : (items : Vec Stmt)
    → statements_view (views.roll-Stmts (record { items = items })) ≡ statements (map statement_view items.items)
view_statements items = statements_roll (record { items = items })

pub view_properties : (items : Vec PropertyDefinition)
    → properties_view (views.roll-PropertyDefinitions (record { items = items })) ≡ properties
    (map property_view items.items)
view_properties items = properties_roll (record { items = items })

pub view_declarators : (items : Vec Declarator)
    → declarators_view (views.roll-Declarators (record { items = items })) ≡ declarators
    (map declarator_view items.items)
view_declarators items = declarators_roll (record { items = items })

-- ---- lists and parts as they stand in a tree

pub expressions_listed : (es : Exprs) → expressions_view es ≡ expressions (map expression_view es.items.items)
expressions_listed es = view_expressions es.items

pub properties_listed : (ps : PropertyDefinitions) → properties_view ps ≡ properties (map property_view ps.items.items)
properties_listed ps = view_properties ps.items

pub statements_listed : (ss : Stmts) → statements_view ss ≡ statements (map statement_view ss.items.items)
statements_listed ss = view_statements ss.items

pub declarators_listed : (ds : Declarators)
    → declarators_view ds ≡ declarators (map declarator_view (out-Declarators ds).items.items)
unfolding expression_view property_view key_view statement_view block_view catch_view declarator_view declarators_view
    expressions_view properties_view statements_view
declarators_listed ds =
    fold_out-Declarators Expression Property Key Statement Statements Handler trees.Declarator trees.Declarators
    Expressions Properties Statements expression_step property_step key_step statement_step block_step catch_step
    declarator_step declarators_step expressions_step properties_step statements_step ds

pub block_of : (b : Block) → block_view b ≡ statements_view b.body
block_of b = view_block b.node b.body

pub catch_of : (c : Catch) → catch_view c ≡ trees.catch c.parameter (block_view c.block)
catch_of c = view_catch c.parameter c.block

pub declarator_of : (d : Declarator) → declarator_view d ≡ trees.declarator d.name (optional_view d.initializer)
declarator_of d = view_declarator d.name d.initializer

pub ruleset expression_laws = (
  view_this,
  view_name,
  view_number,
  view_string,
  view_boolean,
  view_null,
  view_array,
  view_object,
  view_function,
  view_arrow,
  view_arrow_block,
  view_parenthesized,
  view_member,
  view_index,
  view_call,
  view_postfix,
  view_prefix,
  view_unary,
  view_binary,
  view_conditional,
  view_assign,
  view_comma,
)
