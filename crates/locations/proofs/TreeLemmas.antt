-- The marks of a tree of each form.
use Rattle.std.proofs.Common.{◌≡◌, ℕ, Bool, List, [], ◌++◌, Option, Some, None, map, length, sym, ap, ◌∙◌}
use Rattle.std.specs.Option.{option_map}
use Rattle.std.specs.Global.{Box}
use Rattle.js_tree.specs.declared.node.NodeId.{NodeId}
use Rattle.js_tree.specs.declared.integer.SafeInteger.{SafeInteger}
use Rattle.js_tree_operators.specs.declared.operator.UnaryOperator.{UnaryOperator}
use Rattle.js_tree_operators.specs.declared.operator.UpdateOperator.{UpdateOperator}
use Rattle.js_tree_operators.specs.declared.operator.BinaryOperator.{BinaryOperator}
use Rattle.js_tree_operators.specs.declared.operator.AssignmentOperator.{AssignmentOperator}
use Rattle.js_tree.specs.declared.tree.ArrowParameters.{ArrowParameters}
use Rattle.js_tree.specs.declared.tree.Expr.{Expr}
use Rattle.js_tree.specs.declared.tree.PropertyDefinition.{PropertyDefinition}
use Rattle.js_tree.specs.declared.tree.PropertyName.{PropertyName}
use Rattle.js_tree.specs.declared.tree.Stmt.{Stmt}
use Rattle.js_tree.specs.declared.tree.Block.{Block}
use Rattle.js_tree.specs.declared.tree.Catch.{Catch}
use Rattle.js_tree.specs.declared.tree.Declarator.{Declarator}
use Rattle.js_tree.specs.declared.tree.Declarators.{Declarators, out-Declarators}
use Rattle.js_tree.specs.declared.tree.Exprs.{Exprs}
use Rattle.js_tree.specs.declared.tree.PropertyDefinitions.{PropertyDefinitions}
use Rattle.js_tree.specs.declared.tree.Stmts.{Stmts}
use Rattle.js_tree.specs.declared.tree.Expr.TheOpen.{Expr-F, PropertyDefinition-F, PropertyName-F, Stmt-F}
use Rattle.js_tree.specs.declared.tree.Expr.TheFolds.{map-Expr, map-PropertyDefinition, map-PropertyName, map-Stmt, fold-roll-Expr, fold-roll-PropertyDefinition, fold-roll-PropertyName, fold-roll-Stmt, fold_out-Block, fold_out-Catch, fold_out-Declarator, fold_out-Declarators, fold_out-Exprs, fold_out-PropertyDefinitions, fold_out-Stmts}
use Rattle.js_tree.specs.declared.tree.Expr.TheVariants.{rolls-This, rolls-Name, rolls-Number, rolls-String, rolls-Boolean, rolls-Null, rolls-Array, rolls-Object, rolls-Function, rolls-Arrow, rolls-ArrowBlock, rolls-Parenthesized, rolls-Member, rolls-Index, rolls-Call, rolls-Postfix, rolls-Prefix, rolls-Unary, rolls-Binary, rolls-Conditional, rolls-Assign, rolls-Comma}
use Rattle.js_tree.specs.declared.tree.Stmt.TheVariants.{rolls-Lexical, rolls-Empty, rolls-Expression, rolls-DoWhile, rolls-While, rolls-For, rolls-ForLexical, rolls-ForOf, rolls-Continue, rolls-Break, rolls-Return, rolls-Throw, rolls-Try, rolls-Debugger, rolls-FunctionDeclaration, rolls-Block, rolls-If}
use Rattle.js_tree.specs.declared.tree.PropertyName.TheVariants.{rolls-Word, rolls-StringLiteral, rolls-NumericLiteral, rolls-Computed}
use Rattle.js_tree.specs.declared.tree.PropertyDefinition.TheVariants.{rolls-Shorthand, rolls-Value, rolls-Method}
use Rattle.js_tree.specs.declared.tree.Expr.TheViews as views
use Rattle.locations.specs.declared.spot.SpotKind.TheVariants as kinds
use Rattle.locations.specs.Marks as definitions
use Rattle.locations.specs.Marks.{Layer, Marking, Marks, expression_marks, property_marks, key_marks, statement_marks, block_marks, catch_marks, declarator_marks, declarators_marks, expressions_marks, properties_marks, statements_marks, expression_layer, property_layer, key_layer, statement_layer, block_layer, catch_layer, declarator_layer, declarators_layer, expressions_layer, properties_layer, statements_layer}
use Rattle.js_tree.proofs.ViewLemmas.{Layer as Level}
use Rattle.js_semantics.proofs.TreeFolds.{Former, Mapper}

-- the marks of the parts in the places of one level
abbrev pub marks_of : (F : Former) → Mapper F → Level F → Layer F
marks_of F change =
    change Expr PropertyDefinition PropertyName Stmt Block Catch Declarator Declarators Exprs PropertyDefinitions Stmts
    Marking Marks Marks Marks Marks Marks Marks Marks Marks Marks Marks expression_marks property_marks key_marks
    statement_marks block_marks catch_marks declarator_marks declarators_marks expressions_marks properties_marks
    statements_marks

-- the marks of a tree are made of those of its parts
pub expression_turn : (x : Level Expr-F)
    → expression_marks (views.roll-Expr x) ≡ expression_layer (marks_of Expr-F map-Expr x)
unfolding expression_marks property_marks key_marks statement_marks block_marks catch_marks declarator_marks
    declarators_marks expressions_marks properties_marks statements_marks
expression_turn x =
    fold-roll-Expr Marking Marks Marks Marks Marks Marks Marks Marks Marks Marks Marks expression_layer property_layer
    key_layer statement_layer block_layer catch_layer declarator_layer declarators_layer expressions_layer
    properties_layer statements_layer x

pub property_turn : (x : Level PropertyDefinition-F)
    → property_marks (views.roll-PropertyDefinition x) ≡ property_layer
    (marks_of PropertyDefinition-F map-PropertyDefinition x)
unfolding expression_marks property_marks key_marks statement_marks block_marks catch_marks declarator_marks
    declarators_marks expressions_marks properties_marks statements_marks
property_turn x =
    fold-roll-PropertyDefinition Marking Marks Marks Marks Marks Marks Marks Marks Marks Marks Marks expression_layer
    property_layer key_layer statement_layer block_layer catch_layer declarator_layer declarators_layer
    expressions_layer properties_layer statements_layer x

pub key_turn : (x : Level PropertyName-F)
    → key_marks (views.roll-PropertyName x) ≡ key_layer (marks_of PropertyName-F map-PropertyName x)
unfolding expression_marks property_marks key_marks statement_marks block_marks catch_marks declarator_marks
    declarators_marks expressions_marks properties_marks statements_marks
key_turn x =
    fold-roll-PropertyName Marking Marks Marks Marks Marks Marks Marks Marks Marks Marks Marks expression_layer
    property_layer key_layer statement_layer block_layer catch_layer declarator_layer declarators_layer
    expressions_layer properties_layer statements_layer x

pub statement_turn : (x : Level Stmt-F)
    → statement_marks (views.roll-Stmt x) ≡ statement_layer (marks_of Stmt-F map-Stmt x)
unfolding expression_marks property_marks key_marks statement_marks block_marks catch_marks declarator_marks
    declarators_marks expressions_marks properties_marks statements_marks
statement_turn x =
    fold-roll-Stmt Marking Marks Marks Marks Marks Marks Marks Marks Marks Marks Marks expression_layer property_layer
    key_layer statement_layer block_layer catch_layer declarator_layer declarators_layer expressions_layer
    properties_layer statements_layer x

-- ---- expressions

pub marks_this : (node : NodeId) → expression_marks (Expr.This node) ≡ definitions.marking node.0 []
marks_this node = ap expression_marks (sym (rolls-This node)) ∙ expression_turn (Expr-F.This node)

pub marks_name : (node : NodeId) (n : List ℕ) → expression_marks (Expr.Name node n) ≡ definitions.name_marking node.0
marks_name node n = ap expression_marks (sym (rolls-Name node n)) ∙ expression_turn (Expr-F.Name node n)

pub marks_number : (node : NodeId) (v : SafeInteger)
    → expression_marks (Expr.Number node v) ≡ definitions.marking node.0 []
marks_number node v = ap expression_marks (sym (rolls-Number node v)) ∙ expression_turn (Expr-F.Number node v)

pub marks_string : (node : NodeId) (us : List ℕ)
    → expression_marks (Expr.String node us) ≡ definitions.marking node.0 []
marks_string node us = ap expression_marks (sym (rolls-String node us)) ∙ expression_turn (Expr-F.String node us)

pub marks_boolean : (node : NodeId) (b : Bool) → expression_marks (Expr.Boolean node b) ≡ definitions.marking node.0 []
marks_boolean node b = ap expression_marks (sym (rolls-Boolean node b)) ∙ expression_turn (Expr-F.Boolean node b)

pub marks_null : (node : NodeId) → expression_marks (Expr.Null node) ≡ definitions.marking node.0 []
marks_null node = ap expression_marks (sym (rolls-Null node)) ∙ expression_turn (Expr-F.Null node)

pub marks_array : (node : NodeId) (es : Exprs)
    → expression_marks (views.Array node es) ≡ definitions.marking node.0 (expressions_marks es)
marks_array node es = ap expression_marks (sym (rolls-Array node es)) ∙ expression_turn (Expr-F.Array node es)

pub marks_object : (node : NodeId) (ps : PropertyDefinitions)
    → expression_marks (views.Object node ps) ≡ definitions.marking node.0 (properties_marks ps)
marks_object node ps = ap expression_marks (sym (rolls-Object node ps)) ∙ expression_turn (Expr-F.Object node ps)

pub marks_function : (node : NodeId) (n : Option (List ℕ)) (ps : List (List ℕ)) (body : Stmts)
    → expression_marks (views.Function node n ps body) ≡ definitions.marking node.0
    (definitions.in_function node.0 (statements_marks body))
marks_function node n ps body =
    ap expression_marks (sym (rolls-Function node n ps body)) ∙ expression_turn (Expr-F.Function node n ps body)

pub marks_arrow : (node : NodeId) (ps : ArrowParameters) (x : Box Expr)
    → expression_marks (views.Arrow node ps x) ≡ definitions.marking node.0
    (definitions.in_returned (expression_marks x.value))
marks_arrow node ps x = ap expression_marks (sym (rolls-Arrow node ps x)) ∙ expression_turn (Expr-F.Arrow node ps x)

pub marks_arrow_block : (node : NodeId) (ps : ArrowParameters) (body : Stmts)
    → expression_marks (views.ArrowBlock node ps body) ≡ definitions.marking node.0
    (definitions.in_function node.0 (statements_marks body))
marks_arrow_block node ps body =
    ap expression_marks (sym (rolls-ArrowBlock node ps body)) ∙ expression_turn (Expr-F.ArrowBlock node ps body)

pub marks_parenthesized : (node : NodeId) (x : Box Expr)
    → expression_marks (views.Parenthesized node x) ≡ definitions.marking node.0 (expression_marks x.value).marks
marks_parenthesized node x =
    ap expression_marks (sym (rolls-Parenthesized node x)) ∙ expression_turn (Expr-F.Parenthesized node x)

pub marks_member : (node : NodeId) (x : Box Expr) (n : List ℕ)
    → expression_marks (views.Member node x n) ≡ definitions.member_marking node.0 (expression_marks x.value) (length n)
marks_member node x n = ap expression_marks (sym (rolls-Member node x n)) ∙ expression_turn (Expr-F.Member node x n)

pub marks_index : (node : NodeId) (x : Box Expr) (k : Box Expr)
    → expression_marks (views.Index node x k) ≡ definitions.marking node.0
    ((expression_marks x.value).marks ++ (expression_marks k.value).marks)
marks_index node x k = ap expression_marks (sym (rolls-Index node x k)) ∙ expression_turn (Expr-F.Index node x k)

pub marks_call : (node : NodeId) (f : Box Expr) (parentheses : NodeId) (es : Exprs)
    → expression_marks (views.Call node f parentheses es) ≡ definitions.marking node.0
    (definitions.in_call (expression_marks f.value) parentheses.0 (expressions_marks es))
marks_call node f parentheses es =
    ap expression_marks (sym (rolls-Call node f parentheses es)) ∙ expression_turn (Expr-F.Call node f parentheses es)

pub marks_postfix : (node : NodeId) (o : UpdateOperator) (x : Box Expr)
    → expression_marks (views.Postfix node o x) ≡ definitions.marking node.0 (expression_marks x.value).marks
marks_postfix node o x = ap expression_marks (sym (rolls-Postfix node o x)) ∙ expression_turn (Expr-F.Postfix node o x)

pub marks_prefix : (node : NodeId) (o : UpdateOperator) (x : Box Expr)
    → expression_marks (views.Prefix node o x) ≡ definitions.marking node.0 (expression_marks x.value).marks
marks_prefix node o x = ap expression_marks (sym (rolls-Prefix node o x)) ∙ expression_turn (Expr-F.Prefix node o x)

pub marks_unary : (node : NodeId) (o : UnaryOperator) (x : Box Expr)
    → expression_marks (views.Unary node o x) ≡ definitions.marking node.0 (expression_marks x.value).marks
marks_unary node o x = ap expression_marks (sym (rolls-Unary node o x)) ∙ expression_turn (Expr-F.Unary node o x)

pub marks_binary : (node : NodeId) (o : BinaryOperator) (l : Box Expr) (r : Box Expr)
    → expression_marks (views.Binary node o l r) ≡ definitions.marking node.0
    ((expression_marks l.value).marks ++ (expression_marks r.value).marks)
marks_binary node o l r =
    ap expression_marks (sym (rolls-Binary node o l r)) ∙ expression_turn (Expr-F.Binary node o l r)

pub marks_conditional : (node : NodeId) (t : Box Expr) (a : Box Expr) (b : Box Expr)
    → expression_marks (views.Conditional node t a b) ≡ definitions.marking node.0
    ((expression_marks t.value).marks ++ (expression_marks a.value).marks ++ (expression_marks b.value).marks)
marks_conditional node t a b =
    ap expression_marks (sym (rolls-Conditional node t a b)) ∙ expression_turn (Expr-F.Conditional node t a b)

pub marks_assign : (node : NodeId) (o : AssignmentOperator) (t : Box Expr) (v : Box Expr)
    → expression_marks (views.Assign node o t v) ≡ definitions.marking node.0
    ((expression_marks t.value).marks ++ (expression_marks v.value).marks)
marks_assign node o t v =
    ap expression_marks (sym (rolls-Assign node o t v)) ∙ expression_turn (Expr-F.Assign node o t v)

pub marks_comma : (node : NodeId) (es : Exprs)
    → expression_marks (views.Comma node es) ≡ definitions.marking node.0 (expressions_marks es)
marks_comma node es = ap expression_marks (sym (rolls-Comma node es)) ∙ expression_turn (Expr-F.Comma node es)

-- ---- keys and members of object literals

pub marks_word_key : (us : List ℕ) → key_marks (PropertyName.Word us) ≡ []
marks_word_key us = ap key_marks (sym (rolls-Word us)) ∙ key_turn (PropertyName-F.Word us)

pub marks_string_key : (us : List ℕ) → key_marks (PropertyName.StringLiteral us) ≡ []
marks_string_key us = ap key_marks (sym (rolls-StringLiteral us)) ∙ key_turn (PropertyName-F.StringLiteral us)

pub marks_number_key : (v : SafeInteger) → key_marks (PropertyName.NumericLiteral v) ≡ []
marks_number_key v = ap key_marks (sym (rolls-NumericLiteral v)) ∙ key_turn (PropertyName-F.NumericLiteral v)

pub marks_computed_key : (x : Expr) → key_marks (PropertyName.Computed x) ≡ (expression_marks x).marks
marks_computed_key x = ap key_marks (sym (rolls-Computed x)) ∙ key_turn (PropertyName-F.Computed x)

pub marks_shorthand : (n : List ℕ) → property_marks (PropertyDefinition.Shorthand n) ≡ []
marks_shorthand n = ap property_marks (sym (rolls-Shorthand n)) ∙ property_turn (PropertyDefinition-F.Shorthand n)

pub marks_value : (k : PropertyName) (x : Expr)
    → property_marks (PropertyDefinition.Value k x) ≡ key_marks k ++ (expression_marks x).marks
marks_value k x = ap property_marks (sym (rolls-Value k x)) ∙ property_turn (PropertyDefinition-F.Value k x)

pub marks_method : (node : NodeId) (k : PropertyName) (ps : List (List ℕ)) (body : Stmts)
    → property_marks (views.Method node k ps body) ≡ key_marks k ++ definitions.in_function node.0
    (statements_marks body)
marks_method node k ps body =
    ap property_marks (sym (rolls-Method node k ps body)) ∙ property_turn (PropertyDefinition-F.Method node k ps body)

-- ---- statements

pub marks_block : (b : Block) → statement_marks (views.Block b) ≡ block_marks b
marks_block b = ap statement_marks (sym (rolls-Block b)) ∙ statement_turn (Stmt-F.Block b)

pub marks_lexical : (node : NodeId) (c : Bool) (ds : Declarators)
    → statement_marks (Stmt.Lexical node c ds) ≡ definitions.beginning kinds.Plain node.0 ++ declarators_marks ds
marks_lexical node c ds = ap statement_marks (sym (rolls-Lexical node c ds)) ∙ statement_turn (Stmt-F.Lexical node c ds)

pub marks_empty : (node : NodeId) → statement_marks (Stmt.Empty node) ≡ []
marks_empty node = ap statement_marks (sym (rolls-Empty node)) ∙ statement_turn (Stmt-F.Empty node)

pub marks_expression : (node : NodeId) (x : Expr)
    → statement_marks (Stmt.Expression node x) ≡ definitions.beginning kinds.Plain node.0 ++ (expression_marks x).marks
marks_expression node x = ap statement_marks (sym (rolls-Expression node x)) ∙ statement_turn (Stmt-F.Expression node x)

pub marks_if : (node : NodeId) (x : Expr) (s : Box Stmt) (t : Option (Box Stmt))
    → statement_marks (views.If node x s t) ≡ definitions.beginning kinds.Plain node.0 ++
    (expression_marks x).marks ++ statement_marks s.value ++ definitions.where_present
    (option_map (λ b. statement_marks b.value) t)
marks_if node x s None = ap statement_marks (sym (rolls-If node x s None)) ∙ statement_turn (Stmt-F.If node x s None)
marks_if node x s (Some t) =
    ap statement_marks (sym (rolls-If node x s (Some t))) ∙ statement_turn (Stmt-F.If node x s (Some t))

pub marks_do_while : (node : NodeId) (s : Box Stmt) (x : Expr)
    → statement_marks (views.DoWhile node s x) ≡ definitions.beginning kinds.Plain node.0 ++ statement_marks s.value ++
    (expression_marks x).marks
marks_do_while node s x = ap statement_marks (sym (rolls-DoWhile node s x)) ∙ statement_turn (Stmt-F.DoWhile node s x)

pub marks_while : (node : NodeId) (x : Expr) (s : Box Stmt)
    → statement_marks (views.While node x s) ≡ definitions.beginning kinds.Plain node.0 ++
    (expression_marks x).marks ++ statement_marks s.value
marks_while node x s = ap statement_marks (sym (rolls-While node x s)) ∙ statement_turn (Stmt-F.While node x s)

pub marks_for : (node : NodeId) (i : Option Expr) (t : Option Expr) (u : Option Expr) (s : Box Stmt)
    → statement_marks (views.For node i t u s) ≡ definitions.beginning kinds.Plain node.0 ++ definitions.in_present
    (option_map expression_marks i) ++ definitions.in_present (option_map expression_marks t)
    ++ definitions.in_present (option_map expression_marks u) ++ statement_marks s.value
marks_for node None None None s =
    ap statement_marks (sym (rolls-For node None None None s)) ∙ statement_turn (Stmt-F.For node None None None s)
marks_for node None None (Some u) s =
    ap statement_marks (sym (rolls-For node None None (Some u) s))
    ∙ statement_turn (Stmt-F.For node None None (Some u) s)
marks_for node None (Some t) None s =
    ap statement_marks (sym (rolls-For node None (Some t) None s))
    ∙ statement_turn (Stmt-F.For node None (Some t) None s)
marks_for node None (Some t) (Some u) s =
    ap statement_marks (sym (rolls-For node None (Some t) (Some u) s))
    ∙ statement_turn (Stmt-F.For node None (Some t) (Some u) s)
marks_for node (Some i) None None s =
    ap statement_marks (sym (rolls-For node (Some i) None None s))
    ∙ statement_turn (Stmt-F.For node (Some i) None None s)
marks_for node (Some i) None (Some u) s =
    ap statement_marks (sym (rolls-For node (Some i) None (Some u) s))
    ∙ statement_turn (Stmt-F.For node (Some i) None (Some u) s)
marks_for node (Some i) (Some t) None s =
    ap statement_marks (sym (rolls-For node (Some i) (Some t) None s))
    ∙ statement_turn (Stmt-F.For node (Some i) (Some t) None s)
marks_for node (Some i) (Some t) (Some u) s =
    ap statement_marks (sym (rolls-For node (Some i) (Some t) (Some u) s))
    ∙ statement_turn (Stmt-F.For node (Some i) (Some t) (Some u) s)

pub marks_for_lexical : (node : NodeId) (c : Bool) (ds : Declarators) (t : Option Expr) (u : Option Expr) (s : Box Stmt)
    → statement_marks (views.ForLexical node c ds t u s)
    ≡ definitions.beginning kinds.Plain node.0 ++ declarators_marks ds ++ definitions.in_present
    (option_map expression_marks t) ++ definitions.in_present (option_map expression_marks u)
    ++ statement_marks s.value
marks_for_lexical node c ds None None s =
    ap statement_marks (sym (rolls-ForLexical node c ds None None s))
    ∙ statement_turn (Stmt-F.ForLexical node c ds None None s)
marks_for_lexical node c ds None (Some u) s =
    ap statement_marks (sym (rolls-ForLexical node c ds None (Some u) s))
    ∙ statement_turn (Stmt-F.ForLexical node c ds None (Some u) s)
marks_for_lexical node c ds (Some t) None s =
    ap statement_marks (sym (rolls-ForLexical node c ds (Some t) None s))
    ∙ statement_turn (Stmt-F.ForLexical node c ds (Some t) None s)
marks_for_lexical node c ds (Some t) (Some u) s =
    ap statement_marks (sym (rolls-ForLexical node c ds (Some t) (Some u) s))
    ∙ statement_turn (Stmt-F.ForLexical node c ds (Some t) (Some u) s)

pub marks_for_of : (node : NodeId) (c : Bool) (n : List ℕ) (x : Expr) (s : Box Stmt)
    → statement_marks (views.ForOf node c n x s) ≡ definitions.beginning kinds.Plain node.0 ++
    (expression_marks x).marks ++ statement_marks s.value
marks_for_of node c n x s =
    ap statement_marks (sym (rolls-ForOf node c n x s)) ∙ statement_turn (Stmt-F.ForOf node c n x s)

pub marks_continue : (node : NodeId) → statement_marks (Stmt.Continue node) ≡ definitions.beginning kinds.Plain node.0
marks_continue node = ap statement_marks (sym (rolls-Continue node)) ∙ statement_turn (Stmt-F.Continue node)

pub marks_break : (node : NodeId) → statement_marks (Stmt.Break node) ≡ definitions.beginning kinds.Plain node.0
marks_break node = ap statement_marks (sym (rolls-Break node)) ∙ statement_turn (Stmt-F.Break node)

pub marks_return : (node : NodeId) (x : Option Expr)
    → statement_marks (views.Return node x) ≡ definitions.beginning kinds.Return node.0 ++ definitions.in_present
    (option_map expression_marks x)
marks_return node None = ap statement_marks (sym (rolls-Return node None)) ∙ statement_turn (Stmt-F.Return node None)
marks_return node (Some x) =
    ap statement_marks (sym (rolls-Return node (Some x))) ∙ statement_turn (Stmt-F.Return node (Some x))

pub marks_throw : (node : NodeId) (x : Expr)
    → statement_marks (Stmt.Throw node x) ≡ definitions.beginning kinds.Plain node.0 ++ (expression_marks x).marks
marks_throw node x = ap statement_marks (sym (rolls-Throw node x)) ∙ statement_turn (Stmt-F.Throw node x)

pub marks_try : (node : NodeId) (b : Block) (h : Option Catch) (f : Option Block)
    → statement_marks (views.Try node b h f)
    ≡ definitions.beginning kinds.Plain node.0 ++ block_marks b ++ definitions.where_present
    (option_map catch_marks h) ++ definitions.where_present (option_map block_marks f)
marks_try node b None None =
    ap statement_marks (sym (rolls-Try node b None None)) ∙ statement_turn (Stmt-F.Try node b None None)
marks_try node b None (Some f) =
    ap statement_marks (sym (rolls-Try node b None (Some f))) ∙ statement_turn (Stmt-F.Try node b None (Some f))
marks_try node b (Some h) None =
    ap statement_marks (sym (rolls-Try node b (Some h) None)) ∙ statement_turn (Stmt-F.Try node b (Some h) None)
marks_try node b (Some h) (Some f) =
    ap statement_marks (sym (rolls-Try node b (Some h) (Some f))) ∙ statement_turn (Stmt-F.Try node b (Some h) (Some f))

pub marks_debugger : (node : NodeId)
    → statement_marks (Stmt.Debugger node) ≡ definitions.beginning kinds.Debugger node.0
marks_debugger node = ap statement_marks (sym (rolls-Debugger node)) ∙ statement_turn (Stmt-F.Debugger node)

pub marks_function_declaration : (node : NodeId) (n : List ℕ) (ps : List (List ℕ)) (body : Stmts)
    → statement_marks (views.FunctionDeclaration node n ps body) ≡ definitions.in_function node.0
    (statements_marks body)
marks_function_declaration node n ps body =
    ap statement_marks (sym (rolls-FunctionDeclaration node n ps body))
    ∙ statement_turn (Stmt-F.FunctionDeclaration node n ps body)

-- ---- parts

pub marks_block_body : (b : Block) → block_marks b ≡ statements_marks b.body
unfolding expression_marks property_marks key_marks statement_marks block_marks catch_marks declarator_marks
    declarators_marks expressions_marks properties_marks statements_marks
marks_block_body b =
    fold_out-Block Marking Marks Marks Marks Marks Marks Marks Marks Marks Marks Marks expression_layer property_layer
    key_layer statement_layer block_layer catch_layer declarator_layer declarators_layer expressions_layer
    properties_layer statements_layer b

pub marks_catch : (h : Catch) → catch_marks h ≡ block_marks h.block
unfolding expression_marks property_marks key_marks statement_marks block_marks catch_marks declarator_marks
    declarators_marks expressions_marks properties_marks statements_marks
marks_catch h =
    fold_out-Catch Marking Marks Marks Marks Marks Marks Marks Marks Marks Marks Marks expression_layer property_layer
    key_layer statement_layer block_layer catch_layer declarator_layer declarators_layer expressions_layer
    properties_layer statements_layer h

pub marks_declarators : (ds : Declarators)
    → declarators_marks ds ≡ definitions.together (map declarator_marks (out-Declarators ds).items.items)
unfolding expression_marks property_marks key_marks statement_marks block_marks catch_marks declarator_marks
    declarators_marks expressions_marks properties_marks statements_marks
marks_declarators ds =
    fold_out-Declarators Marking Marks Marks Marks Marks Marks Marks Marks Marks Marks Marks expression_layer
    property_layer key_layer statement_layer block_layer catch_layer declarator_layer declarators_layer
    expressions_layer properties_layer statements_layer ds

pub marks_expressions : (es : Exprs) → expressions_marks es ≡ definitions.in_all (map expression_marks es.items.items)
unfolding expression_marks property_marks key_marks statement_marks block_marks catch_marks declarator_marks
    declarators_marks expressions_marks properties_marks statements_marks
marks_expressions es =
    fold_out-Exprs Marking Marks Marks Marks Marks Marks Marks Marks Marks Marks Marks expression_layer property_layer
    key_layer statement_layer block_layer catch_layer declarator_layer declarators_layer expressions_layer
    properties_layer statements_layer es

pub marks_properties : (ps : PropertyDefinitions)
    → properties_marks ps ≡ definitions.together (map property_marks ps.items.items)
unfolding expression_marks property_marks key_marks statement_marks block_marks catch_marks declarator_marks
    declarators_marks expressions_marks properties_marks statements_marks
marks_properties ps =
    fold_out-PropertyDefinitions Marking Marks Marks Marks Marks Marks Marks Marks Marks Marks Marks expression_layer
    property_layer key_layer statement_layer block_layer catch_layer declarator_layer declarators_layer
    expressions_layer properties_layer statements_layer ps

pub marks_statements : (ss : Stmts) → statements_marks ss ≡ definitions.together (map statement_marks ss.items.items)
unfolding expression_marks property_marks key_marks statement_marks block_marks catch_marks declarator_marks
    declarators_marks expressions_marks properties_marks statements_marks
marks_statements ss =
    fold_out-Stmts Marking Marks Marks Marks Marks Marks Marks Marks Marks Marks Marks expression_layer property_layer
    key_layer statement_layer block_layer catch_layer declarator_layer declarators_layer expressions_layer
    properties_layer statements_layer ss

declarator_by : (n : List ℕ) (o : Option Expr)
    → declarator_marks (record { name = n; initializer = o }) ≡ definitions.in_present (option_map expression_marks o)
unfolding expression_marks property_marks key_marks statement_marks block_marks catch_marks declarator_marks
    declarators_marks expressions_marks properties_marks statements_marks
declarator_by n None =
    fold_out-Declarator Marking Marks Marks Marks Marks Marks Marks Marks Marks Marks Marks expression_layer
    property_layer key_layer statement_layer block_layer catch_layer declarator_layer declarators_layer
    expressions_layer properties_layer statements_layer
    (record { name = n; initializer = None })
declarator_by n (Some e) =
    fold_out-Declarator Marking Marks Marks Marks Marks Marks Marks Marks Marks Marks Marks expression_layer
    property_layer key_layer statement_layer block_layer catch_layer declarator_layer declarators_layer
    expressions_layer properties_layer statements_layer
    (record { name = n; initializer = Some e })

pub marks_declarator : (d : Declarator)
    → declarator_marks d ≡ definitions.in_present (option_map expression_marks d.initializer)
marks_declarator d = declarator_by d.name d.initializer
