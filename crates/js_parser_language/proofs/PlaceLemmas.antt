-- Where the nodes of a tree of each form stand.
use Rattle.std.proofs.Common.{◌≡◌, ℕ, Bool, List, [], ◌∷◌, ◌++◌, Option, Some, None, map, sym, ap, ◌∙◌, codes}
use Rattle.std.specs.Option.{option_map}
use Rattle.std.specs.Global.{Vec, Box}
use Rattle.js_lexer.specs.declared.token.TokenKind.TheVariants as kinds
use Rattle.js_tree.specs.declared.node.NodeId.{NodeId}
use Rattle.js_tree.specs.declared.integer.SafeInteger.{SafeInteger}
use Rattle.js_tree_operators.specs.declared.operator.UnaryOperator.{UnaryOperator}
use Rattle.js_tree_operators.specs.declared.operator.UpdateOperator.{UpdateOperator}
use Rattle.js_tree_operators.specs.declared.operator.BinaryOperator.{BinaryOperator}
use Rattle.js_tree_operators.specs.declared.operator.AssignmentOperator.{AssignmentOperator}
use Rattle.js_tree.specs.declared.tree.ArrowParameters.{ArrowParameters}
use Rattle.js_tree.specs.declared.tree.Expr.{Expr}
use Rattle.js_tree.specs.declared.tree.PropertyDefinition.{PropertyDefinition}
use Rattle.js_tree.specs.declared.tree.PropertyName.{PropertyName}
use Rattle.js_tree.specs.declared.tree.Stmt.{Stmt}
use Rattle.js_tree.specs.declared.tree.Block.{Block}
use Rattle.js_tree.specs.declared.tree.Catch.{Catch}
use Rattle.js_tree.specs.declared.tree.Declarator.{Declarator}
use Rattle.js_tree.specs.declared.tree.Declarators.{Declarators}
use Rattle.js_tree.specs.declared.tree.Exprs.{Exprs}
use Rattle.js_tree.specs.declared.tree.PropertyDefinitions.{PropertyDefinitions}
use Rattle.js_tree.specs.declared.tree.Stmts.{Stmts}
use Rattle.js_tree.specs.declared.tree.Expr.TheOpen.{Expr-F, PropertyDefinition-F, PropertyName-F, Stmt-F, Block-F, Catch-F, Declarator-F, Declarators-F, Exprs-F, PropertyDefinitions-F, Stmts-F}
use Rattle.js_tree.specs.declared.tree.Expr.TheFolds.{fold-roll-Expr, fold-roll-PropertyDefinition, fold-roll-PropertyName, fold-roll-Stmt, fold-roll-Block, fold-roll-Catch, fold-roll-Declarator, fold-roll-Declarators, fold-roll-Exprs, fold-roll-PropertyDefinitions, fold-roll-Stmts, map-Expr, map-PropertyDefinition, map-PropertyName, map-Stmt, map-Block, map-Catch, map-Declarator, map-Declarators, map-Exprs, map-PropertyDefinitions, map-Stmts}
use Rattle.js_tree.specs.declared.tree.Expr.TheVariants.{rolls-This, rolls-Name, rolls-Number, rolls-String, rolls-Boolean, rolls-Null, rolls-Array, rolls-Object, rolls-Function, rolls-Arrow, rolls-ArrowBlock, rolls-Parenthesized, rolls-Member, rolls-Index, rolls-Call, rolls-Postfix, rolls-Prefix, rolls-Unary, rolls-Binary, rolls-Conditional, rolls-Assign, rolls-Comma}
use Rattle.js_tree.specs.declared.tree.Stmt.TheVariants.{rolls-Lexical, rolls-Empty, rolls-Expression, rolls-DoWhile, rolls-While, rolls-For, rolls-ForLexical, rolls-ForOf, rolls-Continue, rolls-Break, rolls-Return, rolls-Throw, rolls-Try, rolls-Debugger, rolls-FunctionDeclaration, rolls-Block, rolls-If}
use Rattle.js_tree.specs.declared.tree.PropertyName.TheVariants.{rolls-Word, rolls-StringLiteral, rolls-NumericLiteral, rolls-Computed}
use Rattle.js_tree.specs.declared.tree.PropertyDefinition.TheVariants.{rolls-Shorthand, rolls-Value, rolls-Method}
use Rattle.js_tree.specs.declared.tree.Expr.TheViews as views
use Rattle.js_tree.specs.Views.{parameters_view}
use Rattle.js_parser_language.specs.Tokens.{identifier_name, numeric_literal, string_literal}
use Rattle.js_parser_language.specs.Flat.{a, an_identifier, unary_kind, update_kind, binary_kind, assign_kind, flat_parameters, flat_arrow_parameters, flat_optional_name, flat_catch_parameter, flat_boolean, let_or_const}
use Rattle.js_parser_language.specs.Places.{FlatPlace, in_turn, plain, a_symbol, may_stand, node_of, in_braces, in_parentheses, with_commas, assign_if_some, optional_places, handler_places, finalizer_places, expression_places, property_places, key_places, statement_places, block_places, catch_places, declarator_places, declarators_places, expressions_places, properties_places, statements_places, expression_pieces, property_pieces, key_pieces, statement_pieces, block_pieces, catch_pieces, declarator_pieces, declarators_pieces, expressions_pieces, properties_pieces, statements_pieces}
use Rattle.js_tree.proofs.ViewLemmas.{Layer}

-- the places of a tree are made of the places of its parts
pub expression_turn : (x : Layer Expr-F)
    → expression_places (views.roll-Expr x) ≡ expression_pieces
    (map-Expr Expr PropertyDefinition PropertyName Stmt Block Catch Declarator Declarators Exprs PropertyDefinitions
    Stmts
    (List FlatPlace) (List FlatPlace) (List FlatPlace) (List FlatPlace) (List FlatPlace) (List FlatPlace) (List FlatPlace) (List FlatPlace)
    (List FlatPlace) (List FlatPlace) (List FlatPlace)
    expression_places property_places key_places statement_places block_places catch_places declarator_places
    declarators_places expressions_places properties_places statements_places x)
unfolding expression_places property_places key_places statement_places block_places catch_places declarator_places
    declarators_places expressions_places properties_places statements_places
expression_turn x =
    fold-roll-Expr (List FlatPlace) (List FlatPlace) (List FlatPlace) (List FlatPlace) (List FlatPlace) (List FlatPlace) (List FlatPlace)
    (List FlatPlace) (List FlatPlace) (List FlatPlace) (List FlatPlace)
    expression_pieces property_pieces key_pieces statement_pieces block_pieces catch_pieces declarator_pieces
    declarators_pieces expressions_pieces properties_pieces statements_pieces x

pub property_turn : (x : Layer PropertyDefinition-F)
    → property_places (views.roll-PropertyDefinition x) ≡ property_pieces
    (map-PropertyDefinition Expr PropertyDefinition PropertyName Stmt Block Catch Declarator Declarators Exprs
    PropertyDefinitions Stmts
    (List FlatPlace) (List FlatPlace) (List FlatPlace) (List FlatPlace) (List FlatPlace) (List FlatPlace) (List FlatPlace) (List FlatPlace)
    (List FlatPlace) (List FlatPlace) (List FlatPlace)
    expression_places property_places key_places statement_places block_places catch_places declarator_places
    declarators_places expressions_places properties_places statements_places x)
unfolding expression_places property_places key_places statement_places block_places catch_places declarator_places
    declarators_places expressions_places properties_places statements_places
property_turn x =
    fold-roll-PropertyDefinition (List FlatPlace) (List FlatPlace) (List FlatPlace) (List FlatPlace) (List FlatPlace) (List FlatPlace)
    (List FlatPlace) (List FlatPlace) (List FlatPlace) (List FlatPlace) (List FlatPlace)
    expression_pieces property_pieces key_pieces statement_pieces block_pieces catch_pieces declarator_pieces
    declarators_pieces expressions_pieces properties_pieces statements_pieces x

pub key_turn : (x : Layer PropertyName-F)
    → key_places (views.roll-PropertyName x) ≡ key_pieces
    (map-PropertyName Expr PropertyDefinition PropertyName Stmt Block Catch Declarator Declarators Exprs
    PropertyDefinitions Stmts
    (List FlatPlace) (List FlatPlace) (List FlatPlace) (List FlatPlace) (List FlatPlace) (List FlatPlace) (List FlatPlace) (List FlatPlace)
    (List FlatPlace) (List FlatPlace) (List FlatPlace)
    expression_places property_places key_places statement_places block_places catch_places declarator_places
    declarators_places expressions_places properties_places statements_places x)
unfolding expression_places property_places key_places statement_places block_places catch_places declarator_places
    declarators_places expressions_places properties_places statements_places
key_turn x =
    fold-roll-PropertyName (List FlatPlace) (List FlatPlace) (List FlatPlace) (List FlatPlace) (List FlatPlace) (List FlatPlace) (List FlatPlace)
    (List FlatPlace) (List FlatPlace) (List FlatPlace) (List FlatPlace)
    expression_pieces property_pieces key_pieces statement_pieces block_pieces catch_pieces declarator_pieces
    declarators_pieces expressions_pieces properties_pieces statements_pieces x

pub statement_turn : (x : Layer Stmt-F)
    → statement_places (views.roll-Stmt x) ≡ statement_pieces
    (map-Stmt Expr PropertyDefinition PropertyName Stmt Block Catch Declarator Declarators Exprs PropertyDefinitions
    Stmts
    (List FlatPlace) (List FlatPlace) (List FlatPlace) (List FlatPlace) (List FlatPlace) (List FlatPlace) (List FlatPlace) (List FlatPlace)
    (List FlatPlace) (List FlatPlace) (List FlatPlace)
    expression_places property_places key_places statement_places block_places catch_places declarator_places
    declarators_places expressions_places properties_places statements_places x)
unfolding expression_places property_places key_places statement_places block_places catch_places declarator_places
    declarators_places expressions_places properties_places statements_places
statement_turn x =
    fold-roll-Stmt (List FlatPlace) (List FlatPlace) (List FlatPlace) (List FlatPlace) (List FlatPlace) (List FlatPlace) (List FlatPlace)
    (List FlatPlace) (List FlatPlace) (List FlatPlace) (List FlatPlace)
    expression_pieces property_pieces key_pieces statement_pieces block_pieces catch_pieces declarator_pieces
    declarators_pieces expressions_pieces properties_pieces statements_pieces x

pub block_turn : (x : Layer Block-F)
    → block_places (views.roll-Block x) ≡ block_pieces
    (map-Block Expr PropertyDefinition PropertyName Stmt Block Catch Declarator Declarators Exprs PropertyDefinitions
    Stmts
    (List FlatPlace) (List FlatPlace) (List FlatPlace) (List FlatPlace) (List FlatPlace) (List FlatPlace) (List FlatPlace) (List FlatPlace)
    (List FlatPlace) (List FlatPlace) (List FlatPlace)
    expression_places property_places key_places statement_places block_places catch_places declarator_places
    declarators_places expressions_places properties_places statements_places x)
unfolding expression_places property_places key_places statement_places block_places catch_places declarator_places
    declarators_places expressions_places properties_places statements_places
block_turn x =
    fold-roll-Block (List FlatPlace) (List FlatPlace) (List FlatPlace) (List FlatPlace) (List FlatPlace) (List FlatPlace) (List FlatPlace)
    (List FlatPlace) (List FlatPlace) (List FlatPlace) (List FlatPlace)
    expression_pieces property_pieces key_pieces statement_pieces block_pieces catch_pieces declarator_pieces
    declarators_pieces expressions_pieces properties_pieces statements_pieces x

pub catch_turn : (x : Layer Catch-F)
    → catch_places (views.roll-Catch x) ≡ catch_pieces
    (map-Catch Expr PropertyDefinition PropertyName Stmt Block Catch Declarator Declarators Exprs PropertyDefinitions
    Stmts
    (List FlatPlace) (List FlatPlace) (List FlatPlace) (List FlatPlace) (List FlatPlace) (List FlatPlace) (List FlatPlace) (List FlatPlace)
    (List FlatPlace) (List FlatPlace) (List FlatPlace)
    expression_places property_places key_places statement_places block_places catch_places declarator_places
    declarators_places expressions_places properties_places statements_places x)
unfolding expression_places property_places key_places statement_places block_places catch_places declarator_places
    declarators_places expressions_places properties_places statements_places
catch_turn x =
    fold-roll-Catch (List FlatPlace) (List FlatPlace) (List FlatPlace) (List FlatPlace) (List FlatPlace) (List FlatPlace) (List FlatPlace)
    (List FlatPlace) (List FlatPlace) (List FlatPlace) (List FlatPlace)
    expression_pieces property_pieces key_pieces statement_pieces block_pieces catch_pieces declarator_pieces
    declarators_pieces expressions_pieces properties_pieces statements_pieces x

pub declarator_turn : (x : Layer Declarator-F)
    → declarator_places (views.roll-Declarator x) ≡ declarator_pieces
    (map-Declarator Expr PropertyDefinition PropertyName Stmt Block Catch Declarator Declarators Exprs
    PropertyDefinitions Stmts
    (List FlatPlace) (List FlatPlace) (List FlatPlace) (List FlatPlace) (List FlatPlace) (List FlatPlace) (List FlatPlace) (List FlatPlace)
    (List FlatPlace) (List FlatPlace) (List FlatPlace)
    expression_places property_places key_places statement_places block_places catch_places declarator_places
    declarators_places expressions_places properties_places statements_places x)
unfolding expression_places property_places key_places statement_places block_places catch_places declarator_places
    declarators_places expressions_places properties_places statements_places
declarator_turn x =
    fold-roll-Declarator (List FlatPlace) (List FlatPlace) (List FlatPlace) (List FlatPlace) (List FlatPlace) (List FlatPlace) (List FlatPlace)
    (List FlatPlace) (List FlatPlace) (List FlatPlace) (List FlatPlace)
    expression_pieces property_pieces key_pieces statement_pieces block_pieces catch_pieces declarator_pieces
    declarators_pieces expressions_pieces properties_pieces statements_pieces x

pub declarators_turn : (x : Layer Declarators-F)
    → declarators_places (views.roll-Declarators x) ≡ declarators_pieces
    (map-Declarators Expr PropertyDefinition PropertyName Stmt Block Catch Declarator Declarators Exprs
    PropertyDefinitions Stmts
    (List FlatPlace) (List FlatPlace) (List FlatPlace) (List FlatPlace) (List FlatPlace) (List FlatPlace) (List FlatPlace) (List FlatPlace)
    (List FlatPlace) (List FlatPlace) (List FlatPlace)
    expression_places property_places key_places statement_places block_places catch_places declarator_places
    declarators_places expressions_places properties_places statements_places x)
unfolding expression_places property_places key_places statement_places block_places catch_places declarator_places
    declarators_places expressions_places properties_places statements_places
declarators_turn x =
    fold-roll-Declarators (List FlatPlace) (List FlatPlace) (List FlatPlace) (List FlatPlace) (List FlatPlace) (List FlatPlace) (List FlatPlace)
    (List FlatPlace) (List FlatPlace) (List FlatPlace) (List FlatPlace)
    expression_pieces property_pieces key_pieces statement_pieces block_pieces catch_pieces declarator_pieces
    declarators_pieces expressions_pieces properties_pieces statements_pieces x

pub expressions_turn : (x : Layer Exprs-F)
    → expressions_places (views.roll-Exprs x) ≡ expressions_pieces
    (map-Exprs Expr PropertyDefinition PropertyName Stmt Block Catch Declarator Declarators Exprs PropertyDefinitions
    Stmts
    (List FlatPlace) (List FlatPlace) (List FlatPlace) (List FlatPlace) (List FlatPlace) (List FlatPlace) (List FlatPlace) (List FlatPlace)
    (List FlatPlace) (List FlatPlace) (List FlatPlace)
    expression_places property_places key_places statement_places block_places catch_places declarator_places
    declarators_places expressions_places properties_places statements_places x)
unfolding expression_places property_places key_places statement_places block_places catch_places declarator_places
    declarators_places expressions_places properties_places statements_places
expressions_turn x =
    fold-roll-Exprs (List FlatPlace) (List FlatPlace) (List FlatPlace) (List FlatPlace) (List FlatPlace) (List FlatPlace) (List FlatPlace)
    (List FlatPlace) (List FlatPlace) (List FlatPlace) (List FlatPlace)
    expression_pieces property_pieces key_pieces statement_pieces block_pieces catch_pieces declarator_pieces
    declarators_pieces expressions_pieces properties_pieces statements_pieces x

pub properties_turn : (x : Layer PropertyDefinitions-F)
    → properties_places (views.roll-PropertyDefinitions x) ≡ properties_pieces
    (map-PropertyDefinitions Expr PropertyDefinition PropertyName Stmt Block Catch Declarator Declarators Exprs
    PropertyDefinitions Stmts
    (List FlatPlace) (List FlatPlace) (List FlatPlace) (List FlatPlace) (List FlatPlace) (List FlatPlace) (List FlatPlace) (List FlatPlace)
    (List FlatPlace) (List FlatPlace) (List FlatPlace)
    expression_places property_places key_places statement_places block_places catch_places declarator_places
    declarators_places expressions_places properties_places statements_places x)
unfolding expression_places property_places key_places statement_places block_places catch_places declarator_places
    declarators_places expressions_places properties_places statements_places
properties_turn x =
    fold-roll-PropertyDefinitions (List FlatPlace) (List FlatPlace) (List FlatPlace) (List FlatPlace) (List FlatPlace) (List FlatPlace)
    (List FlatPlace) (List FlatPlace) (List FlatPlace) (List FlatPlace) (List FlatPlace)
    expression_pieces property_pieces key_pieces statement_pieces block_pieces catch_pieces declarator_pieces
    declarators_pieces expressions_pieces properties_pieces statements_pieces x

pub statements_turn : (x : Layer Stmts-F)
    → statements_places (views.roll-Stmts x) ≡ statements_pieces
    (map-Stmts Expr PropertyDefinition PropertyName Stmt Block Catch Declarator Declarators Exprs PropertyDefinitions
    Stmts
    (List FlatPlace) (List FlatPlace) (List FlatPlace) (List FlatPlace) (List FlatPlace) (List FlatPlace) (List FlatPlace) (List FlatPlace)
    (List FlatPlace) (List FlatPlace) (List FlatPlace)
    expression_places property_places key_places statement_places block_places catch_places declarator_places
    declarators_places expressions_places properties_places statements_places x)
unfolding expression_places property_places key_places statement_places block_places catch_places declarator_places
    declarators_places expressions_places properties_places statements_places
statements_turn x =
    fold-roll-Stmts (List FlatPlace) (List FlatPlace) (List FlatPlace) (List FlatPlace) (List FlatPlace) (List FlatPlace) (List FlatPlace)
    (List FlatPlace) (List FlatPlace) (List FlatPlace) (List FlatPlace)
    expression_pieces property_pieces key_pieces statement_pieces block_pieces catch_pieces declarator_pieces
    declarators_pieces expressions_pieces properties_pieces statements_pieces x

-- ---- each form

pub places_this : (node : NodeId) → expression_places (Expr.This node) ≡ node_of node (plain (a kinds.This) ∷ [])
places_this node = ap expression_places (sym (rolls-This node)) ∙ expression_turn (Expr-F.This node)

pub places_name : (node : NodeId) (name : List ℕ)
    → expression_places (Expr.Name node name) ≡ node_of node (plain (an_identifier name) ∷ [])
places_name node name = ap expression_places (sym (rolls-Name node name)) ∙ expression_turn (Expr-F.Name node name)

pub places_number : (node : NodeId) (value : SafeInteger)
    → expression_places (Expr.Number node value) ≡ node_of node (plain (a_symbol (numeric_literal value.value)) ∷ [])
places_number node value =
    ap expression_places (sym (rolls-Number node value)) ∙ expression_turn (Expr-F.Number node value)

pub places_string : (node : NodeId) (value : List ℕ)
    → expression_places (Expr.String node value) ≡ node_of node (plain (a_symbol (string_literal value)) ∷ [])
places_string node value =
    ap expression_places (sym (rolls-String node value)) ∙ expression_turn (Expr-F.String node value)

pub places_boolean : (node : NodeId) (value : Bool)
    → expression_places (Expr.Boolean node value) ≡ node_of node (plain (flat_boolean value) ∷ [])
places_boolean node value =
    ap expression_places (sym (rolls-Boolean node value)) ∙ expression_turn (Expr-F.Boolean node value)

pub places_null : (node : NodeId) → expression_places (Expr.Null node) ≡ node_of node (plain (a kinds.Null) ∷ [])
places_null node = ap expression_places (sym (rolls-Null node)) ∙ expression_turn (Expr-F.Null node)

pub places_array : (node : NodeId) (elements : Exprs)
    → expression_places (views.Array node elements) ≡ node_of node
    (plain (a kinds.LeftBracket) ∷ (expressions_places elements) ∷ may_stand kinds.Comma ∷ plain
    (a kinds.RightBracket) ∷ [])
places_array node elements =
    ap expression_places (sym (rolls-Array node elements)) ∙ expression_turn (Expr-F.Array node elements)

pub places_object : (node : NodeId) (properties : PropertyDefinitions)
    → expression_places (views.Object node properties) ≡ node_of node
    (plain (a kinds.LeftBrace) ∷ (properties_places properties) ∷ may_stand kinds.Comma ∷ plain (a kinds.RightBrace)
    ∷ [])
places_object node properties =
    ap expression_places (sym (rolls-Object node properties)) ∙ expression_turn (Expr-F.Object node properties)

pub places_function : (node : NodeId) (name : Option (List ℕ)) (parameters : List (List ℕ)) (body : Stmts)
    → expression_places (views.Function node name parameters body) ≡ node_of node
    (plain (a kinds.Function) ∷ plain (flat_optional_name name) ∷ plain (flat_parameters parameters) ∷ in_braces
    (statements_places body) ∷ [])
places_function node name parameters body =
    ap expression_places (sym (rolls-Function node name parameters body))
    ∙ expression_turn (Expr-F.Function node name parameters body)

pub places_arrow : (node : NodeId) (parameters : ArrowParameters) (body : Box Expr)
    → expression_places (views.Arrow node parameters body) ≡ node_of node
    (plain (flat_arrow_parameters (parameters_view parameters)) ∷ plain (a kinds.Arrow) ∷
    (expression_places body.value) ∷ [])
places_arrow node parameters body =
    ap expression_places (sym (rolls-Arrow node parameters body)) ∙ expression_turn (Expr-F.Arrow node parameters body)

pub places_arrow_block : (node : NodeId) (parameters : ArrowParameters) (body : Stmts)
    → expression_places (views.ArrowBlock node parameters body) ≡ node_of node
    (plain (flat_arrow_parameters (parameters_view parameters)) ∷ plain (a kinds.Arrow) ∷ in_braces
    (statements_places body) ∷ [])
places_arrow_block node parameters body =
    ap expression_places (sym (rolls-ArrowBlock node parameters body))
    ∙ expression_turn (Expr-F.ArrowBlock node parameters body)

pub places_parenthesized : (node : NodeId) (inner : Box Expr)
    → expression_places (views.Parenthesized node inner) ≡ node_of node
    (plain (a kinds.LeftParenthesis) ∷ (expression_places inner.value) ∷ plain (a kinds.RightParenthesis) ∷ [])
places_parenthesized node inner =
    ap expression_places (sym (rolls-Parenthesized node inner)) ∙ expression_turn (Expr-F.Parenthesized node inner)

pub places_member : (node : NodeId) (object : Box Expr) (name : List ℕ)
    → expression_places (views.Member node object name) ≡ node_of node
    ((expression_places object.value) ∷ plain (a kinds.Dot) ∷ plain (a_symbol (identifier_name name)) ∷ [])
places_member node object name =
    ap expression_places (sym (rolls-Member node object name)) ∙ expression_turn (Expr-F.Member node object name)

pub places_index : (node : NodeId) (object : Box Expr) (key : Box Expr)
    → expression_places (views.Index node object key) ≡ node_of node
    ((expression_places object.value) ∷ plain (a kinds.LeftBracket) ∷ (expression_places key.value) ∷ plain
    (a kinds.RightBracket) ∷ [])
places_index node object key =
    ap expression_places (sym (rolls-Index node object key)) ∙ expression_turn (Expr-F.Index node object key)

pub places_call : (node : NodeId) (callee : Box Expr) (parentheses : NodeId) (arguments : Exprs)
    → expression_places (views.Call node callee parentheses arguments) ≡ node_of node
    ((expression_places callee.value) ∷ node_of parentheses
    (plain (a kinds.LeftParenthesis) ∷ (expressions_places arguments) ∷ may_stand kinds.Comma ∷ plain
    (a kinds.RightParenthesis) ∷ [])
    ∷ [])
places_call node callee parentheses arguments =
    ap expression_places (sym (rolls-Call node callee parentheses arguments))
    ∙ expression_turn (Expr-F.Call node callee parentheses arguments)

pub places_postfix : (node : NodeId) (operator : UpdateOperator) (operand : Box Expr)
    → expression_places (views.Postfix node operator operand) ≡ node_of node
    ((expression_places operand.value) ∷ plain (a (update_kind operator)) ∷ [])
places_postfix node operator operand =
    ap expression_places (sym (rolls-Postfix node operator operand))
    ∙ expression_turn (Expr-F.Postfix node operator operand)

pub places_prefix : (node : NodeId) (operator : UpdateOperator) (operand : Box Expr)
    → expression_places (views.Prefix node operator operand) ≡ node_of node
    (plain (a (update_kind operator)) ∷ (expression_places operand.value) ∷ [])
places_prefix node operator operand =
    ap expression_places (sym (rolls-Prefix node operator operand))
    ∙ expression_turn (Expr-F.Prefix node operator operand)

pub places_unary : (node : NodeId) (operator : UnaryOperator) (operand : Box Expr)
    → expression_places (views.Unary node operator operand) ≡ node_of node
    (plain (a (unary_kind operator)) ∷ (expression_places operand.value) ∷ [])
places_unary node operator operand =
    ap expression_places (sym (rolls-Unary node operator operand))
    ∙ expression_turn (Expr-F.Unary node operator operand)

pub places_binary : (node : NodeId) (operator : BinaryOperator) (left : Box Expr) (right : Box Expr)
    → expression_places (views.Binary node operator left right) ≡ node_of node
    ((expression_places left.value) ∷ plain (a (binary_kind operator)) ∷ (expression_places right.value) ∷ [])
places_binary node operator left right =
    ap expression_places (sym (rolls-Binary node operator left right))
    ∙ expression_turn (Expr-F.Binary node operator left right)

pub places_conditional : (node : NodeId) (test : Box Expr) (consequent : Box Expr) (alternate : Box Expr)
    → expression_places (views.Conditional node test consequent alternate) ≡ node_of node
    ((expression_places test.value) ∷ plain (a kinds.Question) ∷ (expression_places consequent.value) ∷ plain
    (a kinds.Colon) ∷ (expression_places alternate.value) ∷ [])
places_conditional node test consequent alternate =
    ap expression_places (sym (rolls-Conditional node test consequent alternate))
    ∙ expression_turn (Expr-F.Conditional node test consequent alternate)

pub places_assign : (node : NodeId) (operator : AssignmentOperator) (target : Box Expr) (value : Box Expr)
    → expression_places (views.Assign node operator target value) ≡ node_of node
    ((expression_places target.value) ∷ plain (a (assign_kind operator)) ∷ (expression_places value.value) ∷ [])
places_assign node operator target value =
    ap expression_places (sym (rolls-Assign node operator target value))
    ∙ expression_turn (Expr-F.Assign node operator target value)

pub places_comma : (node : NodeId) (expressions : Exprs)
    → expression_places (views.Comma node expressions) ≡ node_of node ((expressions_places expressions) ∷ [])
places_comma node expressions =
    ap expression_places (sym (rolls-Comma node expressions)) ∙ expression_turn (Expr-F.Comma node expressions)

pub places_lexical_declaration : (node : NodeId) (constant : Bool) (declarators : Declarators)
    → statement_places (Stmt.Lexical node constant declarators) ≡ node_of node
    (plain (let_or_const constant) ∷ (declarators_places declarators) ∷ may_stand kinds.Semicolon ∷ [])
places_lexical_declaration node constant declarators =
    ap statement_places (sym (rolls-Lexical node constant declarators))
    ∙ statement_turn (Stmt-F.Lexical node constant declarators)

pub places_empty_statement : (node : NodeId)
    → statement_places (Stmt.Empty node) ≡ node_of node (plain (a kinds.Semicolon) ∷ [])
places_empty_statement node = ap statement_places (sym (rolls-Empty node)) ∙ statement_turn (Stmt-F.Empty node)

pub places_expression_statement : (node : NodeId) (expression : Expr)
    → statement_places (Stmt.Expression node expression) ≡ node_of node
    ((expression_places expression) ∷ may_stand kinds.Semicolon ∷ [])
places_expression_statement node expression =
    ap statement_places (sym (rolls-Expression node expression)) ∙ statement_turn (Stmt-F.Expression node expression)

pub places_do_while_statement : (node : NodeId) (body : Box Stmt) (test : Expr)
    → statement_places (views.DoWhile node body test) ≡ node_of node
    (plain (a kinds.Do) ∷ (statement_places body.value) ∷ plain (a kinds.While) ∷ in_parentheses
    (expression_places test) ∷ may_stand kinds.Semicolon ∷ [])
places_do_while_statement node body test =
    ap statement_places (sym (rolls-DoWhile node body test)) ∙ statement_turn (Stmt-F.DoWhile node body test)

pub places_while_statement : (node : NodeId) (test : Expr) (body : Box Stmt)
    → statement_places (views.While node test body) ≡ node_of node
    (plain (a kinds.While) ∷ in_parentheses (expression_places test) ∷ (statement_places body.value) ∷ [])
places_while_statement node test body =
    ap statement_places (sym (rolls-While node test body)) ∙ statement_turn (Stmt-F.While node test body)

pub places_for_statement : (node : NodeId) (initializer : Option Expr) (test : Option Expr) (update : Option Expr)
    (body : Box Stmt)
    → statement_places (views.For node initializer test update body) ≡ node_of node
    (plain (a kinds.For) ∷ plain (a kinds.LeftParenthesis) ∷ (optional_places initializer) ∷ plain
    (a kinds.Semicolon) ∷ (optional_places test) ∷ plain (a kinds.Semicolon) ∷ (optional_places update) ∷ plain
    (a kinds.RightParenthesis) ∷ (statement_places body.value) ∷ [])
places_for_statement node None None None body =
    ap statement_places (sym (rolls-For node None None None body))
    ∙ statement_turn (Stmt-F.For node None None None body)
places_for_statement node None None (Some update) body =
    ap statement_places (sym (rolls-For node None None (Some update) body))
    ∙ statement_turn (Stmt-F.For node None None (Some update) body)
places_for_statement node None (Some test) None body =
    ap statement_places (sym (rolls-For node None (Some test) None body))
    ∙ statement_turn (Stmt-F.For node None (Some test) None body)
places_for_statement node None (Some test) (Some update) body =
    ap statement_places (sym (rolls-For node None (Some test) (Some update) body))
    ∙ statement_turn (Stmt-F.For node None (Some test) (Some update) body)
places_for_statement node (Some initializer) None None body =
    ap statement_places (sym (rolls-For node (Some initializer) None None body))
    ∙ statement_turn (Stmt-F.For node (Some initializer) None None body)
places_for_statement node (Some initializer) None (Some update) body =
    ap statement_places (sym (rolls-For node (Some initializer) None (Some update) body))
    ∙ statement_turn (Stmt-F.For node (Some initializer) None (Some update) body)
places_for_statement node (Some initializer) (Some test) None body =
    ap statement_places (sym (rolls-For node (Some initializer) (Some test) None body))
    ∙ statement_turn (Stmt-F.For node (Some initializer) (Some test) None body)
places_for_statement node (Some initializer) (Some test) (Some update) body =
    ap statement_places (sym (rolls-For node (Some initializer) (Some test) (Some update) body))
    ∙ statement_turn (Stmt-F.For node (Some initializer) (Some test) (Some update) body)

pub places_for_lexical_statement : (node : NodeId) (constant : Bool) (declarators : Declarators) (test : Option Expr)
    (update : Option Expr) (body : Box Stmt)
    → statement_places (views.ForLexical node constant declarators test update body) ≡ node_of node
    (plain (a kinds.For) ∷ plain (a kinds.LeftParenthesis) ∷ plain (let_or_const constant) ∷
    (declarators_places declarators) ∷ plain (a kinds.Semicolon) ∷ (optional_places test) ∷ plain
    (a kinds.Semicolon) ∷ (optional_places update) ∷ plain (a kinds.RightParenthesis) ∷
    (statement_places body.value) ∷ [])
places_for_lexical_statement node constant declarators None None body =
    ap statement_places (sym (rolls-ForLexical node constant declarators None None body))
    ∙ statement_turn (Stmt-F.ForLexical node constant declarators None None body)
places_for_lexical_statement node constant declarators None (Some update) body =
    ap statement_places (sym (rolls-ForLexical node constant declarators None (Some update) body))
    ∙ statement_turn (Stmt-F.ForLexical node constant declarators None (Some update) body)
places_for_lexical_statement node constant declarators (Some test) None body =
    ap statement_places (sym (rolls-ForLexical node constant declarators (Some test) None body))
    ∙ statement_turn (Stmt-F.ForLexical node constant declarators (Some test) None body)
places_for_lexical_statement node constant declarators (Some test) (Some update) body =
    ap statement_places (sym (rolls-ForLexical node constant declarators (Some test) (Some update) body))
    ∙ statement_turn (Stmt-F.ForLexical node constant declarators (Some test) (Some update) body)

pub places_for_of_statement : (node : NodeId) (constant : Bool) (name : List ℕ) (list : Expr) (body : Box Stmt)
    → statement_places (views.ForOf node constant name list body) ≡ node_of node
    (plain (a kinds.For) ∷ plain (a kinds.LeftParenthesis) ∷ plain (let_or_const constant) ∷ plain
    (an_identifier name) ∷ plain (an_identifier (codes "of")) ∷ (expression_places list) ∷ plain
    (a kinds.RightParenthesis) ∷ (statement_places body.value) ∷ [])
places_for_of_statement node constant name list body =
    ap statement_places (sym (rolls-ForOf node constant name list body))
    ∙ statement_turn (Stmt-F.ForOf node constant name list body)

pub places_continue_statement : (node : NodeId)
    → statement_places (Stmt.Continue node) ≡ node_of node (plain (a kinds.Continue) ∷ may_stand kinds.Semicolon ∷ [])
places_continue_statement node = ap statement_places (sym (rolls-Continue node)) ∙ statement_turn (Stmt-F.Continue node)

pub places_break_statement : (node : NodeId)
    → statement_places (Stmt.Break node) ≡ node_of node (plain (a kinds.Break) ∷ may_stand kinds.Semicolon ∷ [])
places_break_statement node = ap statement_places (sym (rolls-Break node)) ∙ statement_turn (Stmt-F.Break node)

pub places_return_statement : (node : NodeId) (value : Option Expr)
    → statement_places (views.Return node value) ≡ node_of node
    (plain (a kinds.Return) ∷ (optional_places value) ∷ may_stand kinds.Semicolon ∷ [])
places_return_statement node None =
    ap statement_places (sym (rolls-Return node None)) ∙ statement_turn (Stmt-F.Return node None)
places_return_statement node (Some value) =
    ap statement_places (sym (rolls-Return node (Some value))) ∙ statement_turn (Stmt-F.Return node (Some value))

pub places_throw_statement : (node : NodeId) (value : Expr)
    → statement_places (Stmt.Throw node value) ≡ node_of node
    (plain (a kinds.Throw) ∷ (expression_places value) ∷ may_stand kinds.Semicolon ∷ [])
places_throw_statement node value =
    ap statement_places (sym (rolls-Throw node value)) ∙ statement_turn (Stmt-F.Throw node value)

pub places_try_statement : (node : NodeId) (block : Block) (handler : Option Catch) (finalizer : Option Block)
    → statement_places (views.Try node block handler finalizer) ≡ node_of node
    (plain (a kinds.Try) ∷ (block_places block) ∷ (handler_places handler) ∷ (finalizer_places finalizer) ∷ [])
places_try_statement node block None None =
    ap statement_places (sym (rolls-Try node block None None)) ∙ statement_turn (Stmt-F.Try node block None None)
places_try_statement node block None (Some finalizer) =
    ap statement_places (sym (rolls-Try node block None (Some finalizer)))
    ∙ statement_turn (Stmt-F.Try node block None (Some finalizer))
places_try_statement node block (Some handler) None =
    ap statement_places (sym (rolls-Try node block (Some handler) None))
    ∙ statement_turn (Stmt-F.Try node block (Some handler) None)
places_try_statement node block (Some handler) (Some finalizer) =
    ap statement_places (sym (rolls-Try node block (Some handler) (Some finalizer)))
    ∙ statement_turn (Stmt-F.Try node block (Some handler) (Some finalizer))

pub places_debugger_statement : (node : NodeId)
    → statement_places (Stmt.Debugger node) ≡ node_of node (plain (a kinds.Debugger) ∷ may_stand kinds.Semicolon ∷ [])
places_debugger_statement node = ap statement_places (sym (rolls-Debugger node)) ∙ statement_turn (Stmt-F.Debugger node)

pub places_function_declaration : (node : NodeId) (name : List ℕ) (parameters : List (List ℕ)) (body : Stmts)
    → statement_places (views.FunctionDeclaration node name parameters body) ≡ node_of node
    (plain (a kinds.Function) ∷ plain (an_identifier name) ∷ plain (flat_parameters parameters) ∷ in_braces
    (statements_places body) ∷ [])
places_function_declaration node name parameters body =
    ap statement_places (sym (rolls-FunctionDeclaration node name parameters body))
    ∙ statement_turn (Stmt-F.FunctionDeclaration node name parameters body)

pub places_word_key : (name : List ℕ) → key_places (PropertyName.Word name) ≡ plain (a_symbol (identifier_name name))
places_word_key name = ap key_places (sym (rolls-Word name)) ∙ key_turn (PropertyName-F.Word name)

pub places_string_key : (value : List ℕ)
    → key_places (PropertyName.StringLiteral value) ≡ plain (a_symbol (string_literal value))
places_string_key value =
    ap key_places (sym (rolls-StringLiteral value)) ∙ key_turn (PropertyName-F.StringLiteral value)

pub places_number_key : (value : SafeInteger)
    → key_places (PropertyName.NumericLiteral value) ≡ plain (a_symbol (numeric_literal value.value))
places_number_key value =
    ap key_places (sym (rolls-NumericLiteral value)) ∙ key_turn (PropertyName-F.NumericLiteral value)

pub places_computed_key : (key : Expr)
    → key_places (PropertyName.Computed key) ≡ in_turn
    (plain (a kinds.LeftBracket) ∷ (expression_places key) ∷ plain (a kinds.RightBracket) ∷ [])
places_computed_key key = ap key_places (sym (rolls-Computed key)) ∙ key_turn (PropertyName-F.Computed key)

pub places_shorthand_property : (name : List ℕ)
    → property_places (PropertyDefinition.Shorthand name) ≡ plain (an_identifier name)
places_shorthand_property name =
    ap property_places (sym (rolls-Shorthand name)) ∙ property_turn (PropertyDefinition-F.Shorthand name)

pub places_property : (key : PropertyName) (value : Expr)
    → property_places (PropertyDefinition.Value key value) ≡ in_turn
    ((key_places key) ∷ plain (a kinds.Colon) ∷ (expression_places value) ∷ [])
places_property key value =
    ap property_places (sym (rolls-Value key value)) ∙ property_turn (PropertyDefinition-F.Value key value)

pub places_method : (node : NodeId) (key : PropertyName) (parameters : List (List ℕ)) (body : Stmts)
    → property_places (views.Method node key parameters body) ≡ node_of node
    ((key_places key) ∷ plain (flat_parameters parameters) ∷ in_braces (statements_places body) ∷ [])
places_method node key parameters body =
    ap property_places (sym (rolls-Method node key parameters body))
    ∙ property_turn (PropertyDefinition-F.Method node key parameters body)

pub places_block_statement : (block : Block) → statement_places (views.Block block) ≡ block_places block
places_block_statement block = ap statement_places (sym (rolls-Block block)) ∙ statement_turn (Stmt-F.Block block)

pub places_if_then : (node : NodeId) (test : Expr) (consequent : Box Stmt)
    → statement_places (views.If node test consequent None) ≡ node_of node
    (plain (a kinds.If) ∷ in_parentheses (expression_places test) ∷ (statement_places consequent.value) ∷ [])
places_if_then node test consequent =
    ap statement_places (sym (rolls-If node test consequent None))
    ∙ statement_turn (Stmt-F.If node test consequent None)

pub places_if_else : (node : NodeId) (test : Expr) (consequent alternate : Box Stmt)
    → statement_places (views.If node test consequent (Some alternate)) ≡ node_of node
    (plain (a kinds.If) ∷ in_parentheses (expression_places test) ∷ (statement_places consequent.value) ∷ plain
    (a kinds.Else) ∷ (statement_places alternate.value) ∷ [])
places_if_else node test consequent alternate =
    ap statement_places (sym (rolls-If node test consequent (Some alternate)))
    ∙ statement_turn (Stmt-F.If node test consequent (Some alternate))

pub places_block : (node : NodeId) (body : Stmts)
    → block_places (views.roll-Block (record { node = node; body = body })) ≡ node_of node
    (in_braces (statements_places body) ∷ [])
places_block node body = block_turn (record { node = node; body = body })

pub places_catch : (parameter : Option (List ℕ)) (block : Block)
    → catch_places (views.roll-Catch (record { parameter = parameter; block = block })) ≡ in_turn
    (plain (a kinds.Catch) ∷ plain (flat_catch_parameter parameter) ∷ block_places block ∷ [])
places_catch parameter block = catch_turn (record { parameter = parameter; block = block })

pub places_declarator : (name : List ℕ) (initializer : Option Expr)
    → declarator_places (views.roll-Declarator (record { name = name; initializer = initializer })) ≡ plain
    (an_identifier name) ++ assign_if_some (option_map expression_places initializer)
places_declarator name None = declarator_turn (record { name = name; initializer = None })
places_declarator name (Some initializer) = declarator_turn (record { name = name; initializer = Some initializer })

pub places_expressions : (items : Vec Expr)
    → expressions_places (views.roll-Exprs (record { items = items })) ≡ with_commas (map expression_places items.items)
places_expressions items = expressions_turn (record { items = items })

pub places_statements : (items : Vec Stmt)
    → statements_places (views.roll-Stmts (record { items = items })) ≡ in_turn (map statement_places items.items)
places_statements items = statements_turn (record { items = items })

pub places_properties : (items : Vec PropertyDefinition)
    → properties_places (views.roll-PropertyDefinitions (record { items = items })) ≡ with_commas
    (map property_places items.items)
places_properties items = properties_turn (record { items = items })

pub places_declarators : (items : Vec Declarator)
    → declarators_places (views.roll-Declarators (record { items = items })) ≡ with_commas
    (map declarator_places items.items)
places_declarators items = declarators_turn (record { items = items })
