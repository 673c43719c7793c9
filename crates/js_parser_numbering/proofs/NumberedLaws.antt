-- What a tree without numbers says of the terms of the parser's tree, whose nodes are numbered in the order in which
-- they end.
use Rattle.std.proofs.Common.{◌≡◌, ℕ, ◌+◌, List, [], ◌∷◌, Option, None, Some, map, option_map, refl, ap, codes}
use Rattle.std.specs.List.{range_with_len}
use Rattle.js_tree.specs.declared.tree.Expr.{Expr}
use Rattle.js_tree.specs.declared.tree.PropertyDefinition.{PropertyDefinition}
use Rattle.js_tree.specs.declared.tree.PropertyName.{PropertyName}
use Rattle.js_tree.specs.declared.tree.Stmt.{Stmt}
use Rattle.js_tree.specs.declared.tree.Block.{Block}
use Rattle.js_tree.specs.declared.tree.Catch.{Catch}
use Rattle.js_tree.specs.declared.tree.Declarator.{Declarator}
use Rattle.js_tree.specs.declared.tree.Declarators.{Declarators}
use Rattle.js_tree.specs.declared.tree.Exprs.{Exprs}
use Rattle.js_tree.specs.declared.tree.PropertyDefinitions.{PropertyDefinitions}
use Rattle.js_tree.specs.declared.tree.Stmts.{Stmts}
use Rattle.js_lexer.specs.declared.token.TokenKind.TheVariants as kinds
use Rattle.js_tree.specs.declared.tree.Expr.TheOpen as layers
use Rattle.js_tree.specs.declared.tree.Expr.TheOpen.{Expr-F, Stmt-F, PropertyName-F, PropertyDefinition-F}
use Rattle.js_tree.specs.declared.tree.Expr.TheFolds.{map-Expr, map-PropertyDefinition, map-PropertyName, map-Stmt, map-Block, map-Catch, map-Declarator, map-Declarators, map-Exprs, map-PropertyDefinitions, map-Stmts}
use Rattle.js_tree.specs.declared.tree.Expr.TheViews as views
use Rattle.js_tree.specs.Trees.{Expression}
use Rattle.js_tree.specs.Views.{parameters_view, expressions, statements, properties, declarators, optional, handler, finalizer, expression_step, property_step, key_step, statement_step, block_step, catch_step, declarator_step, declarators_step, expressions_step, properties_step, statements_step, expression_view, property_view, key_view, statement_view, block_view, catch_view, declarator_view, declarators_view, expressions_view, properties_view, statements_view}
use Rattle.js_tree.proofs.ViewLemmas.{expression_roll, property_roll, key_roll, statement_roll, block_roll, catch_roll, declarator_roll, declarators_roll, expressions_roll, properties_roll, statements_roll}
use Rattle.js_parser_language.specs.Tokens.{identifier_name, numeric_literal, string_literal}
use Rattle.js_parser_language.specs.Flat.{a, an_identifier, unary_kind, update_kind, binary_kind, assign_kind, flat_parameters, flat_arrow_parameters, flat_optional_name, flat_catch_parameter, flat_boolean, let_or_const}
use Rattle.js_parser_language.specs.Places.{FlatPlace, a_symbol, may_stand, in_braces, in_parentheses, numbers_of, if_some, finally_if_some, plain, node_of, expression_places, property_places, key_places, statement_places, block_places, catch_places, declarator_places, declarators_places, expressions_places, properties_places, statements_places, expression_pieces, property_pieces, key_pieces, statement_pieces, block_pieces, catch_pieces, declarator_pieces, declarators_pieces, expressions_pieces, properties_pieces, statements_pieces}
use Rattle.js_parser_language.proofs.PlaceLemmas as standing
use Rattle.js_semantics.specs.Makers.{MadeExpression, MadeCatch, items_of}
use Rattle.js_semantics.specs.Sources.{expression_layer, property_layer, key_layer, statement_layer, block_layer, catch_layer, declarator_layer, declarators_layer, expressions_layer, properties_layer, statements_layer, expression_source, property_source, key_source, statement_source, block_source, catch_source, declarator_source, declarators_source, expressions_source, properties_source, statements_source}
use Rattle.js_tree.proofs.ViewLemmas.{Layer}
use Rattle.js_semantics.proofs.TreeFolds.{Former, Mapper, Claims, Known, known_trees, Grows, every-expression}
use Rattle.js_semantics.proofs.SourceFolds as sources
use Rattle.js_semantics.proofs.SourceFolds.{made_parts, clean_parts}
use Rattle.js_parser_numbering.specs.Numbering.{Numbered, Numbering}
use Rattle.js_parser_numbering.specs.Numbered.{block_node, expression_numbered, expressions_numbered, optional_numbered, key_numbered, property_numbered, properties_numbered, declarator_numbered, declarators_numbered, statement_numbered, handler_numbered, statements_numbered, numbered_made}
use Rattle.js_parser_numbering.proofs.CountLemmas.{Fits, give_fits, both_fits, of_part_fits, end_fits, carried, numbers_in, turn_fits, commas_fit, form_fits, lone_fits, quiet_fits, quiet_end, braces_fit, parentheses_fit, range_counts}

-- ---- what is claimed of a tree of each type

abbrev fits : Claims
fits = record {
  of_expression =
      λ x. Fits (expression_numbered (expression_view x)) (numbers_of (expression_places x)) (expression_source x);
  of_property = λ x. Fits (property_numbered (property_view x)) (numbers_of (property_places x)) (property_source x);
  of_key = λ x. Fits (key_numbered (key_view x)) (numbers_of (key_places x)) (key_source x);
  of_statement =
      λ x. Fits (statement_numbered (statement_view x)) (numbers_of (statement_places x)) (statement_source x);
  of_block = λ x. Fits (block_node (statements_numbered (block_view x))) (numbers_of (block_places x)) (block_source x);
  of_catch = λ x. Fits (handler_numbered (catch_view x)) (numbers_of (catch_places x)) (Some (catch_source x));
  of_declarator =
      λ x. Fits (declarator_numbered (declarator_view x)) (numbers_of (declarator_places x)) (declarator_source x);
  of_declarators =
      λ x. Fits (declarators_numbered (declarators_view x)) (numbers_of (declarators_places x)) (declarators_source x);
  of_expressions =
      λ x. Fits (expressions_numbered (expressions_view x)) (numbers_of (expressions_places x)) (expressions_source x);
  of_properties =
      λ x. Fits (properties_numbered (properties_view x)) (numbers_of (properties_places x)) (properties_source x);
  of_statements =
      λ x. Fits (statements_numbered (statements_view x)) (numbers_of (statements_places x)) (statements_source x);
}

-- ---- one level of each type

abbrev pub PlaceLayer : Former → Type 0
PlaceLayer F =
    F (List FlatPlace) (List FlatPlace) (List FlatPlace) (List FlatPlace) (List FlatPlace) (List FlatPlace) (List FlatPlace) (List FlatPlace)
    (List FlatPlace) (List FlatPlace) (List FlatPlace)

abbrev pub place_parts : (F : Former) → Mapper F → Layer F → PlaceLayer F
place_parts F change =
    change Expr PropertyDefinition PropertyName Stmt Block Catch Declarator Declarators Exprs PropertyDefinitions Stmts
    (List FlatPlace) (List FlatPlace) (List FlatPlace) (List FlatPlace) (List FlatPlace) (List FlatPlace) (List FlatPlace) (List FlatPlace)
    (List FlatPlace) (List FlatPlace) (List FlatPlace)
    expression_places property_places key_places statement_places block_places catch_places declarator_places
    declarators_places expressions_places properties_places statements_places

-- trees of which it is known
abbrev trees_of : (F : Former) → Mapper F → Known fits F → Layer F
trees_of F change = known_trees fits F change

-- ---- each form

-- a function's body in its braces, and a test in its parentheses
body-known : (body : (x : Stmts) × fits.of_statements x)
    → Fits (statements_numbered (statements_view body.0)) (numbers_of (in_braces (statements_places body.0)))
    (statements_source body.0)
body-known body =
    braces_fit (statements_numbered (statements_view body.0)) (statements_places body.0) (statements_source body.0)
    body.1

test-known : (e : (x : Expr) × fits.of_expression x)
    → Fits (expression_numbered (expression_view e.0)) (numbers_of (in_parentheses (expression_places e.0)))
    (expression_source e.0)
test-known e =
    parentheses_fit (expression_numbered (expression_view e.0)) (expression_places e.0) (expression_source e.0) e.1

expression-known : (y : Known fits Expr-F)
    → Fits (expression_numbered (expression_step (clean_parts Expr-F map-Expr (trees_of Expr-F map-Expr y))))
    (numbers_of (expression_pieces (place_parts Expr-F map-Expr (trees_of Expr-F map-Expr y))))
    (expression_layer (made_parts Expr-F map-Expr (trees_of Expr-F map-Expr y)))
expression-known (Expr-F.This node) = lone_fits _ node (plain (a kinds.This) ∷ []) refl
expression-known (Expr-F.Name node name) = lone_fits _ node (plain (an_identifier name) ∷ []) refl
expression-known (Expr-F.Number node value) =
    lone_fits _ node (plain (a_symbol (numeric_literal value.value)) ∷ []) refl
expression-known (Expr-F.String node value) = lone_fits _ node (plain (a_symbol (string_literal value)) ∷ []) refl
expression-known (Expr-F.Boolean node value) =
    lone_fits _ node (plain (flat_boolean value) ∷ []) (quiet_end (flat_boolean value))
expression-known (Expr-F.Null node) = lone_fits _ node (plain (a kinds.Null) ∷ []) refl
expression-known (Expr-F.Array node elements) =
    form_fits _ node _
    (plain (a kinds.LeftBracket) ∷ (expressions_places elements.0) ∷ may_stand kinds.Comma ∷ plain
    (a kinds.RightBracket) ∷ [])
    _ (end_fits _ _ _ elements.1)
expression-known (Expr-F.Object node properties) =
    form_fits _ node _
    (plain (a kinds.LeftBrace) ∷ (properties_places properties.0) ∷ may_stand kinds.Comma ∷ plain
    (a kinds.RightBrace) ∷ [])
    _ (end_fits _ _ _ properties.1)
expression-known (Expr-F.Function node name parameters body) =
    form_fits _ node _
    (plain (a kinds.Function) ∷ plain (flat_optional_name name) ∷ plain (flat_parameters parameters) ∷ in_braces
    (statements_places body.0) ∷ [])
    _ (quiet_fits (flat_optional_name name) _ _ _
    (quiet_fits (flat_parameters parameters) _ _ _ (end_fits _ _ _ (body-known body))))
expression-known (Expr-F.Arrow node parameters body) =
    form_fits _ node _
    (plain (flat_arrow_parameters (parameters_view parameters)) ∷ plain (a kinds.Arrow) ∷
    (expression_places body.value.0) ∷ [])
    _ (quiet_fits (flat_arrow_parameters (parameters_view parameters)) _ _ _ (end_fits _ _ _ body.value.1))
expression-known (Expr-F.ArrowBlock node parameters body) =
    form_fits _ node _
    (plain (flat_arrow_parameters (parameters_view parameters)) ∷ plain (a kinds.Arrow) ∷ in_braces
    (statements_places body.0) ∷ [])
    _ (quiet_fits (flat_arrow_parameters (parameters_view parameters)) _ _ _ (end_fits _ _ _ (body-known body)))
expression-known (Expr-F.Parenthesized node inner) =
    form_fits _ node _
    (plain (a kinds.LeftParenthesis) ∷ (expression_places inner.value.0) ∷ plain (a kinds.RightParenthesis) ∷ []) _
    (end_fits _ _ _ inner.value.1)
expression-known (Expr-F.Member node object name) =
    form_fits _ node _
    ((expression_places object.value.0) ∷ plain (a kinds.Dot) ∷ plain (a_symbol (identifier_name name)) ∷ []) _
    (end_fits _ _ _ object.value.1)
expression-known (Expr-F.Index node object key) =
    form_fits _ node _
    ((expression_places object.value.0) ∷ plain (a kinds.LeftBracket) ∷ (expression_places key.value.0) ∷ plain
    (a kinds.RightBracket) ∷ [])
    _ (both_fits _ _ _ _ _ _ object.value.1 (end_fits _ _ _ key.value.1))
expression-known (Expr-F.Call node callee parentheses arguments) =
    form_fits _ node _
    ((expression_places callee.value.0) ∷ node_of parentheses
    (plain (a kinds.LeftParenthesis) ∷ (expressions_places arguments.0) ∷ may_stand kinds.Comma ∷ plain
    (a kinds.RightParenthesis) ∷ [])
    ∷ [])
    _ (both_fits _ _ _ _ _ _ callee.value.1
    (end_fits _ _ _
    (form_fits _ parentheses _
    (plain (a kinds.LeftParenthesis) ∷ (expressions_places arguments.0) ∷ may_stand kinds.Comma ∷ plain
    (a kinds.RightParenthesis) ∷ [])
    _ (end_fits _ _ _ arguments.1))))
expression-known (Expr-F.Postfix node operator operand) =
    form_fits _ node _ ((expression_places operand.value.0) ∷ plain (a (update_kind operator)) ∷ []) _
    (end_fits _ _ _ operand.value.1)
expression-known (Expr-F.Prefix node operator operand) =
    form_fits _ node _ (plain (a (update_kind operator)) ∷ (expression_places operand.value.0) ∷ []) _
    (end_fits _ _ _ operand.value.1)
expression-known (Expr-F.Unary node operator operand) =
    form_fits _ node _ (plain (a (unary_kind operator)) ∷ (expression_places operand.value.0) ∷ []) _
    (end_fits _ _ _ operand.value.1)
expression-known (Expr-F.Binary node operator left right) =
    form_fits _ node _
    ((expression_places left.value.0) ∷ plain (a (binary_kind operator)) ∷ (expression_places right.value.0) ∷ [])
    _ (both_fits _ _ _ _ _ _ left.value.1 (end_fits _ _ _ right.value.1))
expression-known (Expr-F.Conditional node test consequent alternate) =
    form_fits _ node _
    ((expression_places test.value.0) ∷ plain (a kinds.Question) ∷ (expression_places consequent.value.0) ∷ plain
    (a kinds.Colon) ∷ (expression_places alternate.value.0) ∷ [])
    _ (both_fits _ _ _ _ _ _ test.value.1
    (both_fits _ _ _ _ _ _ consequent.value.1 (end_fits _ _ _ alternate.value.1)))
expression-known (Expr-F.Assign node operator target value) =
    form_fits _ node _
    ((expression_places target.value.0) ∷ plain (a (assign_kind operator)) ∷ (expression_places value.value.0) ∷ [])
    _ (both_fits _ _ _ _ _ _ target.value.1 (end_fits _ _ _ value.value.1))
expression-known (Expr-F.Comma node expressions) =
    form_fits _ node _ ((expressions_places expressions.0) ∷ []) _ (end_fits _ _ _ expressions.1)

property-known : (y : Known fits PropertyDefinition-F)
    → Fits (property_numbered
    (property_step
    (clean_parts PropertyDefinition-F map-PropertyDefinition
    (trees_of PropertyDefinition-F map-PropertyDefinition y))))
    (numbers_of
    (property_pieces
    (place_parts PropertyDefinition-F map-PropertyDefinition
    (trees_of PropertyDefinition-F map-PropertyDefinition y))))
    (property_layer
    (made_parts PropertyDefinition-F map-PropertyDefinition
    (trees_of PropertyDefinition-F map-PropertyDefinition y)))
property-known (PropertyDefinition-F.Shorthand name) = give_fits _
property-known (PropertyDefinition-F.Value key value) =
    turn_fits _ ((key_places key.0) ∷ plain (a kinds.Colon) ∷ (expression_places value.0) ∷ []) _
    (of_part_fits _ _ _ _ (both_fits _ _ _ _ _ _ key.1 (end_fits _ _ _ value.1)))
property-known (PropertyDefinition-F.Method node key parameters body) =
    form_fits _ node _
    ((key_places key.0) ∷ plain (flat_parameters parameters) ∷ in_braces (statements_places body.0) ∷ []) _
    (both_fits _ _ _ _ _ _ key.1 (quiet_fits (flat_parameters parameters) _ _ _ (end_fits _ _ _ (body-known body))))

key-known : (y : Known fits PropertyName-F)
    → Fits (key_numbered
    (key_step (clean_parts PropertyName-F map-PropertyName (trees_of PropertyName-F map-PropertyName y))))
    (numbers_of
    (key_pieces (place_parts PropertyName-F map-PropertyName (trees_of PropertyName-F map-PropertyName y))))
    (key_layer (made_parts PropertyName-F map-PropertyName (trees_of PropertyName-F map-PropertyName y)))
key-known (PropertyName-F.Word name) = give_fits _
key-known (PropertyName-F.StringLiteral value) = give_fits _
key-known (PropertyName-F.NumericLiteral value) = give_fits _
key-known (PropertyName-F.Computed key) =
    turn_fits _ (plain (a kinds.LeftBracket) ∷ (expression_places key.0) ∷ plain (a kinds.RightBracket) ∷ []) _
    (of_part_fits _ _ _ _ (end_fits _ _ _ key.1))

-- an expression that is known, if there is one
abbrev SomeKnown : Type 0
SomeKnown = Option ((x : Expr) × fits.of_expression x)

abbrev some_numbered : SomeKnown → Numbering (Option MadeExpression)
some_numbered o = optional_numbered (optional (option_map (λ e. expression_view e.0) o))

abbrev some_places : SomeKnown → List FlatPlace
some_places o = if_some (option_map (λ e. expression_places e.0) o)

abbrev some_made : SomeKnown → Option MadeExpression
some_made o = option_map (λ e. expression_source e.0) o

optional-known : (o : SomeKnown) → Fits (some_numbered o) (numbers_of (some_places o)) (some_made o)
optional-known None = give_fits _
optional-known (Some e) = of_part_fits _ _ _ _ e.1

statement-known : (y : Known fits Stmt-F)
    → Fits (statement_numbered (statement_step (clean_parts Stmt-F map-Stmt (trees_of Stmt-F map-Stmt y))))
    (numbers_of (statement_pieces (place_parts Stmt-F map-Stmt (trees_of Stmt-F map-Stmt y))))
    (statement_layer (made_parts Stmt-F map-Stmt (trees_of Stmt-F map-Stmt y)))
statement-known (Stmt-F.Block block) = of_part_fits _ _ _ _ block.1
statement-known (Stmt-F.Lexical node constant declarators) =
    form_fits _ node _
    (plain (let_or_const constant) ∷ (declarators_places declarators.0) ∷ may_stand kinds.Semicolon ∷ []) _
    (quiet_fits (let_or_const constant) _ _ _ (end_fits _ _ _ declarators.1))
statement-known (Stmt-F.Empty node) = lone_fits _ node (plain (a kinds.Semicolon) ∷ []) refl
statement-known (Stmt-F.Expression node expression) =
    form_fits _ node _ ((expression_places expression.0) ∷ may_stand kinds.Semicolon ∷ []) _
    (end_fits _ _ _ expression.1)
statement-known (Stmt-F.If node test consequent None) =
    form_fits _ node _
    (plain (a kinds.If) ∷ in_parentheses (expression_places test.0) ∷ (statement_places consequent.value.0) ∷ []) _
    (both_fits _ _ _ _ _ _ (test-known test) (end_fits _ _ _ consequent.value.1))
statement-known (Stmt-F.If node test consequent (Some alternate)) =
    form_fits _ node _
    (plain (a kinds.If) ∷ in_parentheses (expression_places test.0) ∷ (statement_places consequent.value.0) ∷ plain
    (a kinds.Else) ∷ (statement_places alternate.value.0) ∷ [])
    _ (both_fits _ _ _ _ _ _ (test-known test)
    (both_fits _ _ _ _ _ _ consequent.value.1 (end_fits _ _ _ alternate.value.1)))
statement-known (Stmt-F.DoWhile node body test) =
    form_fits _ node _
    (plain (a kinds.Do) ∷ (statement_places body.value.0) ∷ plain (a kinds.While) ∷ in_parentheses
    (expression_places test.0) ∷ may_stand kinds.Semicolon ∷ [])
    _ (both_fits _ _ _ _ _ _ body.value.1 (end_fits _ _ _ (test-known test)))
statement-known (Stmt-F.While node test body) =
    form_fits _ node _
    (plain (a kinds.While) ∷ in_parentheses (expression_places test.0) ∷ (statement_places body.value.0) ∷ []) _
    (both_fits _ _ _ _ _ _ (test-known test) (end_fits _ _ _ body.value.1))
statement-known (Stmt-F.For node None None None body) =
    form_fits _ node _
    (plain (a kinds.For) ∷ plain (a kinds.LeftParenthesis) ∷ (if_some None) ∷ plain (a kinds.Semicolon) ∷
    (if_some None) ∷ plain (a kinds.Semicolon) ∷ (if_some None) ∷ plain (a kinds.RightParenthesis) ∷
    (statement_places body.value.0) ∷ [])
    _ (both_fits _ _ _ _ _ _ (optional-known None)
    (both_fits _ _ _ _ _ _ (optional-known None)
    (both_fits _ _ _ _ _ _ (optional-known None) (end_fits _ _ _ body.value.1))))
statement-known (Stmt-F.For node None None (Some update) body) =
    form_fits _ node _
    (plain (a kinds.For) ∷ plain (a kinds.LeftParenthesis) ∷ (if_some None) ∷ plain (a kinds.Semicolon) ∷
    (if_some None) ∷ plain (a kinds.Semicolon) ∷
    (if_some (option_map (λ e. expression_places e.0) (Some update))) ∷ plain (a kinds.RightParenthesis) ∷
    (statement_places body.value.0) ∷ [])
    _ (both_fits _ _ _ _ _ _ (optional-known None)
    (both_fits _ _ _ _ _ _ (optional-known None)
    (both_fits _ _ _ _ _ _ (optional-known (Some update)) (end_fits _ _ _ body.value.1))))
statement-known (Stmt-F.For node None (Some test) None body) =
    form_fits _ node _
    (plain (a kinds.For) ∷ plain (a kinds.LeftParenthesis) ∷ (if_some None) ∷ plain (a kinds.Semicolon) ∷
    (if_some (option_map (λ e. expression_places e.0) (Some test))) ∷ plain (a kinds.Semicolon) ∷
    (if_some None) ∷ plain (a kinds.RightParenthesis) ∷ (statement_places body.value.0) ∷ [])
    _ (both_fits _ _ _ _ _ _ (optional-known None)
    (both_fits _ _ _ _ _ _ (optional-known (Some test))
    (both_fits _ _ _ _ _ _ (optional-known None) (end_fits _ _ _ body.value.1))))
statement-known (Stmt-F.For node None (Some test) (Some update) body) =
    form_fits _ node _
    (plain (a kinds.For) ∷ plain (a kinds.LeftParenthesis) ∷ (if_some None) ∷ plain (a kinds.Semicolon) ∷
    (if_some (option_map (λ e. expression_places e.0) (Some test))) ∷ plain (a kinds.Semicolon) ∷
    (if_some (option_map (λ e. expression_places e.0) (Some update))) ∷ plain (a kinds.RightParenthesis) ∷
    (statement_places body.value.0) ∷ [])
    _ (both_fits _ _ _ _ _ _ (optional-known None)
    (both_fits _ _ _ _ _ _ (optional-known (Some test))
    (both_fits _ _ _ _ _ _ (optional-known (Some update)) (end_fits _ _ _ body.value.1))))
statement-known (Stmt-F.For node (Some initializer) None None body) =
    form_fits _ node _
    (plain (a kinds.For) ∷ plain (a kinds.LeftParenthesis) ∷
    (if_some (option_map (λ e. expression_places e.0) (Some initializer))) ∷ plain (a kinds.Semicolon) ∷
    (if_some None) ∷ plain (a kinds.Semicolon) ∷ (if_some None) ∷ plain (a kinds.RightParenthesis) ∷
    (statement_places body.value.0) ∷ [])
    _ (both_fits _ _ _ _ _ _ (optional-known (Some initializer))
    (both_fits _ _ _ _ _ _ (optional-known None)
    (both_fits _ _ _ _ _ _ (optional-known None) (end_fits _ _ _ body.value.1))))
statement-known (Stmt-F.For node (Some initializer) None (Some update) body) =
    form_fits _ node _
    (plain (a kinds.For) ∷ plain (a kinds.LeftParenthesis) ∷
    (if_some (option_map (λ e. expression_places e.0) (Some initializer))) ∷ plain (a kinds.Semicolon) ∷
    (if_some None) ∷ plain (a kinds.Semicolon) ∷
    (if_some (option_map (λ e. expression_places e.0) (Some update))) ∷ plain (a kinds.RightParenthesis) ∷
    (statement_places body.value.0) ∷ [])
    _ (both_fits _ _ _ _ _ _ (optional-known (Some initializer))
    (both_fits _ _ _ _ _ _ (optional-known None)
    (both_fits _ _ _ _ _ _ (optional-known (Some update)) (end_fits _ _ _ body.value.1))))
statement-known (Stmt-F.For node (Some initializer) (Some test) None body) =
    form_fits _ node _
    (plain (a kinds.For) ∷ plain (a kinds.LeftParenthesis) ∷
    (if_some (option_map (λ e. expression_places e.0) (Some initializer))) ∷ plain (a kinds.Semicolon) ∷
    (if_some (option_map (λ e. expression_places e.0) (Some test))) ∷ plain (a kinds.Semicolon) ∷
    (if_some None) ∷ plain (a kinds.RightParenthesis) ∷ (statement_places body.value.0) ∷ [])
    _ (both_fits _ _ _ _ _ _ (optional-known (Some initializer))
    (both_fits _ _ _ _ _ _ (optional-known (Some test))
    (both_fits _ _ _ _ _ _ (optional-known None) (end_fits _ _ _ body.value.1))))
statement-known (Stmt-F.For node (Some initializer) (Some test) (Some update) body) =
    form_fits _ node _
    (plain (a kinds.For) ∷ plain (a kinds.LeftParenthesis) ∷
    (if_some (option_map (λ e. expression_places e.0) (Some initializer))) ∷ plain (a kinds.Semicolon) ∷
    (if_some (option_map (λ e. expression_places e.0) (Some test))) ∷ plain (a kinds.Semicolon) ∷
    (if_some (option_map (λ e. expression_places e.0) (Some update))) ∷ plain (a kinds.RightParenthesis) ∷
    (statement_places body.value.0) ∷ [])
    _ (both_fits _ _ _ _ _ _ (optional-known (Some initializer))
    (both_fits _ _ _ _ _ _ (optional-known (Some test))
    (both_fits _ _ _ _ _ _ (optional-known (Some update)) (end_fits _ _ _ body.value.1))))
statement-known (Stmt-F.ForLexical node constant declarators None None body) =
    form_fits _ node _
    (plain (a kinds.For) ∷ plain (a kinds.LeftParenthesis) ∷ plain (let_or_const constant) ∷
    (declarators_places declarators.0) ∷ plain (a kinds.Semicolon) ∷ (if_some None) ∷ plain (a kinds.Semicolon)
    ∷ (if_some None) ∷ plain (a kinds.RightParenthesis) ∷ (statement_places body.value.0) ∷ [])
    _ (quiet_fits (let_or_const constant) _ _ _
    (both_fits _ _ _ _ _ _ declarators.1
    (both_fits _ _ _ _ _ _ (optional-known None)
    (both_fits _ _ _ _ _ _ (optional-known None) (end_fits _ _ _ body.value.1)))))
statement-known (Stmt-F.ForLexical node constant declarators None (Some update) body) =
    form_fits _ node _
    (plain (a kinds.For) ∷ plain (a kinds.LeftParenthesis) ∷ plain (let_or_const constant) ∷
    (declarators_places declarators.0) ∷ plain (a kinds.Semicolon) ∷ (if_some None) ∷ plain (a kinds.Semicolon)
    ∷ (if_some (option_map (λ e. expression_places e.0) (Some update))) ∷ plain (a kinds.RightParenthesis) ∷
    (statement_places body.value.0) ∷ [])
    _ (quiet_fits (let_or_const constant) _ _ _
    (both_fits _ _ _ _ _ _ declarators.1
    (both_fits _ _ _ _ _ _ (optional-known None)
    (both_fits _ _ _ _ _ _ (optional-known (Some update)) (end_fits _ _ _ body.value.1)))))
statement-known (Stmt-F.ForLexical node constant declarators (Some test) None body) =
    form_fits _ node _
    (plain (a kinds.For) ∷ plain (a kinds.LeftParenthesis) ∷ plain (let_or_const constant) ∷
    (declarators_places declarators.0) ∷ plain (a kinds.Semicolon) ∷
    (if_some (option_map (λ e. expression_places e.0) (Some test))) ∷ plain (a kinds.Semicolon) ∷
    (if_some None) ∷ plain (a kinds.RightParenthesis) ∷ (statement_places body.value.0) ∷ [])
    _ (quiet_fits (let_or_const constant) _ _ _
    (both_fits _ _ _ _ _ _ declarators.1
    (both_fits _ _ _ _ _ _ (optional-known (Some test))
    (both_fits _ _ _ _ _ _ (optional-known None) (end_fits _ _ _ body.value.1)))))
statement-known (Stmt-F.ForLexical node constant declarators (Some test) (Some update) body) =
    form_fits _ node _
    (plain (a kinds.For) ∷ plain (a kinds.LeftParenthesis) ∷ plain (let_or_const constant) ∷
    (declarators_places declarators.0) ∷ plain (a kinds.Semicolon) ∷
    (if_some (option_map (λ e. expression_places e.0) (Some test))) ∷ plain (a kinds.Semicolon) ∷
    (if_some (option_map (λ e. expression_places e.0) (Some update))) ∷ plain (a kinds.RightParenthesis) ∷
    (statement_places body.value.0) ∷ [])
    _ (quiet_fits (let_or_const constant) _ _ _
    (both_fits _ _ _ _ _ _ declarators.1
    (both_fits _ _ _ _ _ _ (optional-known (Some test))
    (both_fits _ _ _ _ _ _ (optional-known (Some update)) (end_fits _ _ _ body.value.1)))))
statement-known (Stmt-F.ForOf node constant name list body) =
    form_fits _ node _
    (plain (a kinds.For) ∷ plain (a kinds.LeftParenthesis) ∷ plain (let_or_const constant) ∷ plain
    (an_identifier name) ∷ plain (an_identifier (codes "of")) ∷ (expression_places list.0) ∷ plain
    (a kinds.RightParenthesis) ∷ (statement_places body.value.0) ∷ [])
    _ (quiet_fits (let_or_const constant) _ _ _ (both_fits _ _ _ _ _ _ list.1 (end_fits _ _ _ body.value.1)))
statement-known (Stmt-F.Continue node) =
    lone_fits _ node (plain (a kinds.Continue) ∷ may_stand kinds.Semicolon ∷ []) refl
statement-known (Stmt-F.Break node) = lone_fits _ node (plain (a kinds.Break) ∷ may_stand kinds.Semicolon ∷ []) refl
statement-known (Stmt-F.Return node None) =
    form_fits _ node _ (plain (a kinds.Return) ∷ (if_some None) ∷ may_stand kinds.Semicolon ∷ []) _
    (end_fits _ _ _ (optional-known None))
statement-known (Stmt-F.Return node (Some value)) =
    form_fits _ node _
    (plain (a kinds.Return) ∷ (if_some (option_map (λ e. expression_places e.0) (Some value)))
    ∷ may_stand kinds.Semicolon ∷ [])
    _ (end_fits _ _ _ (optional-known (Some value)))
statement-known (Stmt-F.Throw node value) =
    form_fits _ node _ (plain (a kinds.Throw) ∷ (expression_places value.0) ∷ may_stand kinds.Semicolon ∷ []) _
    (end_fits _ _ _ value.1)
statement-known (Stmt-F.Try node block None None) =
    form_fits _ node _ (plain (a kinds.Try) ∷ (block_places block.0) ∷ (if_some None) ∷ (finally_if_some None) ∷ []) _
    (both_fits _ _ _ _ _ _ block.1 (both_fits _ _ _ _ _ _ (give_fits _) (end_fits _ _ _ (give_fits _))))
statement-known (Stmt-F.Try node block None (Some finalizer)) =
    form_fits _ node _
    (plain (a kinds.Try) ∷ (block_places block.0) ∷ (if_some None) ∷
    (finally_if_some (option_map (λ e. block_places e.0) (Some finalizer))) ∷ [])
    _ (both_fits _ _ _ _ _ _ block.1
    (both_fits _ _ _ _ _ _ (give_fits _) (end_fits _ _ _ (of_part_fits _ _ _ _ finalizer.1))))
statement-known (Stmt-F.Try node block (Some handler) None) =
    form_fits _ node _
    (plain (a kinds.Try) ∷ (block_places block.0) ∷ (if_some (option_map (λ e. catch_places e.0) (Some handler))) ∷
    (finally_if_some None) ∷ [])
    _ (both_fits _ _ _ _ _ _ block.1 (both_fits _ _ _ _ _ _ handler.1 (end_fits _ _ _ (give_fits _))))
statement-known (Stmt-F.Try node block (Some handler) (Some finalizer)) =
    form_fits _ node _
    (plain (a kinds.Try) ∷ (block_places block.0) ∷ (if_some (option_map (λ e. catch_places e.0) (Some handler))) ∷
    (finally_if_some (option_map (λ e. block_places e.0) (Some finalizer))) ∷ [])
    _ (both_fits _ _ _ _ _ _ block.1
    (both_fits _ _ _ _ _ _ handler.1 (end_fits _ _ _ (of_part_fits _ _ _ _ finalizer.1))))
statement-known (Stmt-F.Debugger node) =
    lone_fits _ node (plain (a kinds.Debugger) ∷ may_stand kinds.Semicolon ∷ []) refl
statement-known (Stmt-F.FunctionDeclaration node name parameters body) =
    form_fits _ node _
    (plain (a kinds.Function) ∷ plain (an_identifier name) ∷ plain (flat_parameters parameters) ∷ in_braces
    (statements_places body.0) ∷ [])
    _ (quiet_fits (flat_parameters parameters) _ _ _ (end_fits _ _ _ (body-known body)))

block-known : (y : Known fits layers.Block-F)
    → Fits (block_node
    (statements_numbered (block_step (clean_parts layers.Block-F map-Block (trees_of layers.Block-F map-Block y)))))
    (numbers_of (block_pieces (place_parts layers.Block-F map-Block (trees_of layers.Block-F map-Block y))))
    (block_layer (made_parts layers.Block-F map-Block (trees_of layers.Block-F map-Block y)))
block-known b =
    form_fits _ b.node _ (in_braces (statements_places b.body.0) ∷ []) _ (end_fits _ _ _ (body-known b.body))

catch-known : (y : Known fits layers.Catch-F)
    → Fits (handler_numbered (catch_step (clean_parts layers.Catch-F map-Catch (trees_of layers.Catch-F map-Catch y))))
    (numbers_of (catch_pieces (place_parts layers.Catch-F map-Catch (trees_of layers.Catch-F map-Catch y))))
    (Some (catch_layer (made_parts layers.Catch-F map-Catch (trees_of layers.Catch-F map-Catch y))))
catch-known c =
    turn_fits _ (plain (a kinds.Catch) ∷ plain (flat_catch_parameter c.parameter) ∷ (block_places c.block.0) ∷ []) _
    (of_part_fits _ _ _ _ (quiet_fits (flat_catch_parameter c.parameter) _ _ _ (end_fits _ _ _ c.block.1)))

declared-known : (n : List ℕ) (o : SomeKnown) →
    let y : Known fits layers.Declarator-F = record { name = n; initializer = o } in
    Fits (declarator_numbered
    (declarator_step
    (clean_parts layers.Declarator-F map-Declarator (trees_of layers.Declarator-F map-Declarator y))))
    (numbers_of
    (declarator_pieces
    (place_parts layers.Declarator-F map-Declarator (trees_of layers.Declarator-F map-Declarator y))))
    (declarator_layer
    (made_parts layers.Declarator-F map-Declarator (trees_of layers.Declarator-F map-Declarator y)))
declared-known n None = of_part_fits _ _ _ _ (give_fits _)
declared-known n (Some e) = of_part_fits _ _ _ _ (of_part_fits _ _ _ _ e.1)

declarator-known : (y : Known fits layers.Declarator-F)
    → Fits (declarator_numbered
    (declarator_step
    (clean_parts layers.Declarator-F map-Declarator (trees_of layers.Declarator-F map-Declarator y))))
    (numbers_of
    (declarator_pieces
    (place_parts layers.Declarator-F map-Declarator (trees_of layers.Declarator-F map-Declarator y))))
    (declarator_layer
    (made_parts layers.Declarator-F map-Declarator (trees_of layers.Declarator-F map-Declarator y)))
declarator-known d = declared-known d.name d.initializer

declarators-listed : (xs : List ((x : Declarator) × fits.of_declarator x))
    → Fits (declarators_numbered (declarators (map declarator_view (map (λ e. e.0) xs))))
    (numbers_in (map declarator_places (map (λ e. e.0) xs))) (map declarator_source (map (λ e. e.0) xs))
declarators-listed [] = give_fits _
declarators-listed (x ∷ xs) = of_part_fits _ _ _ _ (both_fits _ _ _ _ _ _ x.1 (declarators-listed xs))

expressions-listed : (xs : List ((x : Expr) × fits.of_expression x))
    → Fits (expressions_numbered (expressions (map expression_view (map (λ e. e.0) xs))))
    (numbers_in (map expression_places (map (λ e. e.0) xs))) (map expression_source (map (λ e. e.0) xs))
expressions-listed [] = give_fits _
expressions-listed (x ∷ xs) = of_part_fits _ _ _ _ (both_fits _ _ _ _ _ _ x.1 (expressions-listed xs))

properties-listed : (xs : List ((x : PropertyDefinition) × fits.of_property x))
    → Fits (properties_numbered (properties (map property_view (map (λ e. e.0) xs))))
    (numbers_in (map property_places (map (λ e. e.0) xs))) (map property_source (map (λ e. e.0) xs))
properties-listed [] = give_fits _
properties-listed (x ∷ xs) = of_part_fits _ _ _ _ (both_fits _ _ _ _ _ _ x.1 (properties-listed xs))

statements-listed : (xs : List ((x : Stmt) × fits.of_statement x))
    → Fits (statements_numbered (statements (map statement_view (map (λ e. e.0) xs))))
    (numbers_in (map statement_places (map (λ e. e.0) xs))) (items_of (map statement_source (map (λ e. e.0) xs)))
statements-listed [] = give_fits _
statements-listed (x ∷ xs) = of_part_fits _ _ _ _ (both_fits _ _ _ _ _ _ x.1 (statements-listed xs))

declarators-known : (y : Known fits layers.Declarators-F)
    → Fits (declarators_numbered
    (declarators_step
    (clean_parts layers.Declarators-F map-Declarators (trees_of layers.Declarators-F map-Declarators y))))
    (numbers_of
    (declarators_pieces
    (place_parts layers.Declarators-F map-Declarators (trees_of layers.Declarators-F map-Declarators y))))
    (declarators_layer
    (made_parts layers.Declarators-F map-Declarators (trees_of layers.Declarators-F map-Declarators y)))
declarators-known xs =
    commas_fit _ (map declarator_places (map (λ e. e.0) xs.items.items)) _ (declarators-listed xs.items.items)

expressions-known : (y : Known fits layers.Exprs-F)
    → Fits (expressions_numbered
    (expressions_step (clean_parts layers.Exprs-F map-Exprs (trees_of layers.Exprs-F map-Exprs y))))
    (numbers_of (expressions_pieces (place_parts layers.Exprs-F map-Exprs (trees_of layers.Exprs-F map-Exprs y))))
    (expressions_layer (made_parts layers.Exprs-F map-Exprs (trees_of layers.Exprs-F map-Exprs y)))
expressions-known xs =
    commas_fit _ (map expression_places (map (λ e. e.0) xs.items.items)) _ (expressions-listed xs.items.items)

properties-known : (y : Known fits layers.PropertyDefinitions-F)
    → Fits (properties_numbered
    (properties_step
    (clean_parts layers.PropertyDefinitions-F map-PropertyDefinitions
    (trees_of layers.PropertyDefinitions-F map-PropertyDefinitions y))))
    (numbers_of
    (properties_pieces
    (place_parts layers.PropertyDefinitions-F map-PropertyDefinitions
    (trees_of layers.PropertyDefinitions-F map-PropertyDefinitions y))))
    (properties_layer
    (made_parts layers.PropertyDefinitions-F map-PropertyDefinitions
    (trees_of layers.PropertyDefinitions-F map-PropertyDefinitions y)))
properties-known xs =
    commas_fit _ (map property_places (map (λ e. e.0) xs.items.items)) _ (properties-listed xs.items.items)

statements-known : (y : Known fits layers.Stmts-F)
    → Fits (statements_numbered
    (statements_step (clean_parts layers.Stmts-F map-Stmts (trees_of layers.Stmts-F map-Stmts y))))
    (numbers_of (statements_pieces (place_parts layers.Stmts-F map-Stmts (trees_of layers.Stmts-F map-Stmts y))))
    (statements_layer (made_parts layers.Stmts-F map-Stmts (trees_of layers.Stmts-F map-Stmts y)))
statements-known xs =
    turn_fits _ (map statement_places (map (λ e. e.0) xs.items.items)) _ (statements-listed xs.items.items)

-- ---- every tree

grown-expression : (y : Known fits Expr-F) → fits.of_expression (views.roll-Expr (trees_of Expr-F map-Expr y))
grown-expression y =
    carried (λ t. expression_numbered t) _ _ _ _ _ _ (expression_roll (trees_of Expr-F map-Expr y))
    (standing.expression_turn (trees_of Expr-F map-Expr y)) (sources.expression_turn (trees_of Expr-F map-Expr y))
    (expression-known y)

grown-property : (y : Known fits PropertyDefinition-F)
    → fits.of_property (views.roll-PropertyDefinition (trees_of PropertyDefinition-F map-PropertyDefinition y))
grown-property y =
    carried (λ t. property_numbered t) _ _ _ _ _ _
    (property_roll (trees_of PropertyDefinition-F map-PropertyDefinition y))
    (standing.property_turn (trees_of PropertyDefinition-F map-PropertyDefinition y))
    (sources.property_turn (trees_of PropertyDefinition-F map-PropertyDefinition y)) (property-known y)

grown-key : (y : Known fits PropertyName-F)
    → fits.of_key (views.roll-PropertyName (trees_of PropertyName-F map-PropertyName y))
grown-key y =
    carried (λ t. key_numbered t) _ _ _ _ _ _ (key_roll (trees_of PropertyName-F map-PropertyName y))
    (standing.key_turn (trees_of PropertyName-F map-PropertyName y))
    (sources.key_turn (trees_of PropertyName-F map-PropertyName y)) (key-known y)

grown-statement : (y : Known fits Stmt-F) → fits.of_statement (views.roll-Stmt (trees_of Stmt-F map-Stmt y))
grown-statement y =
    carried (λ t. statement_numbered t) _ _ _ _ _ _ (statement_roll (trees_of Stmt-F map-Stmt y))
    (standing.statement_turn (trees_of Stmt-F map-Stmt y)) (sources.statement_turn (trees_of Stmt-F map-Stmt y))
    (statement-known y)

grown-block : (y : Known fits layers.Block-F) → fits.of_block (views.roll-Block (trees_of layers.Block-F map-Block y))
grown-block y =
    carried (λ ss. block_node (statements_numbered ss)) _ _ _ _ _ _ (block_roll (trees_of layers.Block-F map-Block y))
    (standing.block_turn (trees_of layers.Block-F map-Block y))
    (sources.block_turn (trees_of layers.Block-F map-Block y)) (block-known y)

grown-catch : (y : Known fits layers.Catch-F) → fits.of_catch (views.roll-Catch (trees_of layers.Catch-F map-Catch y))
grown-catch y =
    carried (λ t. handler_numbered t) _ _ _ _ _ _ (catch_roll (trees_of layers.Catch-F map-Catch y))
    (standing.catch_turn (trees_of layers.Catch-F map-Catch y))
    (ap (λ (h : MadeCatch). Some h) (sources.catch_turn (trees_of layers.Catch-F map-Catch y))) (catch-known y)

grown-declarator : (y : Known fits layers.Declarator-F)
    → fits.of_declarator (views.roll-Declarator (trees_of layers.Declarator-F map-Declarator y))
grown-declarator y =
    carried (λ t. declarator_numbered t) _ _ _ _ _ _ (declarator_roll (trees_of layers.Declarator-F map-Declarator y))
    (standing.declarator_turn (trees_of layers.Declarator-F map-Declarator y))
    (sources.declarator_turn (trees_of layers.Declarator-F map-Declarator y)) (declarator-known y)

grown-declarators : (y : Known fits layers.Declarators-F)
    → fits.of_declarators (views.roll-Declarators (trees_of layers.Declarators-F map-Declarators y))
grown-declarators y =
    carried (λ t. declarators_numbered t) _ _ _ _ _ _
    (declarators_roll (trees_of layers.Declarators-F map-Declarators y))
    (standing.declarators_turn (trees_of layers.Declarators-F map-Declarators y))
    (sources.declarators_turn (trees_of layers.Declarators-F map-Declarators y)) (declarators-known y)

grown-expressions : (y : Known fits layers.Exprs-F)
    → fits.of_expressions (views.roll-Exprs (trees_of layers.Exprs-F map-Exprs y))
grown-expressions y =
    carried (λ t. expressions_numbered t) _ _ _ _ _ _ (expressions_roll (trees_of layers.Exprs-F map-Exprs y))
    (standing.expressions_turn (trees_of layers.Exprs-F map-Exprs y))
    (sources.expressions_turn (trees_of layers.Exprs-F map-Exprs y)) (expressions-known y)

grown-properties : (y : Known fits layers.PropertyDefinitions-F)
    → fits.of_properties
    (views.roll-PropertyDefinitions (trees_of layers.PropertyDefinitions-F map-PropertyDefinitions y))
grown-properties y =
    carried (λ t. properties_numbered t) _ _ _ _ _ _
    (properties_roll (trees_of layers.PropertyDefinitions-F map-PropertyDefinitions y))
    (standing.properties_turn (trees_of layers.PropertyDefinitions-F map-PropertyDefinitions y))
    (sources.properties_turn (trees_of layers.PropertyDefinitions-F map-PropertyDefinitions y))
    (properties-known y)

grown-statements : (y : Known fits layers.Stmts-F)
    → fits.of_statements (views.roll-Stmts (trees_of layers.Stmts-F map-Stmts y))
grown-statements y =
    carried (λ t. statements_numbered t) _ _ _ _ _ _ (statements_roll (trees_of layers.Stmts-F map-Stmts y))
    (standing.statements_turn (trees_of layers.Stmts-F map-Stmts y))
    (sources.statements_turn (trees_of layers.Stmts-F map-Stmts y)) (statements-known y)

grown : Grows fits
grown =
    record {
      grows_expression = grown-expression;
      grows_property = grown-property;
      grows_key = grown-key;
      grows_statement = grown-statement;
      grows_block = grown-block;
      grows_catch = grown-catch;
      grows_declarator = grown-declarator;
      grows_declarators = grown-declarators;
      grows_expressions = grown-expressions;
      grows_properties = grown-properties;
      grows_statements = grown-statements;
    }

-- the nodes of a tree that are numbered one after another are those of the clean tree
pub numbered_same : (e : Expr) (count : ℕ)
    → numbers_of (expression_places e) ≡ range_with_len 0 count
    → numbered_made (expression_view e) ≡ expression_source e
unfolding numbered_made
numbered_same e count is =
    let h : Fits (expression_numbered (expression_view e)) (numbers_of (expression_places e)) (expression_source e)
    = every-expression fits grown e in
    ap (λ (c : Numbered MadeExpression). c.value) (h.says 0 (0 + count) (rw is (range_counts 0 count)))
