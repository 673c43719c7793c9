-- Where the nodes of the parser's tree stand, whose nodes are numbered in the order in which they end, the tree without
-- numbers says.
use Rattle.std.proofs.Common.{◌≡◌, ℕ, ◌+◌, List, [], ◌∷◌, Option, None, Some, map, option_map, ap, codes}
use Rattle.std.specs.List.{range_with_len}
use Rattle.js_tree.specs.declared.tree.Expr.{Expr}
use Rattle.js_tree.specs.declared.tree.PropertyDefinition.{PropertyDefinition}
use Rattle.js_tree.specs.declared.tree.Stmt.{Stmt}
use Rattle.js_tree.specs.declared.tree.Block.{Block}
use Rattle.js_tree.specs.declared.tree.Catch.{Catch}
use Rattle.js_tree.specs.declared.tree.Declarator.{Declarator}
use Rattle.js_lexer.specs.declared.token.TokenKind.TheVariants as kinds
use Rattle.js_tree.specs.declared.tree.Expr.TheOpen as layers
use Rattle.js_tree.specs.declared.tree.Expr.TheOpen.{Expr-F, Stmt-F, PropertyName-F, PropertyDefinition-F}
use Rattle.js_tree.specs.declared.tree.Expr.TheFolds.{map-Expr, map-PropertyDefinition, map-PropertyName, map-Stmt, map-Block, map-Catch, map-Declarator, map-Declarators, map-Exprs, map-PropertyDefinitions, map-Stmts}
use Rattle.js_tree.specs.declared.tree.Expr.TheViews as views
use Rattle.js_tree.specs.Trees.{Expression}
use Rattle.js_tree.specs.Views.{parameters_view, expressions, statements, properties, declarators, handler, finalizer, expression_step, property_step, key_step, statement_step, block_step, catch_step, declarator_step, declarators_step, expressions_step, properties_step, statements_step, expression_view, property_view, key_view, statement_view, block_view, catch_view, declarator_view, declarators_view, expressions_view, properties_view, statements_view}
use Rattle.js_tree.proofs.ViewLemmas.{expression_roll, property_roll, key_roll, statement_roll, block_roll, catch_roll, declarator_roll, declarators_roll, expressions_roll, properties_roll, statements_roll}
use Rattle.js_parser_language.specs.Tokens.{identifier_name, numeric_literal, string_literal}
use Rattle.js_parser_language.specs.Flat.{a, an_identifier, unary_kind, update_kind, binary_kind, assign_kind, flat_parameters, flat_arrow_parameters, flat_optional_name, flat_catch_parameter, flat_boolean, let_or_const}
use Rattle.js_parser_language.specs.Places.{FlatPlace, a_symbol, may_stand, in_braces, in_parentheses, numbers_of, if_some, finally_if_some, plain, node_of, expression_places, property_places, key_places, statement_places, block_places, catch_places, declarator_places, declarators_places, expressions_places, properties_places, statements_places, expression_pieces, property_pieces, key_pieces, statement_pieces, block_pieces, catch_pieces, declarator_pieces, declarators_pieces, expressions_pieces, properties_pieces, statements_pieces}
use Rattle.js_parser_language.proofs.PlaceLemmas as standing
use Rattle.js_tree.proofs.ViewLemmas.{Layer}
use Rattle.js_semantics.proofs.TreeFolds.{Former, Mapper, Claims, Known, known_trees, Grows, every-expression}
use Rattle.js_parser_numbering.specs.Numbering.{Numbered}
use Rattle.js_parser_numbering.specs.NumberedPlaces.{in_row, node_placed, braced, comma_separated, expression_placed, expressions_placed, key_placed, property_placed, properties_placed, declarator_placed, declarators_placed, statement_placed, handler_placed, statements_placed, numbered_places}
use Rattle.js_parser_numbering.proofs.CountLemmas.{range_counts}
use Rattle.js_parser_numbering.proofs.NumberedLaws.{place_parts}
use Rattle.js_parser_numbering.proofs.PlacingLemmas.{Stand, AllStand, tokens-stand, may-stand, nothing-stands, before-stands, row-stands, node-stands, braces-stand, parentheses-stand, commas-stand, carried}
use Rattle.js_semantics.proofs.SourceFolds.{clean_parts}

-- ---- what is claimed of a tree of each type

abbrev stands_so : Claims
stands_so = record {
  of_expression = λ x. Stand (expression_placed (expression_view x)) (expression_places x);
  of_property = λ x. Stand (property_placed (property_view x)) (property_places x);
  of_key = λ x. Stand (key_placed (key_view x)) (key_places x);
  of_statement = λ x. Stand (statement_placed (statement_view x)) (statement_places x);
  of_block = λ x. Stand (node_placed (braced (in_row (statements_placed (block_view x))) ∷ [])) (block_places x);
  of_catch = λ x. Stand (handler_placed (catch_view x)) (catch_places x);
  of_declarator = λ x. Stand (declarator_placed (declarator_view x)) (declarator_places x);
  of_declarators = λ x. Stand (comma_separated (declarators_placed (declarators_view x))) (declarators_places x);
  of_expressions = λ x. Stand (comma_separated (expressions_placed (expressions_view x))) (expressions_places x);
  of_properties = λ x. Stand (comma_separated (properties_placed (properties_view x))) (properties_places x);
  of_statements = λ x. Stand (in_row (statements_placed (statements_view x))) (statements_places x);
}

-- ---- one level of each type

-- trees of which it is known
abbrev trees_of : (F : Former) → Mapper F → Known stands_so F → Layer F
trees_of F change = known_trees stands_so F change

-- ---- each form

expression-known : (y : Known stands_so Expr-F)
    → Stand (expression_placed (expression_step (clean_parts Expr-F map-Expr (trees_of Expr-F map-Expr y))))
    (expression_pieces (place_parts Expr-F map-Expr (trees_of Expr-F map-Expr y)))
expression-known (Expr-F.This node) = node-stands node _ (plain (a kinds.This) ∷ []) (tokens-stand _, tt)
expression-known (Expr-F.Name node name) = node-stands node _ (plain (an_identifier name) ∷ []) (tokens-stand _, tt)
expression-known (Expr-F.Number node value) =
    node-stands node _ (plain (a_symbol (numeric_literal value.value)) ∷ []) (tokens-stand _, tt)
expression-known (Expr-F.String node value) =
    node-stands node _ (plain (a_symbol (string_literal value)) ∷ []) (tokens-stand _, tt)
expression-known (Expr-F.Boolean node value) = node-stands node _ (plain (flat_boolean value) ∷ []) (tokens-stand _, tt)
expression-known (Expr-F.Null node) = node-stands node _ (plain (a kinds.Null) ∷ []) (tokens-stand _, tt)
expression-known (Expr-F.Array node elements) =
    node-stands node _
    (plain (a kinds.LeftBracket) ∷ (expressions_places elements.0) ∷ may_stand kinds.Comma ∷ plain
    (a kinds.RightBracket) ∷ [])
    (tokens-stand _, (elements.1, (may-stand _, (tokens-stand _, tt))))
expression-known (Expr-F.Object node properties) =
    node-stands node _
    (plain (a kinds.LeftBrace) ∷ (properties_places properties.0) ∷ may_stand kinds.Comma ∷ plain
    (a kinds.RightBrace) ∷ [])
    (tokens-stand _, (properties.1, (may-stand _, (tokens-stand _, tt))))
expression-known (Expr-F.Function node name parameters body) =
    node-stands node _
    (plain (a kinds.Function) ∷ plain (flat_optional_name name) ∷ plain (flat_parameters parameters) ∷ in_braces
    (statements_places body.0) ∷ [])
    (tokens-stand _, (tokens-stand _, (tokens-stand _, (braces-stand _ _ body.1, tt))))
expression-known (Expr-F.Arrow node parameters body) =
    node-stands node _
    (plain (flat_arrow_parameters (parameters_view parameters)) ∷ plain (a kinds.Arrow) ∷
    (expression_places body.value.0) ∷ [])
    (tokens-stand _, (tokens-stand _, (body.value.1, tt)))
expression-known (Expr-F.ArrowBlock node parameters body) =
    node-stands node _
    (plain (flat_arrow_parameters (parameters_view parameters)) ∷ plain (a kinds.Arrow) ∷ in_braces
    (statements_places body.0) ∷ [])
    (tokens-stand _, (tokens-stand _, (braces-stand _ _ body.1, tt)))
expression-known (Expr-F.Parenthesized node inner) =
    node-stands node _
    (plain (a kinds.LeftParenthesis) ∷ (expression_places inner.value.0) ∷ plain (a kinds.RightParenthesis) ∷ [])
    (tokens-stand _, (inner.value.1, (tokens-stand _, tt)))
expression-known (Expr-F.Member node object name) =
    node-stands node _
    ((expression_places object.value.0) ∷ plain (a kinds.Dot) ∷ plain (a_symbol (identifier_name name)) ∷ [])
    (object.value.1, (tokens-stand _, (tokens-stand _, tt)))
expression-known (Expr-F.Index node object key) =
    node-stands node _
    ((expression_places object.value.0) ∷ plain (a kinds.LeftBracket) ∷ (expression_places key.value.0) ∷ plain
    (a kinds.RightBracket) ∷ [])
    (object.value.1, (tokens-stand _, (key.value.1, (tokens-stand _, tt))))
expression-known (Expr-F.Call node callee parentheses arguments) =
    node-stands node _
    ((expression_places callee.value.0) ∷ node_of parentheses
    (plain (a kinds.LeftParenthesis) ∷ (expressions_places arguments.0) ∷ may_stand kinds.Comma ∷ plain
    (a kinds.RightParenthesis) ∷ [])
    ∷ []) (
      callee.value.1,
      (
        node-stands parentheses _
            (plain (a kinds.LeftParenthesis) ∷ (expressions_places arguments.0) ∷ may_stand kinds.Comma ∷ plain
            (a kinds.RightParenthesis) ∷ [])
            (tokens-stand _, (arguments.1, (may-stand _, (tokens-stand _, tt)))),
        tt,
      ),
    )
expression-known (Expr-F.Postfix node operator operand) =
    node-stands node _ ((expression_places operand.value.0) ∷ plain (a (update_kind operator)) ∷ [])
    (operand.value.1, (tokens-stand _, tt))
expression-known (Expr-F.Prefix node operator operand) =
    node-stands node _ (plain (a (update_kind operator)) ∷ (expression_places operand.value.0) ∷ [])
    (tokens-stand _, (operand.value.1, tt))
expression-known (Expr-F.Unary node operator operand) =
    node-stands node _ (plain (a (unary_kind operator)) ∷ (expression_places operand.value.0) ∷ [])
    (tokens-stand _, (operand.value.1, tt))
expression-known (Expr-F.Binary node operator left right) =
    node-stands node _
    ((expression_places left.value.0) ∷ plain (a (binary_kind operator)) ∷ (expression_places right.value.0) ∷ [])
    (left.value.1, (tokens-stand _, (right.value.1, tt)))
expression-known (Expr-F.Conditional node test consequent alternate) =
    node-stands node _
    ((expression_places test.value.0) ∷ plain (a kinds.Question) ∷ (expression_places consequent.value.0) ∷ plain
    (a kinds.Colon) ∷ (expression_places alternate.value.0) ∷ [])
    (test.value.1, (tokens-stand _, (consequent.value.1, (tokens-stand _, (alternate.value.1, tt)))))
expression-known (Expr-F.Assign node operator target value) =
    node-stands node _
    ((expression_places target.value.0) ∷ plain (a (assign_kind operator)) ∷ (expression_places value.value.0) ∷ [])
    (target.value.1, (tokens-stand _, (value.value.1, tt)))
expression-known (Expr-F.Comma node expressions) =
    node-stands node _ ((expressions_places expressions.0) ∷ []) (expressions.1, tt)

property-known : (y : Known stands_so PropertyDefinition-F)
    → Stand (property_placed
    (property_step
    (clean_parts PropertyDefinition-F map-PropertyDefinition
    (trees_of PropertyDefinition-F map-PropertyDefinition y))))
    (property_pieces
    (place_parts PropertyDefinition-F map-PropertyDefinition
    (trees_of PropertyDefinition-F map-PropertyDefinition y)))
property-known (PropertyDefinition-F.Shorthand name) = tokens-stand _
property-known (PropertyDefinition-F.Value key value) =
    row-stands _ ((key_places key.0) ∷ plain (a kinds.Colon) ∷ (expression_places value.0) ∷ [])
    (key.1, (tokens-stand _, (value.1, tt)))
property-known (PropertyDefinition-F.Method node key parameters body) =
    node-stands node _
    ((key_places key.0) ∷ plain (flat_parameters parameters) ∷ in_braces (statements_places body.0) ∷ [])
    (key.1, (tokens-stand _, (braces-stand _ _ body.1, tt)))

key-known : (y : Known stands_so PropertyName-F)
    → Stand (key_placed
    (key_step (clean_parts PropertyName-F map-PropertyName (trees_of PropertyName-F map-PropertyName y))))
    (key_pieces (place_parts PropertyName-F map-PropertyName (trees_of PropertyName-F map-PropertyName y)))
key-known (PropertyName-F.Word name) = tokens-stand _
key-known (PropertyName-F.StringLiteral value) = tokens-stand _
key-known (PropertyName-F.NumericLiteral value) = tokens-stand _
key-known (PropertyName-F.Computed key) =
    row-stands _ (plain (a kinds.LeftBracket) ∷ (expression_places key.0) ∷ plain (a kinds.RightBracket) ∷ [])
    (tokens-stand _, (key.1, (tokens-stand _, tt)))

statement-known : (y : Known stands_so Stmt-F)
    → Stand (statement_placed (statement_step (clean_parts Stmt-F map-Stmt (trees_of Stmt-F map-Stmt y))))
    (statement_pieces (place_parts Stmt-F map-Stmt (trees_of Stmt-F map-Stmt y)))
statement-known (Stmt-F.Block block) = block.1
statement-known (Stmt-F.Lexical node constant declarators) =
    node-stands node _
    (plain (let_or_const constant) ∷ (declarators_places declarators.0) ∷ may_stand kinds.Semicolon ∷ [])
    (tokens-stand _, (declarators.1, (may-stand _, tt)))
statement-known (Stmt-F.Empty node) = node-stands node _ (plain (a kinds.Semicolon) ∷ []) (tokens-stand _, tt)
statement-known (Stmt-F.Expression node expression) =
    node-stands node _ ((expression_places expression.0) ∷ may_stand kinds.Semicolon ∷ [])
    (expression.1, (may-stand _, tt))
statement-known (Stmt-F.If node test consequent None) =
    node-stands node _
    (plain (a kinds.If) ∷ in_parentheses (expression_places test.0) ∷ (statement_places consequent.value.0) ∷ [])
    (tokens-stand _, (parentheses-stand _ _ test.1, (consequent.value.1, tt)))
statement-known (Stmt-F.If node test consequent (Some alternate)) =
    node-stands node _
    (plain (a kinds.If) ∷ in_parentheses (expression_places test.0) ∷ (statement_places consequent.value.0) ∷ plain
    (a kinds.Else) ∷ (statement_places alternate.value.0) ∷ []) (
      tokens-stand _,
      (parentheses-stand _ _ test.1, (consequent.value.1, (tokens-stand _, (alternate.value.1, tt)))),
    )
statement-known (Stmt-F.DoWhile node body test) =
    node-stands node _
    (plain (a kinds.Do) ∷ (statement_places body.value.0) ∷ plain (a kinds.While) ∷ in_parentheses
    (expression_places test.0) ∷ may_stand kinds.Semicolon ∷ [])
    (tokens-stand _, (body.value.1, (tokens-stand _, (parentheses-stand _ _ test.1, (may-stand _, tt)))))
statement-known (Stmt-F.While node test body) =
    node-stands node _
    (plain (a kinds.While) ∷ in_parentheses (expression_places test.0) ∷ (statement_places body.value.0) ∷ [])
    (tokens-stand _, (parentheses-stand _ _ test.1, (body.value.1, tt)))
statement-known (Stmt-F.For node None None None body) =
    node-stands node _
    (plain (a kinds.For) ∷ plain (a kinds.LeftParenthesis) ∷ (if_some None) ∷ plain (a kinds.Semicolon) ∷
    (if_some None) ∷ plain (a kinds.Semicolon) ∷ (if_some None) ∷ plain (a kinds.RightParenthesis) ∷
    (statement_places body.value.0) ∷ []) (
      tokens-stand _,
      (
        tokens-stand _,
        (
          nothing-stands,
          (
            tokens-stand _,
            (nothing-stands, (tokens-stand _, (nothing-stands, (tokens-stand _, (body.value.1, tt))))),
          ),
        ),
      ),
    )
statement-known (Stmt-F.For node None None (Some update) body) =
    node-stands node _
    (plain (a kinds.For) ∷ plain (a kinds.LeftParenthesis) ∷ (if_some None) ∷ plain (a kinds.Semicolon) ∷
    (if_some None) ∷ plain (a kinds.Semicolon) ∷
    (if_some (option_map (λ e. expression_places e.0) (Some update))) ∷ plain (a kinds.RightParenthesis) ∷
    (statement_places body.value.0) ∷ []) (
      tokens-stand _,
      (
        tokens-stand _,
        (
          nothing-stands,
          (
            tokens-stand _,
            (nothing-stands, (tokens-stand _, (update.1, (tokens-stand _, (body.value.1, tt))))),
          ),
        ),
      ),
    )
statement-known (Stmt-F.For node None (Some test) None body) =
    node-stands node _
    (plain (a kinds.For) ∷ plain (a kinds.LeftParenthesis) ∷ (if_some None) ∷ plain (a kinds.Semicolon) ∷
    (if_some (option_map (λ e. expression_places e.0) (Some test))) ∷ plain (a kinds.Semicolon) ∷
    (if_some None) ∷ plain (a kinds.RightParenthesis) ∷ (statement_places body.value.0) ∷ []) (
      tokens-stand _,
      (
        tokens-stand _,
        (
          nothing-stands,
          (
            tokens-stand _,
            (test.1, (tokens-stand _, (nothing-stands, (tokens-stand _, (body.value.1, tt))))),
          ),
        ),
      ),
    )
statement-known (Stmt-F.For node None (Some test) (Some update) body) =
    node-stands node _
    (plain (a kinds.For) ∷ plain (a kinds.LeftParenthesis) ∷ (if_some None) ∷ plain (a kinds.Semicolon) ∷
    (if_some (option_map (λ e. expression_places e.0) (Some test))) ∷ plain (a kinds.Semicolon) ∷
    (if_some (option_map (λ e. expression_places e.0) (Some update))) ∷ plain (a kinds.RightParenthesis) ∷
    (statement_places body.value.0) ∷ []) (
      tokens-stand _,
      (
        tokens-stand _,
        (
          nothing-stands,
          (tokens-stand _, (test.1, (tokens-stand _, (update.1, (tokens-stand _, (body.value.1, tt)))))),
        ),
      ),
    )
statement-known (Stmt-F.For node (Some initializer) None None body) =
    node-stands node _
    (plain (a kinds.For) ∷ plain (a kinds.LeftParenthesis) ∷
    (if_some (option_map (λ e. expression_places e.0) (Some initializer))) ∷ plain (a kinds.Semicolon) ∷
    (if_some None) ∷ plain (a kinds.Semicolon) ∷ (if_some None) ∷ plain (a kinds.RightParenthesis) ∷
    (statement_places body.value.0) ∷ []) (
      tokens-stand _,
      (
        tokens-stand _,
        (
          initializer.1,
          (
            tokens-stand _,
            (nothing-stands, (tokens-stand _, (nothing-stands, (tokens-stand _, (body.value.1, tt))))),
          ),
        ),
      ),
    )
statement-known (Stmt-F.For node (Some initializer) None (Some update) body) =
    node-stands node _
    (plain (a kinds.For) ∷ plain (a kinds.LeftParenthesis) ∷
    (if_some (option_map (λ e. expression_places e.0) (Some initializer))) ∷ plain (a kinds.Semicolon) ∷
    (if_some None) ∷ plain (a kinds.Semicolon) ∷
    (if_some (option_map (λ e. expression_places e.0) (Some update))) ∷ plain (a kinds.RightParenthesis) ∷
    (statement_places body.value.0) ∷ []) (
      tokens-stand _,
      (
        tokens-stand _,
        (
          initializer.1,
          (
            tokens-stand _,
            (nothing-stands, (tokens-stand _, (update.1, (tokens-stand _, (body.value.1, tt))))),
          ),
        ),
      ),
    )
statement-known (Stmt-F.For node (Some initializer) (Some test) None body) =
    node-stands node _
    (plain (a kinds.For) ∷ plain (a kinds.LeftParenthesis) ∷
    (if_some (option_map (λ e. expression_places e.0) (Some initializer))) ∷ plain (a kinds.Semicolon) ∷
    (if_some (option_map (λ e. expression_places e.0) (Some test))) ∷ plain (a kinds.Semicolon) ∷
    (if_some None) ∷ plain (a kinds.RightParenthesis) ∷ (statement_places body.value.0) ∷ []) (
      tokens-stand _,
      (
        tokens-stand _,
        (
          initializer.1,
          (
            tokens-stand _,
            (test.1, (tokens-stand _, (nothing-stands, (tokens-stand _, (body.value.1, tt))))),
          ),
        ),
      ),
    )
statement-known (Stmt-F.For node (Some initializer) (Some test) (Some update) body) =
    node-stands node _
    (plain (a kinds.For) ∷ plain (a kinds.LeftParenthesis) ∷
    (if_some (option_map (λ e. expression_places e.0) (Some initializer))) ∷ plain (a kinds.Semicolon) ∷
    (if_some (option_map (λ e. expression_places e.0) (Some test))) ∷ plain (a kinds.Semicolon) ∷
    (if_some (option_map (λ e. expression_places e.0) (Some update))) ∷ plain (a kinds.RightParenthesis) ∷
    (statement_places body.value.0) ∷ []) (
      tokens-stand _,
      (
        tokens-stand _,
        (
          initializer.1,
          (tokens-stand _, (test.1, (tokens-stand _, (update.1, (tokens-stand _, (body.value.1, tt)))))),
        ),
      ),
    )
statement-known (Stmt-F.ForLexical node constant declarators None None body) =
    node-stands node _
    (plain (a kinds.For) ∷ plain (a kinds.LeftParenthesis) ∷ plain (let_or_const constant) ∷
    (declarators_places declarators.0) ∷ plain (a kinds.Semicolon) ∷ (if_some None) ∷ plain (a kinds.Semicolon)
    ∷ (if_some None) ∷ plain (a kinds.RightParenthesis) ∷ (statement_places body.value.0) ∷ []) (
      tokens-stand _,
      (
        tokens-stand _,
        (
          tokens-stand _,
          (
            declarators.1,
            (
              tokens-stand _,
              (
                nothing-stands,
                (tokens-stand _, (nothing-stands, (tokens-stand _, (body.value.1, tt)))),
              ),
            ),
          ),
        ),
      ),
    )
statement-known (Stmt-F.ForLexical node constant declarators None (Some update) body) =
    node-stands node _
    (plain (a kinds.For) ∷ plain (a kinds.LeftParenthesis) ∷ plain (let_or_const constant) ∷
    (declarators_places declarators.0) ∷ plain (a kinds.Semicolon) ∷ (if_some None) ∷ plain (a kinds.Semicolon)
    ∷ (if_some (option_map (λ e. expression_places e.0) (Some update))) ∷ plain (a kinds.RightParenthesis) ∷
    (statement_places body.value.0) ∷ []) (
      tokens-stand _,
      (
        tokens-stand _,
        (
          tokens-stand _,
          (
            declarators.1,
            (
              tokens-stand _,
              (nothing-stands, (tokens-stand _, (update.1, (tokens-stand _, (body.value.1, tt))))),
            ),
          ),
        ),
      ),
    )
statement-known (Stmt-F.ForLexical node constant declarators (Some test) None body) =
    node-stands node _
    (plain (a kinds.For) ∷ plain (a kinds.LeftParenthesis) ∷ plain (let_or_const constant) ∷
    (declarators_places declarators.0) ∷ plain (a kinds.Semicolon) ∷
    (if_some (option_map (λ e. expression_places e.0) (Some test))) ∷ plain (a kinds.Semicolon) ∷
    (if_some None) ∷ plain (a kinds.RightParenthesis) ∷ (statement_places body.value.0) ∷ []) (
      tokens-stand _,
      (
        tokens-stand _,
        (
          tokens-stand _,
          (
            declarators.1,
            (
              tokens-stand _,
              (test.1, (tokens-stand _, (nothing-stands, (tokens-stand _, (body.value.1, tt))))),
            ),
          ),
        ),
      ),
    )
statement-known (Stmt-F.ForLexical node constant declarators (Some test) (Some update) body) =
    node-stands node _
    (plain (a kinds.For) ∷ plain (a kinds.LeftParenthesis) ∷ plain (let_or_const constant) ∷
    (declarators_places declarators.0) ∷ plain (a kinds.Semicolon) ∷
    (if_some (option_map (λ e. expression_places e.0) (Some test))) ∷ plain (a kinds.Semicolon) ∷
    (if_some (option_map (λ e. expression_places e.0) (Some update))) ∷ plain (a kinds.RightParenthesis) ∷
    (statement_places body.value.0) ∷ []) (
      tokens-stand _,
      (
        tokens-stand _,
        (
          tokens-stand _,
          (
            declarators.1,
            (
              tokens-stand _,
              (test.1, (tokens-stand _, (update.1, (tokens-stand _, (body.value.1, tt))))),
            ),
          ),
        ),
      ),
    )
statement-known (Stmt-F.ForOf node constant name list body) =
    node-stands node _
    (plain (a kinds.For) ∷ plain (a kinds.LeftParenthesis) ∷ plain (let_or_const constant) ∷ plain
    (an_identifier name) ∷ plain (an_identifier (codes "of")) ∷ (expression_places list.0) ∷ plain
    (a kinds.RightParenthesis) ∷ (statement_places body.value.0) ∷ []) (
      tokens-stand _,
      (
        tokens-stand _,
        (tokens-stand _, (tokens-stand _, (tokens-stand _, (list.1, (tokens-stand _, (body.value.1, tt)))))),
      ),
    )
statement-known (Stmt-F.Continue node) =
    node-stands node _ (plain (a kinds.Continue) ∷ may_stand kinds.Semicolon ∷ []) (tokens-stand _, (may-stand _, tt))
statement-known (Stmt-F.Break node) =
    node-stands node _ (plain (a kinds.Break) ∷ may_stand kinds.Semicolon ∷ []) (tokens-stand _, (may-stand _, tt))
statement-known (Stmt-F.Return node None) =
    node-stands node _ (plain (a kinds.Return) ∷ (if_some None) ∷ may_stand kinds.Semicolon ∷ [])
    (tokens-stand _, (nothing-stands, (may-stand _, tt)))
statement-known (Stmt-F.Return node (Some value)) =
    node-stands node _
    (plain (a kinds.Return) ∷ (if_some (option_map (λ e. expression_places e.0) (Some value)))
    ∷ may_stand kinds.Semicolon ∷ [])
    (tokens-stand _, (value.1, (may-stand _, tt)))
statement-known (Stmt-F.Throw node value) =
    node-stands node _ (plain (a kinds.Throw) ∷ (expression_places value.0) ∷ may_stand kinds.Semicolon ∷ [])
    (tokens-stand _, (value.1, (may-stand _, tt)))
statement-known (Stmt-F.Try node block None None) =
    node-stands node _ (plain (a kinds.Try) ∷ (block_places block.0) ∷ (if_some None) ∷ (finally_if_some None) ∷ [])
    (tokens-stand _, (block.1, (nothing-stands, (nothing-stands, tt))))
statement-known (Stmt-F.Try node block None (Some finalizer)) =
    node-stands node _
    (plain (a kinds.Try) ∷ (block_places block.0) ∷ (if_some None) ∷
    (finally_if_some (option_map (λ e. block_places e.0) (Some finalizer))) ∷ [])
    (tokens-stand _, (block.1, (nothing-stands, (before-stands _ _ _ _ (tokens-stand _) finalizer.1, tt))))
statement-known (Stmt-F.Try node block (Some handler) None) =
    node-stands node _
    (plain (a kinds.Try) ∷ (block_places block.0) ∷ (if_some (option_map (λ e. catch_places e.0) (Some handler))) ∷
    (finally_if_some None) ∷ [])
    (tokens-stand _, (block.1, (handler.1, (nothing-stands, tt))))
statement-known (Stmt-F.Try node block (Some handler) (Some finalizer)) =
    node-stands node _
    (plain (a kinds.Try) ∷ (block_places block.0) ∷ (if_some (option_map (λ e. catch_places e.0) (Some handler))) ∷
    (finally_if_some (option_map (λ e. block_places e.0) (Some finalizer))) ∷ [])
    (tokens-stand _, (block.1, (handler.1, (before-stands _ _ _ _ (tokens-stand _) finalizer.1, tt))))
statement-known (Stmt-F.Debugger node) =
    node-stands node _ (plain (a kinds.Debugger) ∷ may_stand kinds.Semicolon ∷ []) (tokens-stand _, (may-stand _, tt))
statement-known (Stmt-F.FunctionDeclaration node name parameters body) =
    node-stands node _
    (plain (a kinds.Function) ∷ plain (an_identifier name) ∷ plain (flat_parameters parameters) ∷ in_braces
    (statements_places body.0) ∷ [])
    (tokens-stand _, (tokens-stand _, (tokens-stand _, (braces-stand _ _ body.1, tt))))

block-known : (y : Known stands_so layers.Block-F)
    → Stand (node_placed
    (braced (in_row
    (statements_placed
    (block_step (clean_parts layers.Block-F map-Block (trees_of layers.Block-F map-Block y)))))
    ∷ []))
    (block_pieces (place_parts layers.Block-F map-Block (trees_of layers.Block-F map-Block y)))
block-known b = node-stands b.node _ (in_braces (statements_places b.body.0) ∷ []) (braces-stand _ _ b.body.1, tt)

catch-known : (y : Known stands_so layers.Catch-F)
    → Stand (handler_placed (catch_step (clean_parts layers.Catch-F map-Catch (trees_of layers.Catch-F map-Catch y))))
    (catch_pieces (place_parts layers.Catch-F map-Catch (trees_of layers.Catch-F map-Catch y)))
catch-known c =
    row-stands _ (plain (a kinds.Catch) ∷ plain (flat_catch_parameter c.parameter) ∷ (block_places c.block.0) ∷ [])
    (tokens-stand _, (tokens-stand _, (c.block.1, tt)))

-- an initializer that is known, if there is one
abbrev SomeKnown : Type 0
SomeKnown = Option ((x : Expr) × stands_so.of_expression x)

declared-known : (n : List ℕ) (o : SomeKnown) →
    let y : Known stands_so layers.Declarator-F = record { name = n; initializer = o } in
    Stand (declarator_placed
    (declarator_step
    (clean_parts layers.Declarator-F map-Declarator (trees_of layers.Declarator-F map-Declarator y))))
    (declarator_pieces
    (place_parts layers.Declarator-F map-Declarator (trees_of layers.Declarator-F map-Declarator y)))
declared-known n None = before-stands _ _ _ _ (tokens-stand _) nothing-stands
declared-known n (Some e) = before-stands _ _ _ _ (tokens-stand _) (before-stands _ _ _ _ (tokens-stand _) e.1)

declarator-known : (y : Known stands_so layers.Declarator-F)
    → Stand (declarator_placed
    (declarator_step
    (clean_parts layers.Declarator-F map-Declarator (trees_of layers.Declarator-F map-Declarator y))))
    (declarator_pieces
    (place_parts layers.Declarator-F map-Declarator (trees_of layers.Declarator-F map-Declarator y)))
declarator-known d = declared-known d.name d.initializer

declarators-listed : (xs : List ((x : Declarator) × stands_so.of_declarator x))
    → AllStand (declarators_placed (declarators (map declarator_view (map (λ e. e.0) xs))))
    (map declarator_places (map (λ e. e.0) xs))
declarators-listed [] = tt
declarators-listed (x ∷ xs) = (x.1, declarators-listed xs)

expressions-listed : (xs : List ((x : Expr) × stands_so.of_expression x))
    → AllStand (expressions_placed (expressions (map expression_view (map (λ e. e.0) xs))))
    (map expression_places (map (λ e. e.0) xs))
expressions-listed [] = tt
expressions-listed (x ∷ xs) = (x.1, expressions-listed xs)

properties-listed : (xs : List ((x : PropertyDefinition) × stands_so.of_property x))
    → AllStand (properties_placed (properties (map property_view (map (λ e. e.0) xs))))
    (map property_places (map (λ e. e.0) xs))
properties-listed [] = tt
properties-listed (x ∷ xs) = (x.1, properties-listed xs)

statements-listed : (xs : List ((x : Stmt) × stands_so.of_statement x))
    → AllStand (statements_placed (statements (map statement_view (map (λ e. e.0) xs))))
    (map statement_places (map (λ e. e.0) xs))
statements-listed [] = tt
statements-listed (x ∷ xs) = (x.1, statements-listed xs)

declarators-known : (y : Known stands_so layers.Declarators-F)
    → Stand (comma_separated
    (declarators_placed
    (declarators_step
    (clean_parts layers.Declarators-F map-Declarators (trees_of layers.Declarators-F map-Declarators y)))))
    (declarators_pieces
    (place_parts layers.Declarators-F map-Declarators (trees_of layers.Declarators-F map-Declarators y)))
declarators-known xs =
    commas-stand _ (map declarator_places (map (λ e. e.0) xs.items.items)) (declarators-listed xs.items.items)

expressions-known : (y : Known stands_so layers.Exprs-F)
    → Stand (comma_separated
    (expressions_placed
    (expressions_step (clean_parts layers.Exprs-F map-Exprs (trees_of layers.Exprs-F map-Exprs y)))))
    (expressions_pieces (place_parts layers.Exprs-F map-Exprs (trees_of layers.Exprs-F map-Exprs y)))
expressions-known xs =
    commas-stand _ (map expression_places (map (λ e. e.0) xs.items.items)) (expressions-listed xs.items.items)

properties-known : (y : Known stands_so layers.PropertyDefinitions-F)
    → Stand (comma_separated
    (properties_placed
    (properties_step
    (clean_parts layers.PropertyDefinitions-F map-PropertyDefinitions
    (trees_of layers.PropertyDefinitions-F map-PropertyDefinitions y)))))
    (properties_pieces
    (place_parts layers.PropertyDefinitions-F map-PropertyDefinitions
    (trees_of layers.PropertyDefinitions-F map-PropertyDefinitions y)))
properties-known xs =
    commas-stand _ (map property_places (map (λ e. e.0) xs.items.items)) (properties-listed xs.items.items)

statements-known : (y : Known stands_so layers.Stmts-F)
    → Stand (in_row
    (statements_placed
    (statements_step (clean_parts layers.Stmts-F map-Stmts (trees_of layers.Stmts-F map-Stmts y)))))
    (statements_pieces (place_parts layers.Stmts-F map-Stmts (trees_of layers.Stmts-F map-Stmts y)))
statements-known xs =
    row-stands _ (map statement_places (map (λ e. e.0) xs.items.items)) (statements-listed xs.items.items)

-- ---- every tree

grown-expression : (y : Known stands_so Expr-F) → stands_so.of_expression (views.roll-Expr (trees_of Expr-F map-Expr y))
grown-expression y =
    carried (λ t. expression_placed t) _ _ _ _ (expression_roll (trees_of Expr-F map-Expr y))
    (standing.expression_turn (trees_of Expr-F map-Expr y)) (expression-known y)

grown-property : (y : Known stands_so PropertyDefinition-F)
    → stands_so.of_property (views.roll-PropertyDefinition (trees_of PropertyDefinition-F map-PropertyDefinition y))
grown-property y =
    carried (λ t. property_placed t) _ _ _ _ (property_roll (trees_of PropertyDefinition-F map-PropertyDefinition y))
    (standing.property_turn (trees_of PropertyDefinition-F map-PropertyDefinition y)) (property-known y)

grown-key : (y : Known stands_so PropertyName-F)
    → stands_so.of_key (views.roll-PropertyName (trees_of PropertyName-F map-PropertyName y))
grown-key y =
    carried (λ t. key_placed t) _ _ _ _ (key_roll (trees_of PropertyName-F map-PropertyName y))
    (standing.key_turn (trees_of PropertyName-F map-PropertyName y)) (key-known y)

grown-statement : (y : Known stands_so Stmt-F) → stands_so.of_statement (views.roll-Stmt (trees_of Stmt-F map-Stmt y))
grown-statement y =
    carried (λ t. statement_placed t) _ _ _ _ (statement_roll (trees_of Stmt-F map-Stmt y))
    (standing.statement_turn (trees_of Stmt-F map-Stmt y)) (statement-known y)

grown-block : (y : Known stands_so layers.Block-F)
    → stands_so.of_block (views.roll-Block (trees_of layers.Block-F map-Block y))
grown-block y =
    carried (λ t. node_placed (braced (in_row (statements_placed t)) ∷ [])) _ _ _ _
    (block_roll (trees_of layers.Block-F map-Block y)) (standing.block_turn (trees_of layers.Block-F map-Block y))
    (block-known y)

grown-catch : (y : Known stands_so layers.Catch-F)
    → stands_so.of_catch (views.roll-Catch (trees_of layers.Catch-F map-Catch y))
grown-catch y =
    carried (λ t. handler_placed t) _ _ _ _ (catch_roll (trees_of layers.Catch-F map-Catch y))
    (standing.catch_turn (trees_of layers.Catch-F map-Catch y)) (catch-known y)

grown-declarator : (y : Known stands_so layers.Declarator-F)
    → stands_so.of_declarator (views.roll-Declarator (trees_of layers.Declarator-F map-Declarator y))
grown-declarator y =
    carried (λ t. declarator_placed t) _ _ _ _ (declarator_roll (trees_of layers.Declarator-F map-Declarator y))
    (standing.declarator_turn (trees_of layers.Declarator-F map-Declarator y)) (declarator-known y)

grown-declarators : (y : Known stands_so layers.Declarators-F)
    → stands_so.of_declarators (views.roll-Declarators (trees_of layers.Declarators-F map-Declarators y))
grown-declarators y =
    carried (λ t. comma_separated (declarators_placed t)) _ _ _ _
    (declarators_roll (trees_of layers.Declarators-F map-Declarators y))
    (standing.declarators_turn (trees_of layers.Declarators-F map-Declarators y)) (declarators-known y)

grown-expressions : (y : Known stands_so layers.Exprs-F)
    → stands_so.of_expressions (views.roll-Exprs (trees_of layers.Exprs-F map-Exprs y))
grown-expressions y =
    carried (λ t. comma_separated (expressions_placed t)) _ _ _ _
    (expressions_roll (trees_of layers.Exprs-F map-Exprs y))
    (standing.expressions_turn (trees_of layers.Exprs-F map-Exprs y)) (expressions-known y)

grown-properties : (y : Known stands_so layers.PropertyDefinitions-F)
    → stands_so.of_properties
    (views.roll-PropertyDefinitions (trees_of layers.PropertyDefinitions-F map-PropertyDefinitions y))
grown-properties y =
    carried (λ t. comma_separated (properties_placed t)) _ _ _ _
    (properties_roll (trees_of layers.PropertyDefinitions-F map-PropertyDefinitions y))
    (standing.properties_turn (trees_of layers.PropertyDefinitions-F map-PropertyDefinitions y))
    (properties-known y)

grown-statements : (y : Known stands_so layers.Stmts-F)
    → stands_so.of_statements (views.roll-Stmts (trees_of layers.Stmts-F map-Stmts y))
grown-statements y =
    carried (λ t. in_row (statements_placed t)) _ _ _ _ (statements_roll (trees_of layers.Stmts-F map-Stmts y))
    (standing.statements_turn (trees_of layers.Stmts-F map-Stmts y)) (statements-known y)

grown : Grows stands_so
grown =
    record {
      grows_expression = grown-expression;
      grows_property = grown-property;
      grows_key = grown-key;
      grows_statement = grown-statement;
      grows_block = grown-block;
      grows_catch = grown-catch;
      grows_declarator = grown-declarator;
      grows_declarators = grown-declarators;
      grows_expressions = grown-expressions;
      grows_properties = grown-properties;
      grows_statements = grown-statements;
    }

pub expression-stands : (e : Expr) → Stand (expression_placed (expression_view e)) (expression_places e)
expression-stands e = every-expression stands_so grown e

-- the nodes of a tree that are numbered one after another stand where those of the clean tree do
pub placed_same : (e : Expr) (count : ℕ)
    → numbers_of (expression_places e) ≡ range_with_len 0 count
    → numbered_places (expression_view e) ≡ expression_places e
unfolding numbered_places
placed_same e count is =
    ap (λ (c : Numbered (List FlatPlace)). c.value)
    ((expression-stands e).fits.says 0 (0 + count) (rw is (range_counts 0 count)))
