-- Where the nodes of a tree stand in its source: the span of a node is that of its own tokens.
use Rattle.std.specs.Prelude.{◌≡◌, ◌⊎◌, ℕ, List, [], ◌∷◌, ◌++◌, map, Option, Some, None, codes}
use Rattle.std.specs.Option.{option_map}
use Rattle.js_lexer.specs.declared.token.TokenKind.{TokenKind}
use Rattle.js_lexer.specs.declared.token.TokenKind.TheVariants as kinds
use Rattle.js_tree.specs.declared.node.NodeId.{NodeId}
use Rattle.js_tree.specs.declared.node.Span.{Span}
use Rattle.js_tree.specs.declared.tree.Expr.{Expr}
use Rattle.js_tree.specs.declared.tree.PropertyDefinition.{PropertyDefinition}
use Rattle.js_tree.specs.declared.tree.PropertyName.{PropertyName}
use Rattle.js_tree.specs.declared.tree.Stmt.{Stmt}
use Rattle.js_tree.specs.declared.tree.Block.{Block}
use Rattle.js_tree.specs.declared.tree.Catch.{Catch}
use Rattle.js_tree.specs.declared.tree.Declarator.{Declarator}
use Rattle.js_tree.specs.declared.tree.Declarators.{Declarators}
use Rattle.js_tree.specs.declared.tree.Exprs.{Exprs}
use Rattle.js_tree.specs.declared.tree.PropertyDefinitions.{PropertyDefinitions}
use Rattle.js_tree.specs.declared.tree.Stmts.{Stmts}
use Rattle.js_tree.specs.declared.tree.Expr.TheOpen as layers
use Rattle.js_tree.specs.declared.tree.Expr.TheOpen.{Expr-F, Stmt-F, PropertyName-F, PropertyDefinition-F}
use Rattle.js_tree.specs.declared.tree.Expr.TheFolds.{fold-Expr, fold-PropertyDefinition, fold-PropertyName, fold-Stmt, fold-Block, fold-Catch, fold-Declarator, fold-Declarators, fold-Exprs, fold-PropertyDefinitions, fold-Stmts}
use Rattle.js_tree.specs.Views.{parameters_view}
use Rattle.js_parser_language.specs.Tokens.{Token, Symbol, fixed, identifier_name, numeric_literal, string_literal, FlatToken, token, beside, semicolon, trailing_comma, head_of, tail_of, IsNext}
use Rattle.js_parser_language.specs.Flat.{a, an_identifier, unary_kind, update_kind, binary_kind, assign_kind, flat_parameters, flat_arrow_parameters, flat_optional_name, flat_catch_parameter, flat_boolean, let_or_const}
use Rattle.js_tree.specs.Spans.{span_of}

-- A token of a tree, a semicolon or comma that is the tree's where it stands, or where a node begins and where it ends.
pub data FlatPlace : Type 0 where
  stands : Symbol → FlatPlace
  stands_maybe : TokenKind → FlatPlace
  opens : ℕ → FlatPlace
  closes : ℕ → FlatPlace

-- these pieces one after another
abbrev pub in_turn : List (List FlatPlace) → List FlatPlace
in_turn [] = []
in_turn (ps ∷ pieces) = ps ++ in_turn pieces

-- the place of a flat token
abbrev pub place_of : FlatToken → FlatPlace
place_of (token s) = stands s
place_of (beside s) = stands s
place_of (semicolon end) = stands_maybe kinds.Semicolon
place_of trailing_comma = stands_maybe kinds.Comma

-- the places of flat tokens, among which no node begins or ends
abbrev pub plain : List FlatToken → List FlatPlace
plain ms = map place_of ms

-- one token, as a symbol
abbrev pub a_symbol : Symbol → List FlatToken
a_symbol s = token s ∷ []

-- a semicolon or a comma that may be absent
abbrev pub may_stand : TokenKind → List FlatPlace
may_stand kind = stands_maybe kind ∷ []

-- the pieces of a node
abbrev pub node_of : NodeId → List (List FlatPlace) → List FlatPlace
node_of node pieces = opens node.0 ∷ (in_turn pieces ++ (closes node.0 ∷ []))

-- places in braces
abbrev pub in_braces : List FlatPlace → List FlatPlace
in_braces ps = in_turn (plain (a kinds.LeftBrace) ∷ ps ∷ plain (a kinds.RightBrace) ∷ [])

-- places in parentheses
abbrev pub in_parentheses : List FlatPlace → List FlatPlace
in_parentheses ps = in_turn (plain (a kinds.LeftParenthesis) ∷ ps ∷ plain (a kinds.RightParenthesis) ∷ [])

-- pieces, each behind a comma
abbrev pub behind_commas : List (List FlatPlace) → List FlatPlace
behind_commas [] = []
behind_commas (ps ∷ pieces) = in_turn (plain (a kinds.Comma) ∷ ps ∷ behind_commas pieces ∷ [])

-- pieces with commas between them
abbrev pub with_commas : List (List FlatPlace) → List FlatPlace
with_commas [] = []
with_commas (ps ∷ pieces) = ps ++ behind_commas pieces

-- what may be left out
abbrev pub if_some : Option (List FlatPlace) → List FlatPlace
if_some None = []
if_some (Some ps) = ps

-- an initializer behind its `=`, which may be left out
abbrev pub assign_if_some : Option (List FlatPlace) → List FlatPlace
assign_if_some None = []
assign_if_some (Some ps) = plain (a kinds.Assign) ++ ps

-- the block of a finally behind its keyword, which may be left out
abbrev pub finally_if_some : Option (List FlatPlace) → List FlatPlace
finally_if_some None = []
finally_if_some (Some ps) = plain (a kinds.Finally) ++ ps

-- ---- one level of each type, with the pieces of its parts in their places

-- a level of a tree whose parts are the places that they have
abbrev pub Pieces :
    (Type 0 → Type 0 → Type 0 → Type 0 → Type 0 → Type 0 → Type 0 → Type 0 → Type 0 → Type 0 → Type 0 → Type 0)
    → Type 0
Pieces F =
    F (List FlatPlace) (List FlatPlace) (List FlatPlace) (List FlatPlace) (List FlatPlace) (List FlatPlace) (List FlatPlace) (List FlatPlace)
    (List FlatPlace) (List FlatPlace) (List FlatPlace)

-- the places of an expression
abbrev pub expression_pieces : Pieces Expr-F → List FlatPlace
expression_pieces (Expr-F.This node) = node_of node (plain (a kinds.This) ∷ [])
expression_pieces (Expr-F.Name node name) = node_of node (plain (an_identifier name) ∷ [])
expression_pieces (Expr-F.Number node value) = node_of node (plain (a_symbol (numeric_literal value.value)) ∷ [])
expression_pieces (Expr-F.String node value) = node_of node (plain (a_symbol (string_literal value)) ∷ [])
expression_pieces (Expr-F.Boolean node value) = node_of node (plain (flat_boolean value) ∷ [])
expression_pieces (Expr-F.Null node) = node_of node (plain (a kinds.Null) ∷ [])
expression_pieces (Expr-F.Array node elements) =
    node_of node (plain (a kinds.LeftBracket) ∷ elements ∷ may_stand kinds.Comma ∷ plain (a kinds.RightBracket) ∷ [])
expression_pieces (Expr-F.Object node properties) =
    node_of node (plain (a kinds.LeftBrace) ∷ properties ∷ may_stand kinds.Comma ∷ plain (a kinds.RightBrace) ∷ [])
expression_pieces (Expr-F.Function node name parameters body) =
    node_of node
    (plain (a kinds.Function) ∷ plain (flat_optional_name name) ∷ plain (flat_parameters parameters)
    ∷ in_braces body ∷ [])
expression_pieces (Expr-F.Arrow node parameters body) =
    node_of node (plain (flat_arrow_parameters (parameters_view parameters)) ∷ plain (a kinds.Arrow) ∷ body.value ∷ [])
expression_pieces (Expr-F.ArrowBlock node parameters body) =
    node_of node
    (plain (flat_arrow_parameters (parameters_view parameters)) ∷ plain (a kinds.Arrow) ∷ in_braces body ∷ [])
expression_pieces (Expr-F.Parenthesized node inner) =
    node_of node (plain (a kinds.LeftParenthesis) ∷ inner.value ∷ plain (a kinds.RightParenthesis) ∷ [])
expression_pieces (Expr-F.Member node object name) =
    node_of node (object.value ∷ plain (a kinds.Dot) ∷ plain (a_symbol (identifier_name name)) ∷ [])
expression_pieces (Expr-F.Index node object key) =
    node_of node (object.value ∷ plain (a kinds.LeftBracket) ∷ key.value ∷ plain (a kinds.RightBracket) ∷ [])
expression_pieces (Expr-F.Call node callee parentheses arguments) =
    node_of node
    (callee.value ∷ node_of parentheses
    (plain (a kinds.LeftParenthesis) ∷ arguments ∷ may_stand kinds.Comma ∷ plain (a kinds.RightParenthesis)
    ∷ [])
    ∷ [])
expression_pieces (Expr-F.Postfix node operator operand) =
    node_of node (operand.value ∷ plain (a (update_kind operator)) ∷ [])
expression_pieces (Expr-F.Prefix node operator operand) =
    node_of node (plain (a (update_kind operator)) ∷ operand.value ∷ [])
expression_pieces (Expr-F.Unary node operator operand) =
    node_of node (plain (a (unary_kind operator)) ∷ operand.value ∷ [])
expression_pieces (Expr-F.Binary node operator left right) =
    node_of node (left.value ∷ plain (a (binary_kind operator)) ∷ right.value ∷ [])
expression_pieces (Expr-F.Conditional node test consequent alternate) =
    node_of node
    (test.value ∷ plain (a kinds.Question) ∷ consequent.value ∷ plain (a kinds.Colon) ∷ alternate.value ∷ [])
expression_pieces (Expr-F.Assign node operator target value) =
    node_of node (target.value ∷ plain (a (assign_kind operator)) ∷ value.value ∷ [])
expression_pieces (Expr-F.Comma node expressions) = node_of node (expressions ∷ [])

-- the places of the key of a member, which is no node of its own
abbrev pub key_pieces : Pieces PropertyName-F → List FlatPlace
key_pieces (PropertyName-F.Word name) = plain (a_symbol (identifier_name name))
key_pieces (PropertyName-F.StringLiteral value) = plain (a_symbol (string_literal value))
key_pieces (PropertyName-F.NumericLiteral value) = plain (a_symbol (numeric_literal value.value))
key_pieces (PropertyName-F.Computed key) =
    in_turn (plain (a kinds.LeftBracket) ∷ key ∷ plain (a kinds.RightBracket) ∷ [])

-- the places of a member of an object literal, of which a method alone is a node
abbrev pub property_pieces : Pieces PropertyDefinition-F → List FlatPlace
property_pieces (PropertyDefinition-F.Shorthand name) = plain (an_identifier name)
property_pieces (PropertyDefinition-F.Value key value) = in_turn (key ∷ plain (a kinds.Colon) ∷ value ∷ [])
property_pieces (PropertyDefinition-F.Method node key parameters body) =
    node_of node (key ∷ plain (flat_parameters parameters) ∷ in_braces body ∷ [])

-- the places of a statement or declaration
abbrev pub statement_pieces : Pieces Stmt-F → List FlatPlace
statement_pieces (Stmt-F.Block block) = block
statement_pieces (Stmt-F.If node test consequent None) =
    node_of node (plain (a kinds.If) ∷ in_parentheses test ∷ consequent.value ∷ [])
statement_pieces (Stmt-F.If node test consequent (Some alternate)) =
    node_of node
    (plain (a kinds.If) ∷ in_parentheses test ∷ consequent.value ∷ plain (a kinds.Else) ∷ alternate.value ∷ [])
statement_pieces (Stmt-F.Lexical node constant declarators) =
    node_of node (plain (let_or_const constant) ∷ declarators ∷ may_stand kinds.Semicolon ∷ [])
statement_pieces (Stmt-F.Empty node) = node_of node (plain (a kinds.Semicolon) ∷ [])
statement_pieces (Stmt-F.Expression node expression) = node_of node (expression ∷ may_stand kinds.Semicolon ∷ [])
statement_pieces (Stmt-F.DoWhile node body test) =
    node_of node
    (plain (a kinds.Do) ∷ body.value ∷ plain (a kinds.While) ∷ in_parentheses test ∷ may_stand kinds.Semicolon ∷ [])
statement_pieces (Stmt-F.While node test body) =
    node_of node (plain (a kinds.While) ∷ in_parentheses test ∷ body.value ∷ [])
statement_pieces (Stmt-F.For node initializer test update body) =
    node_of node
    (plain (a kinds.For) ∷ plain (a kinds.LeftParenthesis) ∷ (if_some initializer) ∷ plain (a kinds.Semicolon) ∷
    (if_some test) ∷ plain (a kinds.Semicolon) ∷ (if_some update) ∷ plain (a kinds.RightParenthesis)
    ∷ body.value ∷ [])
statement_pieces (Stmt-F.ForLexical node constant declarators test update body) =
    node_of node
    (plain (a kinds.For) ∷ plain (a kinds.LeftParenthesis) ∷ plain (let_or_const constant) ∷ declarators ∷ plain
    (a kinds.Semicolon) ∷ (if_some test) ∷ plain (a kinds.Semicolon) ∷ (if_some update) ∷ plain
    (a kinds.RightParenthesis) ∷ body.value ∷ [])
statement_pieces (Stmt-F.ForOf node constant name list body) =
    node_of node
    (plain (a kinds.For) ∷ plain (a kinds.LeftParenthesis) ∷ plain (let_or_const constant) ∷ plain
    (an_identifier name) ∷ plain (an_identifier (codes "of")) ∷ list ∷ plain (a kinds.RightParenthesis)
    ∷ body.value ∷ [])
statement_pieces (Stmt-F.Continue node) = node_of node (plain (a kinds.Continue) ∷ may_stand kinds.Semicolon ∷ [])
statement_pieces (Stmt-F.Break node) = node_of node (plain (a kinds.Break) ∷ may_stand kinds.Semicolon ∷ [])
statement_pieces (Stmt-F.Return node value) =
    node_of node (plain (a kinds.Return) ∷ (if_some value) ∷ may_stand kinds.Semicolon ∷ [])
statement_pieces (Stmt-F.Throw node value) =
    node_of node (plain (a kinds.Throw) ∷ value ∷ may_stand kinds.Semicolon ∷ [])
statement_pieces (Stmt-F.Try node block handler finalizer) =
    node_of node (plain (a kinds.Try) ∷ block ∷ (if_some handler) ∷ (finally_if_some finalizer) ∷ [])
statement_pieces (Stmt-F.Debugger node) = node_of node (plain (a kinds.Debugger) ∷ may_stand kinds.Semicolon ∷ [])
statement_pieces (Stmt-F.FunctionDeclaration node name parameters body) =
    node_of node
    (plain (a kinds.Function) ∷ plain (an_identifier name) ∷ plain (flat_parameters parameters)
    ∷ in_braces body ∷ [])

-- the places of a block
abbrev pub block_pieces : Pieces layers.Block-F → List FlatPlace
block_pieces b = node_of b.node (in_braces b.body ∷ [])

-- the places of a catch, which is no node of its own
abbrev pub catch_pieces : Pieces layers.Catch-F → List FlatPlace
catch_pieces c = in_turn (plain (a kinds.Catch) ∷ plain (flat_catch_parameter c.parameter) ∷ c.block ∷ [])

-- the places of a declarator, which is no node of its own
abbrev pub declarator_pieces : Pieces layers.Declarator-F → List FlatPlace
declarator_pieces d = plain (an_identifier d.name) ++ assign_if_some d.initializer

-- the places of declarators, with commas between
abbrev pub declarators_pieces : Pieces layers.Declarators-F → List FlatPlace
declarators_pieces ds = with_commas ds.items.items

-- the places of expressions, with commas between
abbrev pub expressions_pieces : Pieces layers.Exprs-F → List FlatPlace
expressions_pieces es = with_commas es.items.items

-- the places of members, with commas between
abbrev pub properties_pieces : Pieces layers.PropertyDefinitions-F → List FlatPlace
properties_pieces ps = with_commas ps.items.items

-- the places of statements, one after another
abbrev pub statements_pieces : Pieces layers.Stmts-F → List FlatPlace
statements_pieces ss = in_turn ss.items.items

-- ---- the places of each type of tree

-- the places of an expression
unfoldable pub expression_places : Expr → List FlatPlace
expression_places =
    fold-Expr (List FlatPlace) (List FlatPlace) (List FlatPlace) (List FlatPlace) (List FlatPlace) (List FlatPlace) (List FlatPlace) (List FlatPlace)
    (List FlatPlace) (List FlatPlace) (List FlatPlace)
    expression_pieces property_pieces key_pieces statement_pieces block_pieces catch_pieces declarator_pieces
    declarators_pieces expressions_pieces properties_pieces statements_pieces

-- the places of a member of an object literal
unfoldable pub property_places : PropertyDefinition → List FlatPlace
property_places =
    fold-PropertyDefinition (List FlatPlace) (List FlatPlace) (List FlatPlace) (List FlatPlace) (List FlatPlace) (List FlatPlace) (List FlatPlace)
    (List FlatPlace) (List FlatPlace) (List FlatPlace) (List FlatPlace)
    expression_pieces property_pieces key_pieces statement_pieces block_pieces catch_pieces declarator_pieces
    declarators_pieces expressions_pieces properties_pieces statements_pieces

-- the places of the key of a member
unfoldable pub key_places : PropertyName → List FlatPlace
key_places =
    fold-PropertyName (List FlatPlace) (List FlatPlace) (List FlatPlace) (List FlatPlace) (List FlatPlace) (List FlatPlace) (List FlatPlace)
    (List FlatPlace) (List FlatPlace) (List FlatPlace) (List FlatPlace)
    expression_pieces property_pieces key_pieces statement_pieces block_pieces catch_pieces declarator_pieces
    declarators_pieces expressions_pieces properties_pieces statements_pieces

-- the places of a statement or declaration
unfoldable pub statement_places : Stmt → List FlatPlace
statement_places =
    fold-Stmt (List FlatPlace) (List FlatPlace) (List FlatPlace) (List FlatPlace) (List FlatPlace) (List FlatPlace) (List FlatPlace) (List FlatPlace)
    (List FlatPlace) (List FlatPlace) (List FlatPlace)
    expression_pieces property_pieces key_pieces statement_pieces block_pieces catch_pieces declarator_pieces
    declarators_pieces expressions_pieces properties_pieces statements_pieces

-- the places of a block
unfoldable pub block_places : Block → List FlatPlace
block_places =
    fold-Block (List FlatPlace) (List FlatPlace) (List FlatPlace) (List FlatPlace) (List FlatPlace) (List FlatPlace) (List FlatPlace) (List FlatPlace)
    (List FlatPlace) (List FlatPlace) (List FlatPlace)
    expression_pieces property_pieces key_pieces statement_pieces block_pieces catch_pieces declarator_pieces
    declarators_pieces expressions_pieces properties_pieces statements_pieces

-- the places of a catch
unfoldable pub catch_places : Catch → List FlatPlace
catch_places =
    fold-Catch (List FlatPlace) (List FlatPlace) (List FlatPlace) (List FlatPlace) (List FlatPlace) (List FlatPlace) (List FlatPlace) (List FlatPlace)
    (List FlatPlace) (List FlatPlace) (List FlatPlace)
    expression_pieces property_pieces key_pieces statement_pieces block_pieces catch_pieces declarator_pieces
    declarators_pieces expressions_pieces properties_pieces statements_pieces

-- the places of a declarator
unfoldable pub declarator_places : Declarator → List FlatPlace
declarator_places =
    fold-Declarator (List FlatPlace) (List FlatPlace) (List FlatPlace) (List FlatPlace) (List FlatPlace) (List FlatPlace) (List FlatPlace)
    (List FlatPlace) (List FlatPlace) (List FlatPlace) (List FlatPlace)
    expression_pieces property_pieces key_pieces statement_pieces block_pieces catch_pieces declarator_pieces
    declarators_pieces expressions_pieces properties_pieces statements_pieces

-- the places of the declarators of a declaration
unfoldable pub declarators_places : Declarators → List FlatPlace
declarators_places =
    fold-Declarators (List FlatPlace) (List FlatPlace) (List FlatPlace) (List FlatPlace) (List FlatPlace) (List FlatPlace) (List FlatPlace)
    (List FlatPlace) (List FlatPlace) (List FlatPlace) (List FlatPlace)
    expression_pieces property_pieces key_pieces statement_pieces block_pieces catch_pieces declarator_pieces
    declarators_pieces expressions_pieces properties_pieces statements_pieces

-- the places of a list of expressions
unfoldable pub expressions_places : Exprs → List FlatPlace
expressions_places =
    fold-Exprs (List FlatPlace) (List FlatPlace) (List FlatPlace) (List FlatPlace) (List FlatPlace) (List FlatPlace) (List FlatPlace) (List FlatPlace)
    (List FlatPlace) (List FlatPlace) (List FlatPlace)
    expression_pieces property_pieces key_pieces statement_pieces block_pieces catch_pieces declarator_pieces
    declarators_pieces expressions_pieces properties_pieces statements_pieces

-- the places of the members of an object literal
unfoldable pub properties_places : PropertyDefinitions → List FlatPlace
properties_places =
    fold-PropertyDefinitions (List FlatPlace) (List FlatPlace) (List FlatPlace) (List FlatPlace) (List FlatPlace) (List FlatPlace) (List FlatPlace)
    (List FlatPlace) (List FlatPlace) (List FlatPlace) (List FlatPlace)
    expression_pieces property_pieces key_pieces statement_pieces block_pieces catch_pieces declarator_pieces
    declarators_pieces expressions_pieces properties_pieces statements_pieces

-- the places of a list of statements
unfoldable pub statements_places : Stmts → List FlatPlace
statements_places =
    fold-Stmts (List FlatPlace) (List FlatPlace) (List FlatPlace) (List FlatPlace) (List FlatPlace) (List FlatPlace) (List FlatPlace) (List FlatPlace)
    (List FlatPlace) (List FlatPlace) (List FlatPlace)
    expression_pieces property_pieces key_pieces statement_pieces block_pieces catch_pieces declarator_pieces
    declarators_pieces expressions_pieces properties_pieces statements_pieces

-- the places of an expression that may be left out
abbrev pub optional_places : Option Expr → List FlatPlace
optional_places e = if_some (option_map expression_places e)

-- the places of a catch that may be left out
abbrev pub handler_places : Option Catch → List FlatPlace
handler_places h = if_some (option_map catch_places h)

-- the places of a finally that may be left out, with its keyword
abbrev pub finalizer_places : Option Block → List FlatPlace
finalizer_places f = finally_if_some (option_map block_places f)

-- ---- numbers

-- the numbers of the nodes, in the order in which the nodes end
abbrev pub numbers_of : List FlatPlace → List ℕ
numbers_of [] = []
numbers_of (stands s ∷ ps) = numbers_of ps
numbers_of (stands_maybe kind ∷ ps) = numbers_of ps
numbers_of (opens n ∷ ps) = numbers_of ps
numbers_of (closes n ∷ ps) = n ∷ numbers_of ps

-- ---- spans

-- where the next token begins
abbrev pub start_of : Option Token → ℕ
start_of None = 0
start_of (Some t) = t.start

-- where the next token ends
abbrev pub end_of : Option Token → ℕ
end_of None = 0
end_of (Some t) = t.end

-- These places are the first of these tokens, with the others left, and each node's span goes from the start of its first token to the end of its last one. The token before them ends at `before`.
abbrev pub AreSpans : List Span → List FlatPlace → ℕ → List Token → List Token → Type 0
AreSpans spans [] before ts left = ts ≡ left
AreSpans spans (opens n ∷ ps) before ts left =
    ((span_of spans n).start ≡ start_of (head_of ts)) × AreSpans spans ps before ts left
AreSpans spans (closes n ∷ ps) before ts left = ((span_of spans n).end ≡ before) × AreSpans spans ps before ts left
AreSpans spans (stands s ∷ ps) before ts left =
    IsNext s (head_of ts) × AreSpans spans ps (end_of (head_of ts)) (tail_of ts) left
AreSpans spans (stands_maybe kind ∷ ps) before ts left =
    (IsNext (fixed kind) (head_of ts) × AreSpans spans ps (end_of (head_of ts)) (tail_of ts) left)
    ⊎ ((IsNext (fixed kind) (head_of ts) → ⊥) × AreSpans spans ps before ts left)
