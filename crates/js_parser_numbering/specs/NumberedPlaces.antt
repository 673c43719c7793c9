-- Where the nodes of clean trees stand in their sources, numbered one after another, in the order in which they end.
use Rattle.std.specs.Prelude.{ℕ, List, [], ◌∷◌, ◌++◌, codes}
use Rattle.js_lexer.specs.declared.token.TokenKind.{TokenKind}
use Rattle.js_lexer.specs.declared.token.TokenKind.TheVariants as kinds
use Rattle.js_tree.specs.Trees as trees
use Rattle.js_tree.specs.Trees.{Expression, Expressions, OptionalExpression, Key, PropertyDefinition, PropertyDefinitions, Statement, Statements, Handler, Finalizer}
use Rattle.js_parser_language.specs.Tokens.{FlatToken, identifier_name, numeric_literal, string_literal}
use Rattle.js_parser_language.specs.Flat.{a, an_identifier, unary_kind, update_kind, binary_kind, assign_kind, flat_parameters, flat_arrow_parameters, flat_optional_name, flat_catch_parameter, flat_boolean, let_or_const}
use Rattle.js_parser_language.specs.Places.{FlatPlace, opens, closes, a_symbol, may_stand, plain}
use Rattle.js_parser_numbering.specs.Numbering.{Numbering, give, both, of_part, node}

-- the places of a part of a tree, from the first number for its nodes
abbrev pub Placing : Type 0
Placing = Numbering (List FlatPlace)

-- tokens, among which no node begins or ends
unfoldable pub tokens : List FlatToken → Placing
tokens ms = give (plain ms)

-- a semicolon or a comma that may be absent
unfoldable pub optional_token : TokenKind → Placing
optional_token kind = give (may_stand kind)

-- a part, and another behind it
abbrev pub before : Placing → Placing → Placing
before f g = of_part (λ x. x.0 ++ x.1) (both f g)

-- parts one after another
unfoldable pub in_row : List Placing → Placing
in_row [] = give []
in_row (f ∷ fs) = before f (in_row fs)

-- places between where the node of this number begins and where it ends
abbrev pub enclosed : ℕ → List FlatPlace → List FlatPlace
enclosed n ps = opens n ∷ (ps ++ (closes n ∷ []))

-- a node of these parts
unfoldable pub node_placed : List Placing → Placing
node_placed fs = node (λ n ps. enclosed n ps) (in_row fs)

-- a part in braces
abbrev pub braced : Placing → Placing
braced f = in_row (tokens (a kinds.LeftBrace) ∷ f ∷ tokens (a kinds.RightBrace) ∷ [])

-- a part in parentheses
abbrev pub parenthesized : Placing → Placing
parenthesized f = in_row (tokens (a kinds.LeftParenthesis) ∷ f ∷ tokens (a kinds.RightParenthesis) ∷ [])

-- parts, each behind a comma
unfoldable pub each_behind_comma : List Placing → Placing
each_behind_comma [] = give []
each_behind_comma (f ∷ fs) = in_row (tokens (a kinds.Comma) ∷ f ∷ each_behind_comma fs ∷ [])

-- parts with commas between them
unfoldable pub comma_separated : List Placing → Placing
comma_separated [] = give []
comma_separated (f ∷ fs) = before f (each_behind_comma fs)

-- the places of each type of tree, from the first number for its nodes
abbrev mutual
  -- the places of an expression
  pub expression_placed : Expression → Placing
  expression_placed trees.this = node_placed (tokens (a kinds.This) ∷ [])
  expression_placed (trees.name x) = node_placed (tokens (an_identifier x) ∷ [])
  expression_placed (trees.number v) = node_placed (tokens (a_symbol (numeric_literal v)) ∷ [])
  expression_placed (trees.string us) = node_placed (tokens (a_symbol (string_literal us)) ∷ [])
  expression_placed (trees.boolean b) = node_placed (tokens (flat_boolean b) ∷ [])
  expression_placed trees.null = node_placed (tokens (a kinds.Null) ∷ [])
  expression_placed (trees.array es) =
      node_placed
      (tokens (a kinds.LeftBracket) ∷ comma_separated (expressions_placed es) ∷ optional_token kinds.Comma ∷ tokens
      (a kinds.RightBracket) ∷ [])
  expression_placed (trees.object ps) =
      node_placed
      (tokens (a kinds.LeftBrace) ∷ comma_separated (properties_placed ps) ∷ optional_token kinds.Comma ∷ tokens
      (a kinds.RightBrace) ∷ [])
  expression_placed (trees.function x ps body) =
      node_placed
      (tokens (a kinds.Function) ∷ tokens (flat_optional_name x) ∷ tokens (flat_parameters ps) ∷ braced
      (in_row (statements_placed body)) ∷ [])
  expression_placed (trees.arrow ps e) =
      node_placed (tokens (flat_arrow_parameters ps) ∷ tokens (a kinds.Arrow) ∷ expression_placed e ∷ [])
  expression_placed (trees.arrow_block ps body) =
      node_placed
      (tokens (flat_arrow_parameters ps) ∷ tokens (a kinds.Arrow) ∷ braced (in_row (statements_placed body)) ∷ [])
  expression_placed (trees.parenthesized e) =
      node_placed (tokens (a kinds.LeftParenthesis) ∷ expression_placed e ∷ tokens (a kinds.RightParenthesis) ∷ [])
  expression_placed (trees.member e key) =
      node_placed (expression_placed e ∷ tokens (a kinds.Dot) ∷ tokens (a_symbol (identifier_name key)) ∷ [])
  expression_placed (trees.index e k) =
      node_placed
      (expression_placed e ∷ tokens (a kinds.LeftBracket) ∷ expression_placed k ∷ tokens (a kinds.RightBracket)
      ∷ [])
  expression_placed (trees.call f es) =
      node_placed
      (expression_placed f ∷ node_placed
      (tokens (a kinds.LeftParenthesis) ∷ comma_separated (expressions_placed es)
      ∷ optional_token kinds.Comma ∷ tokens (a kinds.RightParenthesis) ∷ [])
      ∷ [])
  expression_placed (trees.postfix o e) = node_placed (expression_placed e ∷ tokens (a (update_kind o)) ∷ [])
  expression_placed (trees.prefix o e) = node_placed (tokens (a (update_kind o)) ∷ expression_placed e ∷ [])
  expression_placed (trees.unary o e) = node_placed (tokens (a (unary_kind o)) ∷ expression_placed e ∷ [])
  expression_placed (trees.binary o l r) =
      node_placed (expression_placed l ∷ tokens (a (binary_kind o)) ∷ expression_placed r ∷ [])
  expression_placed (trees.conditional t c e) =
      node_placed
      (expression_placed t ∷ tokens (a kinds.Question) ∷ expression_placed c ∷ tokens (a kinds.Colon)
      ∷ expression_placed e ∷ [])
  expression_placed (trees.assign o t e) =
      node_placed (expression_placed t ∷ tokens (a (assign_kind o)) ∷ expression_placed e ∷ [])
  expression_placed (trees.comma es) = node_placed (comma_separated (expressions_placed es) ∷ [])

  -- the places of each of these expressions
  pub expressions_placed : Expressions → List Placing
  expressions_placed trees.no_expressions = []
  expressions_placed (trees.an_expression e es) = expression_placed e ∷ expressions_placed es

  -- the places of an expression that may be left out
  pub optional_placed : OptionalExpression → Placing
  optional_placed trees.omitted = in_row []
  optional_placed (trees.present e) = expression_placed e

  -- of the key of a member, which is no node of its own
  pub key_placed : Key → Placing
  key_placed (trees.word_key us) = tokens (a_symbol (identifier_name us))
  key_placed (trees.string_key us) = tokens (a_symbol (string_literal us))
  key_placed (trees.number_key v) = tokens (a_symbol (numeric_literal v))
  key_placed (trees.computed_key e) =
      in_row (tokens (a kinds.LeftBracket) ∷ expression_placed e ∷ tokens (a kinds.RightBracket) ∷ [])

  -- of a member of an object literal, of which a method alone is a node
  pub property_placed : PropertyDefinition → Placing
  property_placed (trees.shorthand n) = tokens (an_identifier n)
  property_placed (trees.value k e) = in_row (key_placed k ∷ tokens (a kinds.Colon) ∷ expression_placed e ∷ [])
  property_placed (trees.method k ps body) =
      node_placed (key_placed k ∷ tokens (flat_parameters ps) ∷ braced (in_row (statements_placed body)) ∷ [])

  -- the places of each of these members
  pub properties_placed : PropertyDefinitions → List Placing
  properties_placed trees.no_properties = []
  properties_placed (trees.a_property p ps) = property_placed p ∷ properties_placed ps

  -- of an initializer behind its `=`, which may be left out
  pub initializer_placed : OptionalExpression → Placing
  initializer_placed trees.omitted = in_row []
  initializer_placed (trees.present e) = before (tokens (a kinds.Assign)) (expression_placed e)

  -- of a declarator, which is no node of its own
  pub declarator_placed : trees.Declarator → Placing
  declarator_placed (trees.declarator n i) = before (tokens (an_identifier n)) (initializer_placed i)

  -- the places of each of these declarators
  pub declarators_placed : trees.Declarators → List Placing
  declarators_placed trees.no_declarators = []
  declarators_placed (trees.a_declarator d ds) = declarator_placed d ∷ declarators_placed ds

  -- the places of a statement or a declaration
  pub statement_placed : Statement → Placing
  statement_placed (trees.block ss) = node_placed (braced (in_row (statements_placed ss)) ∷ [])
  statement_placed (trees.lexical constant ds) =
      node_placed
      (tokens (let_or_const constant) ∷ comma_separated (declarators_placed ds)
      ∷ optional_token kinds.Semicolon ∷ [])
  statement_placed trees.empty = node_placed (tokens (a kinds.Semicolon) ∷ [])
  statement_placed (trees.expression e) = node_placed (expression_placed e ∷ optional_token kinds.Semicolon ∷ [])
  statement_placed (trees.if_then e s) =
      node_placed (tokens (a kinds.If) ∷ parenthesized (expression_placed e) ∷ statement_placed s ∷ [])
  statement_placed (trees.if_else e s t) =
      node_placed
      (tokens (a kinds.If) ∷ parenthesized (expression_placed e) ∷ statement_placed s ∷ tokens (a kinds.Else)
      ∷ statement_placed t ∷ [])
  statement_placed (trees.do_while s e) =
      node_placed
      (tokens (a kinds.Do) ∷ statement_placed s ∷ tokens (a kinds.While) ∷ parenthesized (expression_placed e)
      ∷ optional_token kinds.Semicolon ∷ [])
  statement_placed (trees.while e s) =
      node_placed (tokens (a kinds.While) ∷ parenthesized (expression_placed e) ∷ statement_placed s ∷ [])
  statement_placed (trees.for i t u s) =
      node_placed
      (tokens (a kinds.For) ∷ tokens (a kinds.LeftParenthesis) ∷ optional_placed i ∷ tokens (a kinds.Semicolon)
      ∷ optional_placed t ∷ tokens (a kinds.Semicolon) ∷ optional_placed u ∷ tokens (a kinds.RightParenthesis)
      ∷ statement_placed s ∷ [])
  statement_placed (trees.for_lexical constant ds t u s) =
      node_placed
      (tokens (a kinds.For) ∷ tokens (a kinds.LeftParenthesis) ∷ tokens (let_or_const constant) ∷ comma_separated
      (declarators_placed ds) ∷ tokens (a kinds.Semicolon) ∷ optional_placed t ∷ tokens (a kinds.Semicolon)
      ∷ optional_placed u ∷ tokens (a kinds.RightParenthesis) ∷ statement_placed s ∷ [])
  statement_placed (trees.for_of constant name e s) =
      node_placed
      (tokens (a kinds.For) ∷ tokens (a kinds.LeftParenthesis) ∷ tokens (let_or_const constant) ∷ tokens
      (an_identifier name) ∷ tokens (an_identifier (codes "of")) ∷ expression_placed e ∷ tokens
      (a kinds.RightParenthesis) ∷ statement_placed s ∷ [])
  statement_placed trees.continue = node_placed (tokens (a kinds.Continue) ∷ optional_token kinds.Semicolon ∷ [])
  statement_placed trees.break = node_placed (tokens (a kinds.Break) ∷ optional_token kinds.Semicolon ∷ [])
  statement_placed (trees.return e) =
      node_placed (tokens (a kinds.Return) ∷ optional_placed e ∷ optional_token kinds.Semicolon ∷ [])
  statement_placed (trees.throw e) =
      node_placed (tokens (a kinds.Throw) ∷ expression_placed e ∷ optional_token kinds.Semicolon ∷ [])
  statement_placed (trees.try ss h f) =
      node_placed
      (tokens (a kinds.Try) ∷ node_placed (braced (in_row (statements_placed ss)) ∷ [])
      ∷ handler_placed h ∷ finalizer_placed f ∷ [])
  statement_placed trees.debugger = node_placed (tokens (a kinds.Debugger) ∷ optional_token kinds.Semicolon ∷ [])
  statement_placed (trees.declared_function name ps body) =
      node_placed
      (tokens (a kinds.Function) ∷ tokens (an_identifier name) ∷ tokens (flat_parameters ps) ∷ braced
      (in_row (statements_placed body)) ∷ [])

  -- of a catch, which may be left out and is no node of its own
  pub handler_placed : Handler → Placing
  handler_placed trees.no_catch = in_row []
  handler_placed (trees.catch n ss) =
      in_row (tokens (a kinds.Catch) ∷ tokens (flat_catch_parameter n) ∷ node_placed
      (braced (in_row (statements_placed ss)) ∷ []) ∷ [])

  -- of a finally, which may be left out and is no node of its own
  pub finalizer_placed : Finalizer → Placing
  finalizer_placed trees.no_finally = in_row []
  finalizer_placed (trees.finally ss) =
      before (tokens (a kinds.Finally)) (node_placed (braced (in_row (statements_placed ss)) ∷ []))

  -- the places of each of these statements
  pub statements_placed : Statements → List Placing
  statements_placed trees.no_statements = []
  statements_placed (trees.a_statement s ss) = statement_placed s ∷ statements_placed ss

-- The places of an expression whose nodes have the numbers from 0 on.
unfoldable pub numbered_places : Expression → List FlatPlace
numbered_places e = (expression_placed e 0).value
