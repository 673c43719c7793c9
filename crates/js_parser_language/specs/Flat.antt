-- The flat tokens of a tree: its tokens in order, with every semicolon and every trailing comma.
use Rattle.std.specs.Prelude.{Bool, true, false, List, [], ◌∷◌, ◌++◌, Option, Some, None, codes}
use Rattle.js_lexer.specs.declared.token.TokenKind.{TokenKind}
use Rattle.js_lexer.specs.declared.token.TokenKind.TheVariants as kinds
use Rattle.js_tree_operators.specs.declared.operator.UnaryOperator.{UnaryOperator}
use Rattle.js_tree_operators.specs.declared.operator.UnaryOperator.TheVariants as unaries
use Rattle.js_tree_operators.specs.declared.operator.UpdateOperator.{UpdateOperator}
use Rattle.js_tree_operators.specs.declared.operator.UpdateOperator.TheVariants as updates
use Rattle.js_tree_operators.specs.declared.operator.BinaryOperator.{BinaryOperator}
use Rattle.js_tree_operators.specs.declared.operator.BinaryOperator.TheVariants as binaries
use Rattle.js_tree_operators.specs.declared.operator.AssignmentOperator.{AssignmentOperator}
use Rattle.js_tree_operators.specs.declared.operator.AssignmentOperator.TheVariants as assigns
use Rattle.js_tree.specs.Trees.{Identifier, Parameters, one_name, name_list, Expression, this, name, number, string, boolean, null, array, object, function, arrow, arrow_block, parenthesized, member, index, call, postfix, prefix, unary, binary, conditional, assign, comma, Expressions, no_expressions, an_expression, OptionalExpression, omitted, present, Key, word_key, string_key, number_key, computed_key, PropertyDefinition, shorthand, value, method, PropertyDefinitions, no_properties, a_property, Declarator, declarator, Declarators, no_declarators, a_declarator, Statement, block, lexical, empty, expression, if_then, if_else, do_while, while, for, for_lexical, for_of, continue, break, return, throw, try, debugger, declared_function, Handler, no_catch, catch, Finalizer, no_finally, finally, Statements, no_statements, a_statement}
use Rattle.js_parser_language.specs.Tokens.{fixed, identifier, identifier_name, numeric_literal, string_literal, ExpressionEnd, plain, braces, update, StatementEnd, after_expression, after_word, after_do, FlatToken, token, beside, semicolon, trailing_comma}

-- ---- operators

-- the token of an operator in front of its operand
abbrev pub unary_kind : UnaryOperator → TokenKind
unary_kind unaries.Delete = kinds.Delete
unary_kind unaries.Void = kinds.Void
unary_kind unaries.Typeof = kinds.Typeof
unary_kind unaries.Plus = kinds.Plus
unary_kind unaries.Minus = kinds.Minus
unary_kind unaries.BitwiseNot = kinds.BitwiseNot
unary_kind unaries.LogicalNot = kinds.LogicalNot

-- the token of an update operator
abbrev pub update_kind : UpdateOperator → TokenKind
update_kind updates.Increment = kinds.Increment
update_kind updates.Decrement = kinds.Decrement

-- the token of an operator between two operands
abbrev pub binary_kind : BinaryOperator → TokenKind
binary_kind binaries.LogicalOr = kinds.LogicalOr
binary_kind binaries.LogicalAnd = kinds.LogicalAnd
binary_kind binaries.BitwiseOr = kinds.BitwiseOr
binary_kind binaries.BitwiseXor = kinds.BitwiseXor
binary_kind binaries.BitwiseAnd = kinds.BitwiseAnd
binary_kind binaries.Equal = kinds.Equal
binary_kind binaries.NotEqual = kinds.NotEqual
binary_kind binaries.StrictEqual = kinds.StrictEqual
binary_kind binaries.StrictNotEqual = kinds.StrictNotEqual
binary_kind binaries.LessThan = kinds.LessThan
binary_kind binaries.GreaterThan = kinds.GreaterThan
binary_kind binaries.LessThanOrEqual = kinds.LessThanOrEqual
binary_kind binaries.GreaterThanOrEqual = kinds.GreaterThanOrEqual
binary_kind binaries.LeftShift = kinds.LeftShift
binary_kind binaries.RightShift = kinds.RightShift
binary_kind binaries.UnsignedRightShift = kinds.UnsignedRightShift
binary_kind binaries.Add = kinds.Plus
binary_kind binaries.Subtract = kinds.Minus
binary_kind binaries.Multiply = kinds.Multiply
binary_kind binaries.Divide = kinds.Divide
binary_kind binaries.Remainder = kinds.Remainder

-- the token of an assignment operator
abbrev pub assign_kind : AssignmentOperator → TokenKind
assign_kind assigns.Assign = kinds.Assign
assign_kind assigns.Add = kinds.AddAssign
assign_kind assigns.Subtract = kinds.SubtractAssign
assign_kind assigns.Multiply = kinds.MultiplyAssign
assign_kind assigns.Divide = kinds.DivideAssign
assign_kind assigns.Remainder = kinds.RemainderAssign
assign_kind assigns.LeftShift = kinds.LeftShiftAssign
assign_kind assigns.RightShift = kinds.RightShiftAssign
assign_kind assigns.UnsignedRightShift = kinds.UnsignedRightShiftAssign
assign_kind assigns.BitwiseAnd = kinds.BitwiseAndAssign
assign_kind assigns.BitwiseOr = kinds.BitwiseOrAssign
assign_kind assigns.BitwiseXor = kinds.BitwiseXorAssign

-- ---- where a statement ends

-- what the last token of an expression ends
abbrev mutual
  -- what the last token of an expression ends
  pub edge : Expression → ExpressionEnd
  edge (arrow ps e) = edge e
  edge (arrow_block ps body) = braces
  edge (postfix o e) = update
  edge (unary o e) = edge e
  edge (binary o l r) = edge r
  edge (conditional t c a) = edge a
  edge (assign o t v) = edge v
  edge (comma es) = edge_of_last es
  edge _ = plain

  -- what the last token of the last of some expressions ends
  pub edge_of_last : Expressions → ExpressionEnd
  edge_of_last no_expressions = plain
  edge_of_last (an_expression e no_expressions) = edge e
  edge_of_last (an_expression e (an_expression f es)) = edge_of_last (an_expression f es)

-- what a let or const ends in
abbrev pub end_of_declarators : Declarators → StatementEnd
end_of_declarators no_declarators = after_word
end_of_declarators (a_declarator (declarator n omitted) no_declarators) = after_word
end_of_declarators (a_declarator (declarator n (present e)) no_declarators) = after_expression (edge e)
end_of_declarators (a_declarator d (a_declarator c ds)) = end_of_declarators (a_declarator c ds)

-- ---- marks

-- these pieces one after another
abbrev pub in_order : List (List FlatToken) → List FlatToken
in_order [] = []
in_order (ms ∷ pieces) = ms ++ in_order pieces

-- one token
abbrev pub a : TokenKind → List FlatToken
a k = token (fixed k) ∷ []

-- one token, with no line terminator before it
abbrev pub beside_last : TokenKind → List FlatToken
beside_last k = beside (fixed k) ∷ []

-- a name that isn't reserved
abbrev pub an_identifier : Identifier → List FlatToken
an_identifier n = token (identifier n) ∷ []

-- the semicolon of a statement that ends so
abbrev pub ends : StatementEnd → List FlatToken
ends end = semicolon end ∷ []

-- pieces of which the first token has no line terminator before it
abbrev pub on_line : List FlatToken → List FlatToken
on_line (token s ∷ ms) = beside s ∷ ms
on_line ms = ms

-- names behind the first, each behind a comma
abbrev pub more_names : List Identifier → List FlatToken
more_names [] = []
more_names (n ∷ ns) = token (fixed kinds.Comma) ∷ token (identifier n) ∷ more_names ns

-- names with commas between, and a trailing comma where there is a name
abbrev pub flat_names : List Identifier → List FlatToken
flat_names [] = []
flat_names (n ∷ ns) = token (identifier n) ∷ (more_names ns ++ (trailing_comma ∷ []))

-- names in parentheses
abbrev pub flat_parameters : List Identifier → List FlatToken
flat_parameters ns = in_order (a kinds.LeftParenthesis ∷ flat_names ns ∷ a kinds.RightParenthesis ∷ [])

-- the parameters of an arrow function: one name, or names in parentheses
abbrev pub flat_arrow_parameters : Parameters → List FlatToken
flat_arrow_parameters (one_name n) = an_identifier n
flat_arrow_parameters (name_list ns) = flat_parameters ns

-- the name of a function expression, which may be left out
abbrev pub flat_optional_name : Option Identifier → List FlatToken
flat_optional_name None = []
flat_optional_name (Some n) = an_identifier n

-- the name of a catch in its parentheses, which may be left out
abbrev pub flat_catch_parameter : Option Identifier → List FlatToken
flat_catch_parameter None = []
flat_catch_parameter (Some n) = in_order (a kinds.LeftParenthesis ∷ an_identifier n ∷ a kinds.RightParenthesis ∷ [])

-- `true` or `false`
abbrev pub flat_boolean : Bool → List FlatToken
flat_boolean true = a kinds.True
flat_boolean false = a kinds.False

-- the keyword of a declaration, of names that are constant or not
abbrev pub let_or_const : Bool → List FlatToken
let_or_const true = a kinds.Const
let_or_const false = a kinds.Let

-- a trailing comma behind a list that isn't empty
abbrev pub trailing : Expressions → List FlatToken
trailing no_expressions = []
trailing (an_expression e es) = trailing_comma ∷ []

-- a trailing comma behind members, where there is one at least
abbrev pub trailing_property : PropertyDefinitions → List FlatToken
trailing_property no_properties = []
trailing_property (a_property p ps) = trailing_comma ∷ []

-- statements in braces
abbrev pub in_braces : List FlatToken → List FlatToken
in_braces ms = in_order (a kinds.LeftBrace ∷ ms ∷ a kinds.RightBrace ∷ [])

-- the flat tokens of each form
abbrev mutual
  -- the flat tokens of an expression
  pub flat : Expression → List FlatToken
  flat this = a kinds.This
  flat (name n) = an_identifier n
  flat (number v) = token (numeric_literal v) ∷ []
  flat (string v) = token (string_literal v) ∷ []
  flat (boolean v) = flat_boolean v
  flat null = a kinds.Null
  flat (array es) = in_order (a kinds.LeftBracket ∷ flat_expressions es ∷ trailing es ∷ a kinds.RightBracket ∷ [])
  flat (object ps) = in_order (a kinds.LeftBrace ∷ flat_properties ps ∷ trailing_property ps ∷ a kinds.RightBrace ∷ [])
  flat (function n ps body) =
      in_order (a kinds.Function ∷ flat_optional_name n ∷ flat_parameters ps ∷ in_braces (flat_statements body) ∷ [])
  flat (arrow ps e) = in_order (flat_arrow_parameters ps ∷ beside_last kinds.Arrow ∷ flat e ∷ [])
  flat (arrow_block ps body) =
      in_order (flat_arrow_parameters ps ∷ beside_last kinds.Arrow ∷ in_braces (flat_statements body) ∷ [])
  flat (parenthesized e) = in_order (a kinds.LeftParenthesis ∷ flat e ∷ a kinds.RightParenthesis ∷ [])
  flat (member e n) = in_order (flat e ∷ a kinds.Dot ∷ (token (identifier_name n) ∷ []) ∷ [])
  flat (index e k) = in_order (flat e ∷ a kinds.LeftBracket ∷ flat k ∷ a kinds.RightBracket ∷ [])
  flat (call f es) =
      in_order (flat f ∷ a kinds.LeftParenthesis ∷ flat_expressions es ∷ trailing es ∷ a kinds.RightParenthesis ∷ [])
  flat (postfix o e) = in_order (flat e ∷ beside_last (update_kind o) ∷ [])
  flat (prefix o e) = in_order (a (update_kind o) ∷ flat e ∷ [])
  flat (unary o e) = in_order (a (unary_kind o) ∷ flat e ∷ [])
  flat (binary o l r) = in_order (flat l ∷ a (binary_kind o) ∷ flat r ∷ [])
  flat (conditional t c e) = in_order (flat t ∷ a kinds.Question ∷ flat c ∷ a kinds.Colon ∷ flat e ∷ [])
  flat (assign o t v) = in_order (flat t ∷ a (assign_kind o) ∷ flat v ∷ [])
  flat (comma es) = flat_expressions es

  -- expressions with commas between
  pub flat_expressions : Expressions → List FlatToken
  flat_expressions no_expressions = []
  flat_expressions (an_expression e es) = flat e ++ more_expressions es

  -- expressions behind the first, each behind a comma
  pub more_expressions : Expressions → List FlatToken
  more_expressions no_expressions = []
  more_expressions (an_expression e es) = in_order (a kinds.Comma ∷ flat e ∷ more_expressions es ∷ [])

  -- the flat tokens of an expression that may be left out
  pub flat_optional : OptionalExpression → List FlatToken
  flat_optional omitted = []
  flat_optional (present e) = flat e

  -- the flat tokens of a key
  pub flat_key : Key → List FlatToken
  flat_key (word_key n) = token (identifier_name n) ∷ []
  flat_key (string_key v) = token (string_literal v) ∷ []
  flat_key (number_key v) = token (numeric_literal v) ∷ []
  flat_key (computed_key e) = in_order (a kinds.LeftBracket ∷ flat e ∷ a kinds.RightBracket ∷ [])

  -- the flat tokens of a member of an object literal
  pub flat_property : PropertyDefinition → List FlatToken
  flat_property (shorthand n) = an_identifier n
  flat_property (value k e) = in_order (flat_key k ∷ a kinds.Colon ∷ flat e ∷ [])
  flat_property (method k ps body) = in_order (flat_key k ∷ flat_parameters ps ∷ in_braces (flat_statements body) ∷ [])

  -- members with commas between
  pub flat_properties : PropertyDefinitions → List FlatToken
  flat_properties no_properties = []
  flat_properties (a_property p ps) = flat_property p ++ more_properties ps

  -- members after the first, each after a comma
  pub more_properties : PropertyDefinitions → List FlatToken
  more_properties no_properties = []
  more_properties (a_property p ps) = in_order (a kinds.Comma ∷ flat_property p ∷ more_properties ps ∷ [])

  -- the flat tokens of a declarator
  pub flat_declarator : Declarator → List FlatToken
  flat_declarator (declarator n omitted) = an_identifier n
  flat_declarator (declarator n (present e)) = in_order (an_identifier n ∷ a kinds.Assign ∷ flat e ∷ [])

  -- declarators with commas between
  pub flat_declarators : Declarators → List FlatToken
  flat_declarators no_declarators = []
  flat_declarators (a_declarator d ds) = flat_declarator d ++ more_declarators ds

  -- declarators after the first, each after a comma
  pub more_declarators : Declarators → List FlatToken
  more_declarators no_declarators = []
  more_declarators (a_declarator d ds) = in_order (a kinds.Comma ∷ flat_declarator d ∷ more_declarators ds ∷ [])

  -- the flat tokens of a statement or a declaration
  pub flat_statement : Statement → List FlatToken
  flat_statement (block ss) = in_braces (flat_statements ss)
  flat_statement (lexical c ds) = in_order (let_or_const c ∷ flat_declarators ds ∷ ends (end_of_declarators ds) ∷ [])
  flat_statement empty = a kinds.Semicolon
  flat_statement (expression e) = in_order (flat e ∷ ends (after_expression (edge e)) ∷ [])
  flat_statement (if_then e s) =
      in_order (a kinds.If ∷ a kinds.LeftParenthesis ∷ flat e ∷ a kinds.RightParenthesis ∷ flat_statement s ∷ [])
  flat_statement (if_else e s t) =
      in_order (a kinds.If ∷ a kinds.LeftParenthesis ∷ flat e ∷ a kinds.RightParenthesis ∷ flat_statement s ∷ a
      kinds.Else ∷ flat_statement t ∷ [])
  flat_statement (do_while s e) =
      in_order (a kinds.Do ∷ flat_statement s ∷ a kinds.While ∷ a kinds.LeftParenthesis ∷ flat e ∷ a
      kinds.RightParenthesis ∷ ends after_do ∷ [])
  flat_statement (while e s) =
      in_order (a kinds.While ∷ a kinds.LeftParenthesis ∷ flat e ∷ a kinds.RightParenthesis ∷ flat_statement s ∷ [])
  flat_statement (for i t u s) =
      in_order (a kinds.For ∷ a kinds.LeftParenthesis ∷ flat_optional i ∷ a kinds.Semicolon ∷ flat_optional t ∷ a
      kinds.Semicolon ∷ flat_optional u ∷ a kinds.RightParenthesis ∷ flat_statement s ∷ [])
  flat_statement (for_lexical c ds t u s) =
      in_order (a kinds.For ∷ a kinds.LeftParenthesis ∷ let_or_const c ∷ flat_declarators ds ∷ a kinds.Semicolon ∷
      flat_optional t ∷ a kinds.Semicolon ∷ flat_optional u ∷ a kinds.RightParenthesis ∷ flat_statement s ∷ [])
  flat_statement (for_of c n e s) =
      in_order (a kinds.For ∷ a kinds.LeftParenthesis ∷ let_or_const c ∷ an_identifier n ∷ an_identifier (codes "of")
      ∷ flat e ∷ a kinds.RightParenthesis ∷ flat_statement s ∷ [])
  flat_statement continue = in_order (a kinds.Continue ∷ ends after_word ∷ [])
  flat_statement break = in_order (a kinds.Break ∷ ends after_word ∷ [])
  flat_statement (return omitted) = in_order (a kinds.Return ∷ ends after_word ∷ [])
  flat_statement (return (present e)) =
      in_order (a kinds.Return ∷ on_line (flat e) ∷ ends (after_expression (edge e)) ∷ [])
  flat_statement (throw e) = in_order (a kinds.Throw ∷ on_line (flat e) ∷ ends (after_expression (edge e)) ∷ [])
  flat_statement (try ss h f) =
      in_order (a kinds.Try ∷ in_braces (flat_statements ss) ∷ flat_handler h ∷ flat_finalizer f ∷ [])
  flat_statement debugger = in_order (a kinds.Debugger ∷ ends after_word ∷ [])
  flat_statement (declared_function n ps body) =
      in_order (a kinds.Function ∷ an_identifier n ∷ flat_parameters ps ∷ in_braces (flat_statements body) ∷ [])

  -- the flat tokens of a catch, which may be left out
  pub flat_handler : Handler → List FlatToken
  flat_handler no_catch = []
  flat_handler (catch n ss) = in_order (a kinds.Catch ∷ flat_catch_parameter n ∷ in_braces (flat_statements ss) ∷ [])

  -- the flat tokens of a finally, which may be left out
  pub flat_finalizer : Finalizer → List FlatToken
  flat_finalizer no_finally = []
  flat_finalizer (finally ss) = in_order (a kinds.Finally ∷ in_braces (flat_statements ss) ∷ [])

  -- statements one after another
  pub flat_statements : Statements → List FlatToken
  flat_statements no_statements = []
  flat_statements (a_statement s ss) = flat_statement s ++ flat_statements ss
