-- Which sources are in the language.
use Rattle.std.specs.Prelude.{◌≡◌, true, List, [], ◌++◌}
use Rattle.js_tree.specs.Trees.{Identifier, Expression, Statements}
use Rattle.js_parser_language.specs.Tokens.{Token, Matches}
use Rattle.js_parser_language.specs.Flat.{flat, flat_statements}
use Rattle.js_parser_language.specs.Well.{Well, WellScript, is_function}

-- The tokens are a script with this tree, where earlier scripts declare these names (ECMA-262, 16.1).
pub record IsScript (earlier : List Identifier) (ts : List Token) (body : Statements) : Type 0 where
  pub well : WellScript earlier body
  pub spelled : Matches (flat_statements body) ts []

-- The tokens are an expression with this tree (13.16).
pub record IsExpression (ts : List Token) (e : Expression) : Type 0 where
  pub well : Well e
  pub spelled : Matches (flat e) ts []

-- The tokens are a function expression or an arrow function with this tree (15.2, 15.3).
pub record IsFunction (ts : List Token) (e : Expression) : Type 0 where
  pub form : is_function e ≡ true
  pub well : Well e
  pub spelled : Matches (flat e) ts []

-- The tokens are in a language of trees.
abbrev pub InLanguage : {Tree : Type 0} → (List Token → Tree → Type 0) → List Token → Type 0
InLanguage {Tree} Is ts = (t : Tree) × Is ts t

-- The tokens are the first ones of a source in the language, whatever its size.
abbrev pub BeginsLanguage : {Tree : Type 0} → (List Token → Tree → Type 0) → List Token → Type 0
BeginsLanguage Is ts = (rest : List Token) × InLanguage Is (ts ++ rest)
