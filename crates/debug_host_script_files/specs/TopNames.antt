-- The names that scripts declare at their top.
use Rattle.std.specs.Prelude.{ℕ, List, [], ◌∷◌, ◌++◌}
use Rattle.js_tree.specs.declared.script.Script.{Script}
use Rattle.js_tree.specs.Views.{statements_view}
use Rattle.js_parser_language.specs.Well.{declared_names}

-- the names that a script declares at its top (ECMA-262, 16.1.1, LexicallyDeclaredNames)
abbrev pub declared_by_script : Script → List (List ℕ)
declared_by_script s = declared_names (statements_view s.body)

-- the names that some scripts declare at their tops, in order
abbrev pub declared_in : List Script → List (List ℕ)
declared_in [] = []
declared_in (s ∷ ss) = declared_by_script s ++ declared_in ss
