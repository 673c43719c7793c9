-- The string literals of parts of statements.
use Rattle.std.specs.Prelude.{ℕ, List, [], ◌++◌, Option, Some, None}
use Rattle.std.specs.Global.{Box}
use Rattle.js_tree.specs.declared.tree.Stmt.{Stmt}
use Rattle.js_tree.specs.Trees.{Statement}
use Rattle.js_tree.specs.Views.{statement_view}
use Rattle.js_semantics.specs.Literals.{statement_literals, declared_literals}

-- the string literals of a parser's statement
abbrev pub literals_of : Stmt → List (List ℕ)
literals_of s = statement_literals (statement_view s)

-- the string literals of the statement after `else`, where there is one
abbrev pub alternate_literals : Option (Box Stmt) → List (List ℕ)
alternate_literals None = []
alternate_literals (Some b) = literals_of b.value

-- the string literals of a statement of a list
abbrev pub item_literals : Statement → List (List ℕ)
item_literals s = declared_literals s ++ statement_literals s
