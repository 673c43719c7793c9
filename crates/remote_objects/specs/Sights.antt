-- What values are described by.
use Rattle.std.specs.Prelude.{ℕ, List}
use Rattle.js_heap.specs.World.{World}
use Rattle.js_tree.specs.declared.script.Script.{Script}

-- the world that they are of, the source of each node of a text that was evaluated, the scripts that functions are of,
-- and the number of the session that they are described for
pub record Sight : Type 0 where
  pub world : World
  pub node_text : List ℕ → ℕ → List ℕ
  pub scripts : List Script
  pub session : ℕ
