-- What is described of a world in the code.
use Rattle.std.specs.Prelude.{ℕ, List}
use Rattle.js_heap.specs.World.{World}
use Rattle.js_tree.specs.declared.script.Script.{Script}
use Rattle.remote_objects.specs.Sights.{Sight}

-- a world with the sources of nodes and with scripts, for a session
abbrev pub sight_of : (List ℕ → ℕ → List ℕ) → World → List Script → ℕ → Sight
sight_of node_text w scripts session = record { world = w; node_text = node_text; scripts = scripts; session = session }
