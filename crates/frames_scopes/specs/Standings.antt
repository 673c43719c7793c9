-- Where frames may be walked over.
use Rattle.std.specs.Prelude.{◌≡◌, ◌<◌, ◌^◌, ℕ, List, length, map, All}
use Rattle.js_heap.specs.declared.value.Addr.{Addr}
use Rattle.js_tree.specs.declared.script.Script.{Script}
use Rattle.js_machine_nodes.specs.declared.table.NodeTable.{NodeTable}
use Rattle.js_machine_nodes.specs.Trees.{IsTable}
use Rattle.js_machine_engine.specs.declared.task.Point.{Point}
use Rattle.js_machine_engine.specs.Tasks.{Wide, InScopes}
use Rattle.js_machine_engine.specs.Points.{IsAt}
use Rattle.js_machine_inspection.specs.Walks.{IsWalked}
use Rattle.js_machine_inspection.specs.declared.walks.Walked.{Walked}
use Rattle.frames_scopes.specs.Places.{starts_of}

-- the tasks of a machine stand in its code, which is in order; the lines are those of the scripts, none of which is
-- longer than lines and columns can count
pub record CanWalk (t : NodeTable) (root : Addr) (ws : List Wide) (p : Point) (scripts : List Script)
    (lines : List (List ℕ)) : Type 0 where
  pub table : IsTable t
  pub stands : IsAt t ws p
  pub scoped : InScopes t root ws
  pub lined : lines ≡ map starts_of scripts
  pub short : All (λ s. length s.source < 2 ^ 32) scripts

-- a walk over them has come so far
pub record IsWalkedOver (t : NodeTable) (root : Addr) (ws : List Wide) (p : Point) (scripts : List Script)
    (lines : List (List ℕ)) (w : Walked) : Type 0 where
  pub walks : CanWalk t root ws p scripts lines
  pub walked : IsWalked root ws w
