-- Where a machine stands.
use Rattle.std.specs.Prelude.{◌≡◌, ℕ, false, List, [], ◌∷◌, Option, Some, None, slice_get}
use Rattle.js_heap.specs.declared.value.Value.TheVariants as values
use Rattle.js_semantics.specs.Terms.{Term, done, standing}
use Rattle.js_machine_nodes.specs.declared.node.Node.{Node}
use Rattle.js_machine_nodes.specs.declared.table.NodeTable.{NodeTable}
use Rattle.js_machine_nodes.specs.Ops.{is_literal}
use Rattle.js_machine_nodes.specs.Trees.{tree}
use Rattle.js_machine_engine.specs.declared.task.Point.{Point}
use Rattle.js_machine_engine.specs.declared.task.Point.TheVariants as points
use Rattle.js_machine_engine.specs.Gaps.{plugged}
use Rattle.js_machine_engine.specs.Tasks.{Wide, gaps_of, redex_of}

-- the innermost task waits for its row
abbrev pub row_term : List (List ℕ) → NodeTable → List Wide → Term
row_term ts t [] = done values.Undefined
row_term ts t (w ∷ ws) = plugged (gaps_of ts t ws) (redex_of ts t w)

-- the residual term of a machine with these tasks, from the innermost one
unfoldable pub term_at : List (List ℕ) → NodeTable → List Wide → Point → Term
term_at ts t ws points.Row = row_term ts t ws
term_at ts t ws (points.Leaf n) = plugged (gaps_of ts t ws) (tree ts t n)
term_at ts t ws (points.Stands v spot) = plugged (gaps_of ts t ws) (standing v spot)
term_at ts t ws (points.Done v) = plugged (gaps_of ts t ws) (done v)

-- ---- what holds where a machine stands

-- a node without parts to reduce, and no value
pub record IsLeaf (node : Node) : Type 0 where
  pub parts : node.first ≡ node.mid
  pub value : is_literal node.op ≡ false

-- there is a node, and it has no parts to reduce
abbrev pub IsLeafAt : Option Node → Type 0
IsLeafAt None = ⊥
IsLeafAt (Some node) = IsLeaf node

-- there is a task, and all of its parts have their values
abbrev pub IsAtRow : List Wide → Type 0
IsAtRow [] = ⊥
IsAtRow (w ∷ ws) = w.at ≡ w.mid

-- what holds of the tasks and the nodes at this point
abbrev pub IsAt : NodeTable → List Wide → Point → Type 0
IsAt t ws points.Row = IsAtRow ws
IsAt t ws (points.Leaf n) = IsLeafAt (slice_get t.nodes.items n)
IsAt t ws (points.Stands v spot) = Unit {0}
IsAt t ws (points.Done v) = ws ≡ []
