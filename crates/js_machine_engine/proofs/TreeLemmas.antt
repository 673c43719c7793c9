-- The tree of a node that is no value is no value.
use Rattle.std.proofs.Common.{◌≡◌, ℕ, Bool, false, List, Option, None, Some, if◌then◌else◌, slice_get, ap}
use Rattle.js_semantics.specs.Terms.{Term, done, part, is_done}
use Rattle.js_machine_nodes.specs.declared.node.Node.{Node}
use Rattle.js_machine_nodes.specs.declared.table.NodeTable.{NodeTable}
use Rattle.js_machine_nodes.specs.Forms.{form_of}
use Rattle.js_machine_nodes.specs.Trees.{constant_at, kids_between, terms, node_term, tree_within, tree}
use Rattle.js_machine_engine.specs.Parts.{IsOpen}

open_term : (ts : List (List ℕ)) (t : NodeTable) (at : ℕ → Term) (o : Option Node)
    → IsOpen o
    → is_done (node_term ts t at o) ≡ false
open_term ts t at None o = absurd o
open_term ts t at (Some node) o =
    let P : Bool
    → Bool = λ b. is_done
    (if b then done (constant_at t node.info) else part (form_of ts t node.op node.info)
    (terms at (kids_between t node.first node.mid)) (terms at (kids_between t node.mid node.end)))
    in
    ap P o

pub open-tree : (ts : List (List ℕ)) (t : NodeTable) (n : ℕ)
    → IsOpen (slice_get t.nodes.items n)
    → is_done (tree ts t n) ≡ false
unfolding tree
open-tree ts t n o = open_term ts t (tree_within ts t n) (slice_get t.nodes.items n) o
