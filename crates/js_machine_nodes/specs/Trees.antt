-- The tree of each node.
use Rattle.std.specs.Prelude.{◌≡◌, ℕ, zero, suc, ◌-◌, ◌<◌, ◌≤◌, true, false, List, [], ◌∷◌, length, take, drop, Option, Some, None, slice_get, unwrap_or, if◌then◌else◌}
use Rattle.js_heap.specs.declared.value.Value.{Value}
use Rattle.js_heap.specs.declared.value.Value.TheVariants as values
use Rattle.js_semantics.specs.Terms.{Term, done, part, Terms, end, more}
use Rattle.js_semantics.specs.Functions.{SourceTree, Program}
use Rattle.js_machine_nodes.specs.declared.node.Node.{Node}
use Rattle.js_machine_nodes.specs.declared.node.SourceEntry.{SourceEntry}
use Rattle.js_machine_nodes.specs.declared.table.NodeTable.{NodeTable}
use Rattle.js_machine_nodes.specs.Ops.{is_literal, is_task_only, is_loop}
use Rattle.js_machine_nodes.specs.Forms.{form_of}

-- the part at a place of the list of parts; 0 where there is none
unfoldable pub kid_at : NodeTable → ℕ → ℕ
kid_at t i = unwrap_or (slice_get t.kids.items i) 0

-- the constant of a number; undefined where there is none
unfoldable pub constant_at : NodeTable → ℕ → Value
constant_at t n = unwrap_or (slice_get t.constants.items n) values.Undefined

-- the parts from a place up to another
abbrev pub kids_between : NodeTable → ℕ → ℕ → List ℕ
kids_between t from to = take (to - from) (drop from t.kids.items)

-- the terms of some nodes, by the term that each has
abbrev pub terms : (ℕ → Term) → List ℕ → Terms
terms at [] = end
terms at (k ∷ ks) = more (at k) (terms at ks)

-- ---- trees

-- one level of a node's tree, with the trees of its parts
abbrev pub node_term : List (List ℕ) → NodeTable → (ℕ → Term) → Option Node → Term
node_term ts t at None = done values.Undefined
node_term ts t at (Some n) =
    if is_literal n.op then done (constant_at t n.info)
    else part (form_of ts t n.op n.info) (terms at (kids_between t n.first n.mid))
    (terms at (kids_between t n.mid n.end))

-- the tree of a node, down to so many levels
abbrev pub tree_within : List (List ℕ) → NodeTable → ℕ → ℕ → Term
tree_within ts t zero n = done values.Undefined
tree_within ts t (suc fuel) n = node_term ts t (tree_within ts t fuel) (slice_get t.nodes.items n)

-- the tree of a node
unfoldable pub tree : List (List ℕ) → NodeTable → ℕ → Term
tree ts t n = tree_within ts t (suc n) n

-- the trees of the parts from a place up to another
abbrev pub trees : List (List ℕ) → NodeTable → ℕ → ℕ → Terms
trees ts t from to = terms (tree ts t) (kids_between t from to)

-- ---- tables: the parts of each node stand before it

-- all of these numbers are below one
abbrev pub EachBelow : ℕ → List ℕ → Type 0
EachBelow n [] = Unit {0}
EachBelow n (k ∷ ks) = (k < n) × EachBelow n ks

-- what holds of a node of a table: its parts stand before it, and it does nothing that comes up in a run alone
pub record IsNode (t : NodeTable) (n : ℕ) (node : Node) : Type 0 where
  pub before : EachBelow n (kids_between t node.first node.end)
  pub now : node.first ≤ node.mid
  pub later : node.mid ≤ node.end
  pub within : node.end ≤ length t.kids.items
  pub source : is_task_only node.op ≡ false
  pub turns : is_loop node.op ≡ true → node.info ≡ 0

-- what stands at this place of a table is a node of it, if anything does
abbrev pub IsNodeAt : NodeTable → ℕ → Option Node → Type 0
IsNodeAt t n None = Unit {0}
IsNodeAt t n (Some node) = IsNode t n node

-- all nodes of a table are such
pub record IsTable (t : NodeTable) : Type 0 where
  pub nodes : (n : ℕ) → IsNodeAt t n (slice_get t.nodes.items n)

-- a table in which nothing is yet
pub record IsEmpty (t : NodeTable) : Type 0 where
  pub nodes : t.nodes.items ≡ []
  pub functions : t.functions.items ≡ []
  pub sources : t.sources.items ≡ []

-- ---- the program

-- a source with the tree of its node
abbrev pub source_tree : List (List ℕ) → NodeTable → SourceEntry → SourceTree
source_tree ts t e = record { source = e.source; tree = tree ts t e.root }

-- some sources with the trees of their nodes
abbrev pub source_trees : List (List ℕ) → NodeTable → List SourceEntry → Program
source_trees ts t [] = []
source_trees ts t (e ∷ es) = source_tree ts t e ∷ source_trees ts t es

-- the sources with their trees, in which the code of functions is looked up
abbrev pub program_of : List (List ℕ) → NodeTable → Program
program_of ts t = source_trees ts t t.sources.items
