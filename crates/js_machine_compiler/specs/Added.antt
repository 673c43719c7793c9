-- A table with one more node.
use Rattle.std.specs.Prelude.{◌≡◌, ℕ, ◌+◌, List, [], ◌∷◌, ◌++◌, length}
use Rattle.js_machine_nodes.specs.declared.op.Op.{Op}
use Rattle.js_machine_nodes.specs.declared.node.Node.{Node}
use Rattle.js_machine_nodes.specs.declared.table.NodeTable.{NodeTable}

-- the node that stands behind a list of parts and those that are added
abbrev pub node_behind : List ℕ → Op → ℕ → List ℕ → List ℕ → Node
node_behind kids op info now later =
    record {
      op = op;
      info = info;
      first = length kids;
      mid = length kids + length now;
      end = length kids + length now + length later;
    }

-- a table with one node more, of these parts, and all entries as they were
pub record IsNodeAdded (t u : NodeTable) (op : Op) (info : ℕ) (now later : List ℕ) (n : ℕ) : Type 0 where
  pub number : n ≡ length t.nodes.items
  pub nodes : u.nodes.items ≡ t.nodes.items ++ node_behind t.kids.items op info now later ∷ []
  pub kids : u.kids.items ≡ (t.kids.items ++ now) ++ later
  pub constants : u.constants ≡ t.constants
  pub blocks : u.blocks ≡ t.blocks
  pub scripts : u.scripts ≡ t.scripts
  pub fors : u.fors ≡ t.fors
  pub for_ofs : u.for_ofs ≡ t.for_ofs
  pub functions : u.functions ≡ t.functions
  pub objects : u.objects ≡ t.objects
  pub calls : u.calls ≡ t.calls
  pub sources : u.sources ≡ t.sources
