-- Tables that mean the same however they go on: what nodes and sources name by number is there.
use Rattle.std.specs.Prelude.{◌≡◌, ℕ, ◌<◌, ◌≤◌, Bool, true, List, Some, length, slice_get, nat_lt}
use Rattle.js_semantics.specs.Functions.{function_in}
use Rattle.js_machine_nodes.specs.declared.op.Op.{Op}
use Rattle.js_machine_nodes.specs.declared.op.Op.TheVariants as ops
use Rattle.js_machine_nodes.specs.declared.node.Node.{Node}
use Rattle.js_machine_nodes.specs.declared.node.FunctionEntry.{FunctionEntry}
use Rattle.js_machine_nodes.specs.declared.node.SourceEntry.{SourceEntry}
use Rattle.js_machine_nodes.specs.declared.table.NodeTable.{NodeTable}
use Rattle.js_machine_nodes.specs.Codes.{HasFunctions, indexed_code}
use Rattle.js_machine_nodes.specs.Trees.{IsTable, tree}
use Rattle.js_machine_compiler.specs.Grown.{HasPlaces}

-- whether a number is one of an entry, where what a node does names one
abbrev pub names_entry : NodeTable → Op → ℕ → Bool
names_entry t ops.Literal n = nat_lt n (length t.constants.items)
names_entry t ops.Script n = nat_lt n (length t.scripts.items)
names_entry t ops.EnterFor n = nat_lt n (length t.fors.items)
names_entry t ops.EnterForOf n = nat_lt n (length t.for_ofs.items)
names_entry t ops.Block n = nat_lt n (length t.blocks.items)
names_entry t ops.Function n = nat_lt n (length t.functions.items)
names_entry t ops.Method n = nat_lt n (length t.functions.items)
names_entry t ops.Object n = nat_lt n (length t.objects.items)
names_entry t ops.Call n = nat_lt n (length t.calls.items)
names_entry t ops.CallOfName n = nat_lt n (length t.calls.items)
names_entry t ops.CallOfMember n = nat_lt n (length t.calls.items)
names_entry t ops.CallOfIndex n = nat_lt n (length t.calls.items)
names_entry t op n = true

-- the nodes from a number on name entries that are there
abbrev pub AreClosed : NodeTable → ℕ → Type 0
AreClosed t from =
    (n : ℕ) (node : Node) → from ≤ n → slice_get t.nodes.items n ≡ Some node → names_entry t node.op node.info ≡ true

-- the functions from a number on have nodes that are there
abbrev pub ArePlaced : NodeTable → ℕ → Type 0
ArePlaced t from =
    (i : ℕ) (e : FunctionEntry) → from ≤ i → slice_get t.functions.items i ≡ Some e → e.at < length t.nodes.items

-- a source's node and the functions of its index are there
pub record IsWithin (t : NodeTable) (e : SourceEntry) : Type 0 where
  pub root : e.root < length t.nodes.items
  pub numbers : (x m : ℕ) → slice_get e.functions.items x ≡ Some m → m ≤ length t.functions.items

-- the index of a source finds the functions of its tree
abbrev pub Finds : NodeTable → SourceEntry → Type 0
Finds t e = (ts : List (List ℕ)) (x : ℕ) → function_in x (tree ts t e.root) ≡ indexed_code ts t e x

-- each source's node and the functions of its index are there
abbrev pub AreWithin : NodeTable → Type 0
AreWithin t = (i : ℕ) (e : SourceEntry) → slice_get t.sources.items i ≡ Some e → IsWithin t e

-- a table that code runs over, and that means the same however it goes on
pub record IsWhole (t : NodeTable) : Type 0 where
  pub table : IsTable t
  pub places : HasPlaces t
  pub functions : HasFunctions t
  pub closed : AreClosed t 0
  pub placed : ArePlaced t 0
  pub sources : AreWithin t
