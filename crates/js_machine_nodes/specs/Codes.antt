-- The code of functions, as a table's index has it.
use Rattle.std.specs.Prelude.{◌≡◌, ℕ, zero, suc, List, Option, Some, None, slice_get}
use Rattle.js_semantics.specs.declared.form.FunctionForm.{FunctionForm}
use Rattle.js_semantics.specs.Terms.{Terms, end, more}
use Rattle.js_semantics.specs.Functions.{FunctionCode, function_in}
use Rattle.js_machine_nodes.specs.declared.node.Node.{Node}
use Rattle.js_machine_nodes.specs.declared.node.FunctionEntry.{FunctionEntry}
use Rattle.js_machine_nodes.specs.declared.node.SourceEntry.{SourceEntry}
use Rattle.js_machine_nodes.specs.declared.table.NodeTable.{NodeTable}
use Rattle.js_machine_nodes.specs.Forms.{function_of}
use Rattle.js_machine_nodes.specs.Trees.{tree, trees}

-- the first of the parts is the body, the others are the functions that it declares
abbrev pub code_of_parts : FunctionForm → Terms → Option FunctionCode
code_of_parts f end = None
code_of_parts f (more body functions) = Some (record { form = f; body = body; functions = functions })

-- the code of a function, of the kept parts of its node
abbrev pub code_of_node : List (List ℕ) → NodeTable → FunctionEntry → Option Node → Option FunctionCode
code_of_node ts t f None = None
code_of_node ts t f (Some node) = code_of_parts (function_of ts f) (trees ts t node.mid node.end)

-- the code of an entry, by the node that it names; none where the table has no such entry
abbrev pub code_of_entry : List (List ℕ) → NodeTable → Option FunctionEntry → Option FunctionCode
code_of_entry ts t None = None
code_of_entry ts t (Some f) = code_of_node ts t f (slice_get t.nodes.items f.at)

-- the code of the entry of a number, counted from 1; 0 is none
abbrev pub code_of_number : List (List ℕ) → NodeTable → Option ℕ → Option FunctionCode
code_of_number ts t None = None
code_of_number ts t (Some zero) = None
code_of_number ts t (Some (suc n)) = code_of_entry ts t (slice_get t.functions.items n)

-- the code of the function at a node, by the index of its source
abbrev pub indexed_code : List (List ℕ) → NodeTable → SourceEntry → ℕ → Option FunctionCode
indexed_code ts t e node = code_of_number ts t (slice_get e.functions.items node)

-- the function of each node of each source is the one that the source's index has
pub record HasFunctions (t : NodeTable) : Type 0 where
  pub finds : (ts : List (List ℕ)) (i : ℕ) (e : SourceEntry)
      → slice_get t.sources.items i ≡ Some e
      → (node : ℕ)
      → function_in node (tree ts t e.root) ≡ indexed_code ts t e node
