-- Where the code of a function is.
use Rattle.std.specs.Prelude.{ℕ, List, Option, Some, None, slice_get}
use Rattle.js_semantics.specs.Functions.{FunctionCode}
use Rattle.js_machine_nodes.specs.declared.node.FunctionEntry.{FunctionEntry}
use Rattle.js_machine_nodes.specs.declared.node.Node.{Node}
use Rattle.js_machine_nodes.specs.Codes.{code_of_node}
use Rattle.js_machine_nodes.specs.declared.table.NodeTable.{NodeTable}
use Rattle.js_machine_nodes.specs.Forms.{function_of}
use Rattle.js_machine_nodes.specs.Trees.{tree, trees}
use Rattle.js_machine_rows.specs.declared.codes.CodePlace.{CodePlace}

-- the code of an entry with the places of its parts, where the table has that entry
abbrev pub placed_code : List (List ℕ) → NodeTable → CodePlace → Option FunctionEntry → Option FunctionCode
placed_code ts t p None = None
placed_code ts t p (Some f) =
    Some (record { form = function_of ts f; body = tree ts t p.body; functions = trees ts t p.first p.end })

-- the code at a place
abbrev pub code_at : List (List ℕ) → NodeTable → Option CodePlace → Option FunctionCode
code_at ts t None = None
code_at ts t (Some p) = placed_code ts t p (slice_get t.functions.items p.number)

-- the code of an entry whose node is this one
abbrev pub code_placed : List (List ℕ) → NodeTable → Node → Option FunctionEntry → Option FunctionCode
code_placed ts t node None = None
code_placed ts t node (Some f) = code_of_node ts t f (Some node)
