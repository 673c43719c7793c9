-- Functions that are declared.
use Rattle.std.specs.Prelude.{ℕ, List, length, Bool, true, false, Option, Some, None}
use Rattle.js_heap.specs.declared.value.Addr.{Addr}
use Rattle.js_semantics.specs.State.{Action}
use Rattle.js_heap_memory.specs.Names.{name_of}
use Rattle.js_machine_actions.specs.Functions.{declared_function}
use Rattle.js_machine_nodes.specs.declared.op.Op.{Op}
use Rattle.js_machine_nodes.specs.declared.op.Op.TheVariants as ops
use Rattle.js_machine_nodes.specs.declared.node.FunctionEntry.{FunctionEntry}

-- the function of an entry is made, the value of its name
abbrev pub declared : List (List ℕ) → Addr → FunctionEntry → Action → Action
declared ts scope f k = declared_function scope f.code (length f.parameters.items) (name_of ts f.name.number) k

-- if there is one
abbrev pub declared_if : List (List ℕ) → Addr → Option FunctionEntry → Action → Action
declared_if ts scope None k = k
declared_if ts scope (Some f) k = declared ts scope f k

-- a function
abbrev pub is_function_op : Op → Bool
is_function_op ops.Function = true
is_function_op o = false
