-- The innermost scopes of the active frames, by the tasks.
use Rattle.std.specs.Prelude.{Bool, true, false, List, [], ◌∷◌, Option, Some, None, if◌then◌else◌}
use Rattle.js_heap.specs.declared.value.Addr.{Addr}
use Rattle.js_machine_nodes.specs.declared.op.Op.{Op}
use Rattle.js_machine_nodes.specs.declared.op.Op.TheVariants as ops
use Rattle.js_machine_engine.specs.Tasks.{Wide, scope_of}

-- the body of an active call
abbrev pub is_frame : Op → Bool
is_frame ops.Frame = true
is_frame op = false

-- there is a task, and it is the body of an active call
abbrev pub is_frame_at : Option Wide → Bool
is_frame_at None = false
is_frame_at (Some w) = is_frame w.op

-- the scopes around the bodies of active calls, from the innermost one
abbrev pub call_scopes : Addr → List Wide → List Addr
call_scopes root [] = []
call_scopes root (w ∷ ws) = if is_frame w.op then scope_of root ws ∷ call_scopes root ws else call_scopes root ws

-- the innermost scope of each active frame from the top
abbrev pub frame_scopes : Addr → List Wide → List Addr
frame_scopes root ws = scope_of root ws ∷ call_scopes root ws
