-- The kind of a form is that of what its node or task does.
use Rattle.std.proofs.Common.{◌≡◌, ℕ, Bool, false, List, Option, Some, None, slice_get, refl, ap, ◌∙◌}
use Rattle.js_heap.specs.declared.value.Addr.{Addr}
use Rattle.js_heap.specs.declared.value.Value.{Value}
use Rattle.js_semantics.specs.declared.form.Mark.{Mark}
use Rattle.js_semantics.specs.declared.form.Form.{Form}
use Rattle.js_semantics.specs.declared.form.Form.TheVariants.{EnterDebugger as enter_debugger, Catching as catching}
use Rattle.js_semantics.specs.Frames.{Active, reduces, stands, nothing_left, is_debugger, is_catching}
use Rattle.js_heap_memory.specs.declared.stored.Slot.{Slot}
use Rattle.js_machine_nodes.specs.declared.op.Op.{Op}
use Rattle.js_machine_nodes.specs.declared.op.Op.TheVariants as ops
use Rattle.js_machine_nodes.specs.declared.node.ScriptEntry.{ScriptEntry}
use Rattle.js_machine_nodes.specs.declared.node.ForEntry.{ForEntry}
use Rattle.js_machine_nodes.specs.declared.node.ForOfEntry.{ForOfEntry}
use Rattle.js_machine_nodes.specs.declared.node.CallEntry.{CallEntry}
use Rattle.js_machine_nodes.specs.declared.node.MemberEntry.{MemberEntry}
use Rattle.js_machine_nodes.specs.declared.node.FunctionEntry.{FunctionEntry}
use Rattle.js_machine_nodes.specs.declared.table.NodeTable.{NodeTable}
use Rattle.js_machine_nodes.specs.Forms.{form_of, script_form, for_form, for_of_form, list_form, turn_form, body_form, block_form, function_form, method_form, object_form, members_at, call_form, name_call_form, member_call_form, index_call_form}
use Rattle.js_machine_engine.specs.declared.task.Extra.{Extra}
use Rattle.js_machine_engine.specs.Tasks.{Wide, index_of, form_in, task_form}
use Rattle.js_machine_inspection.specs.Kinds.{ActiveKind, entering, calling, opening, plain, kind_of, active_kind, for_kind, for_of_kind, call_kind, script_kind, op_kind, enters_debugger}
use Rattle.js_machine_inspection.proofs.FrameKinds.{is_debugging, is_leaving, is_guarding}
use Rattle.js_machine_inspection.specs.Catchers.{is_catcher}
use Rattle.js_machine_inspection.specs.Scopes.{is_frame}

-- ---- entries

script_entry : (ts : List (List ℕ)) (o : Option ScriptEntry) → kind_of (script_form ts o) ≡ script_kind o
script_entry ts (Some e) = refl
script_entry ts None = refl

for_entry : (ts : List (List ℕ)) (o : Option ForEntry) → kind_of (for_form ts o) ≡ for_kind o
for_entry ts (Some e) = refl
for_entry ts None = refl

for_of_entry : (ts : List (List ℕ)) (o : Option ForOfEntry) → kind_of (for_of_form ts o) ≡ for_of_kind o
for_of_entry ts (Some e) = refl
for_of_entry ts None = refl

list_entry : (ts : List (List ℕ)) (o : Option ForOfEntry) → kind_of (list_form ts o) ≡ plain
list_entry ts (Some e) = refl
list_entry ts None = refl

turn_entry : (ts : List (List ℕ)) (o : Option ForOfEntry) (i : ℕ) → kind_of (turn_form ts o i) ≡ plain
turn_entry ts (Some e) i = refl
turn_entry ts None i = refl

body_entry : (ts : List (List ℕ)) (o : Option ForOfEntry) (i : ℕ) → kind_of (body_form ts o i) ≡ plain
body_entry ts (Some e) i = refl
body_entry ts None i = refl

block_entry : (ts : List (List ℕ)) (o : Option (List Slot)) → kind_of (block_form ts o) ≡ plain
block_entry ts (Some e) = refl
block_entry ts None = refl

function_entry : (ts : List (List ℕ)) (o : Option FunctionEntry) → kind_of (function_form ts o) ≡ plain
function_entry ts (Some e) = refl
function_entry ts None = refl

method_entry : (ts : List (List ℕ)) (o : Option FunctionEntry) → kind_of (method_form ts o) ≡ plain
method_entry ts (Some e) = refl
method_entry ts None = refl

object_entry : (ts : List (List ℕ)) (o : Option (List MemberEntry)) → kind_of (object_form ts o) ≡ plain
object_entry ts (Some e) = refl
object_entry ts None = refl

call_entry : (o : Option CallEntry) → kind_of (call_form o) ≡ call_kind o
call_entry (Some e) = refl
call_entry None = refl

name_call_entry : (ts : List (List ℕ)) (o : Option CallEntry) → kind_of (name_call_form ts o) ≡ plain
name_call_entry ts (Some e) = refl
name_call_entry ts None = refl

member_call_entry : (ts : List (List ℕ)) (o : Option CallEntry) → kind_of (member_call_form ts o) ≡ plain
member_call_entry ts (Some e) = refl
member_call_entry ts None = refl

index_call_entry : (o : Option CallEntry) → kind_of (index_call_form o) ≡ plain
index_call_entry (Some e) = refl
index_call_entry None = refl

-- ---- the forms of tasks

pub form-kind : (ts : List (List ℕ)) (t : NodeTable) (op : Op) (info : ℕ) (inner : Addr) (e : Option Extra)
    → kind_of (form_in ts t op info inner e) ≡ op_kind t op info
unfolding form_of
form-kind ts t ops.Script info inner e = script_entry ts (slice_get t.scripts.items info)
form-kind ts t ops.EnterFor info inner e = for_entry ts (slice_get t.fors.items info)
form-kind ts t ops.EnterForOf info inner e = for_of_entry ts (slice_get t.for_ofs.items info)
form-kind ts t ops.Block info inner e = block_entry ts (slice_get t.blocks.items info)
form-kind ts t ops.ListOf info inner e = list_entry ts (slice_get t.for_ofs.items info)
form-kind ts t ops.TurnOf info inner e = turn_entry ts (slice_get t.for_ofs.items info) (index_of e)
form-kind ts t ops.BodyOf info inner e = body_entry ts (slice_get t.for_ofs.items info) (index_of e)
form-kind ts t ops.Function info inner e = function_entry ts (slice_get t.functions.items info)
form-kind ts t ops.Method info inner e = method_entry ts (slice_get t.functions.items info)
form-kind ts t ops.Object info inner e = object_entry ts (members_at t info)
form-kind ts t ops.ObjectRest info inner e = object_entry ts (members_at t info)
form-kind ts t ops.Call info inner e = call_entry (slice_get t.calls.items info)
form-kind ts t ops.CallOfName info inner e = name_call_entry ts (slice_get t.calls.items info)
form-kind ts t ops.CallOfMember info inner e = member_call_entry ts (slice_get t.calls.items info)
form-kind ts t ops.CallOfIndex info inner e = index_call_entry (slice_get t.calls.items info)
form-kind ts t op info inner e = refl

pub task-kind : (ts : List (List ℕ)) (t : NodeTable) (w : Wide) → kind_of (task_form ts t w) ≡ op_kind t w.op w.info
unfolding task_form
task-kind ts t w = form-kind ts t w.op w.info w.inner w.extra

-- ---- what kinds say

debugger_of : (f : Form) (vs : List Value) → is_debugger (reduces f vs) ≡ is_debugging (kind_of f)
debugger_of (enter_debugger n) vs = refl
debugger_of f vs = refl

pub debugger-kind : (a : Active) → is_debugger a ≡ is_debugging (active_kind a)
debugger-kind (reduces f vs) = debugger_of f vs
debugger-kind (stands v place) = refl
debugger-kind nothing_left = refl

pub catching-kind : (f : Form) → is_catching f ≡ is_guarding (kind_of f)
catching-kind (catching n) = refl
catching-kind f = refl

-- a test of kinds that no entry passes
for_fails : (p : ActiveKind → Bool) (o : Option ForEntry)
    → p plain ≡ false
    → ((n : ℕ) → p (entering n) ≡ false)
    → p (for_kind o) ≡ false
for_fails p (Some e) h k = k e.node
for_fails p None h k = h

for_of_fails : (p : ActiveKind → Bool) (o : Option ForOfEntry)
    → p plain ≡ false
    → ((n : ℕ) → p (entering n) ≡ false)
    → p (for_of_kind o) ≡ false
for_of_fails p (Some e) h k = k e.node
for_of_fails p None h k = h

call_fails : (p : ActiveKind → Bool) (o : Option CallEntry)
    → p plain ≡ false
    → ((m : Mark) (n : ℕ) → p (calling m n) ≡ false)
    → p (call_kind o) ≡ false
call_fails p (Some c) h k = k c.place c.statement
call_fails p None h k = h

script_fails : (p : ActiveKind → Bool) (o : Option ScriptEntry)
    → p plain ≡ false
    → ((n : ℕ) → p (opening n) ≡ false)
    → p (script_kind o) ≡ false
script_fails p (Some e) h k = k e.number
script_fails p None h k = h

guarding_op : (t : NodeTable) (op : Op) (info : ℕ) → is_guarding (op_kind t op info) ≡ is_catcher op
guarding_op t ops.EnterFor info = for_fails is_guarding (slice_get t.fors.items info) refl (λ n. refl)
guarding_op t ops.EnterForOf info = for_of_fails is_guarding (slice_get t.for_ofs.items info) refl (λ n. refl)
guarding_op t ops.Call info = call_fails is_guarding (slice_get t.calls.items info) refl (λ m n. refl)
guarding_op t ops.Script info = script_fails is_guarding (slice_get t.scripts.items info) refl (λ n. refl)
guarding_op t op info = refl

pub leaving-op : (t : NodeTable) (op : Op) (info : ℕ) → is_leaving (op_kind t op info) ≡ is_frame op
leaving-op t ops.EnterFor info = for_fails is_leaving (slice_get t.fors.items info) refl (λ n. refl)
leaving-op t ops.EnterForOf info = for_of_fails is_leaving (slice_get t.for_ofs.items info) refl (λ n. refl)
leaving-op t ops.Call info = call_fails is_leaving (slice_get t.calls.items info) refl (λ m n. refl)
leaving-op t ops.Script info = script_fails is_leaving (slice_get t.scripts.items info) refl (λ n. refl)
leaving-op t op info = refl

pub debugging-op : (t : NodeTable) (op : Op) (info : ℕ) → is_debugging (op_kind t op info) ≡ enters_debugger op
debugging-op t ops.EnterFor info = for_fails is_debugging (slice_get t.fors.items info) refl (λ n. refl)
debugging-op t ops.EnterForOf info = for_of_fails is_debugging (slice_get t.for_ofs.items info) refl (λ n. refl)
debugging-op t ops.Call info = call_fails is_debugging (slice_get t.calls.items info) refl (λ m n. refl)
debugging-op t ops.Script info = script_fails is_debugging (slice_get t.scripts.items info) refl (λ n. refl)
debugging-op t op info = refl

-- a task catches where its form does, and is a call's body where its form is
pub task-catches : (ts : List (List ℕ)) (t : NodeTable) (w : Wide) → is_catching (task_form ts t w) ≡ is_catcher w.op
task-catches ts t w = catching-kind (task_form ts t w) ∙ ap is_guarding (task-kind ts t w) ∙ guarding_op t w.op w.info

pub task-leaves : (ts : List (List ℕ)) (t : NodeTable) (w : Wide)
    → is_leaving (kind_of (task_form ts t w)) ≡ is_frame w.op
task-leaves ts t w = ap is_leaving (task-kind ts t w) ∙ leaving-op t w.op w.info
