-- The scopes of tasks: their own, or that around them.
use Rattle.std.proofs.Common.{◌≡◌, ℕ, Bool, true, false, not, nat_eq, List, [], ◌∷◌, Option, Some, None, slice_get, if◌then◌else◌, refl, sym, ◌∙◌}
use Rattle.js_heap.specs.declared.value.Addr.{Addr}
use Rattle.js_semantics.specs.declared.form.Stage.{Stage}
use Rattle.js_semantics.specs.declared.form.Stage.TheVariants as stages
use Rattle.js_semantics.specs.declared.form.Form.TheVariants.{Loop as loop}
use Rattle.js_semantics.specs.Next.{scope_in}
use Rattle.js_heap_memory.specs.declared.stored.Slot.{Slot}
use Rattle.js_machine_nodes.specs.declared.op.Op.{Op}
use Rattle.js_machine_nodes.specs.declared.op.Op.TheVariants as ops
use Rattle.js_machine_nodes.specs.declared.node.ScriptEntry.{ScriptEntry}
use Rattle.js_machine_nodes.specs.declared.node.ForEntry.{ForEntry}
use Rattle.js_machine_nodes.specs.declared.node.ForOfEntry.{ForOfEntry}
use Rattle.js_machine_nodes.specs.declared.node.CallEntry.{CallEntry}
use Rattle.js_machine_nodes.specs.declared.node.MemberEntry.{MemberEntry}
use Rattle.js_machine_nodes.specs.declared.node.FunctionEntry.{FunctionEntry}
use Rattle.js_machine_nodes.specs.declared.table.NodeTable.{NodeTable}
use Rattle.js_machine_nodes.specs.Forms.{form_of, script_form, for_form, for_of_form, list_form, turn_form, body_form, block_form, function_form, method_form, object_form, members_at, call_form, name_call_form, member_call_form, index_call_form}
use Rattle.js_machine_engine.specs.declared.task.Extra.{Extra}
use Rattle.js_machine_engine.specs.Tasks.{Wide, turn_scope, index_of, form_in, task_form, scope_of, InScopes}

-- whether a form has a scope of its own
abbrev pub has_scope : Op → ℕ → Bool
has_scope ops.Scoped info = true
has_scope ops.Frame info = true
has_scope ops.LoopFirst info = not (nat_eq info 0)
has_scope ops.LoopDoing info = not (nat_eq info 0)
has_scope ops.LoopTesting info = not (nat_eq info 0)
has_scope ops.LoopBody info = not (nat_eq info 0)
has_scope ops.LoopUpdating info = not (nat_eq info 0)
has_scope op info = false

plain_by : (b : Bool) (stage : Stage) (inner outer : Addr)
    → not b ≡ false
    → scope_in (loop stage (if b then None else Some inner)) outer ≡ outer
plain_by true stage inner outer h = refl
plain_by false stage inner outer h = cc

own_by : (b : Bool) (stage : Stage) (inner outer : Addr)
    → not b ≡ true
    → scope_in (loop stage (if b then None else Some inner)) outer ≡ inner
own_by true stage inner outer h = cc
own_by false stage inner outer h = refl

loop_plain : (info : ℕ) (inner outer : Addr)
    → not (nat_eq info 0) ≡ false
    → scope_in (loop stages.First (turn_scope info inner)) outer ≡ outer
loop_plain info inner outer h = plain_by (nat_eq info 0) stages.First inner outer h

loop_own : (info : ℕ) (inner outer : Addr)
    → not (nat_eq info 0) ≡ true
    → scope_in (loop stages.First (turn_scope info inner)) outer ≡ inner
loop_own info inner outer h = own_by (nat_eq info 0) stages.First inner outer h

script_plain : (ts : List (List ℕ)) (outer : Addr) (o : Option ScriptEntry) → scope_in (script_form ts o) outer ≡ outer
script_plain ts outer (Some x) = refl
script_plain ts outer None = refl

for_plain : (ts : List (List ℕ)) (outer : Addr) (o : Option ForEntry) → scope_in (for_form ts o) outer ≡ outer
for_plain ts outer (Some x) = refl
for_plain ts outer None = refl

for_of_plain : (ts : List (List ℕ)) (outer : Addr) (o : Option ForOfEntry) → scope_in (for_of_form ts o) outer ≡ outer
for_of_plain ts outer (Some x) = refl
for_of_plain ts outer None = refl

block_plain : (ts : List (List ℕ)) (outer : Addr) (o : Option (List Slot)) → scope_in (block_form ts o) outer ≡ outer
block_plain ts outer (Some x) = refl
block_plain ts outer None = refl

list_plain : (ts : List (List ℕ)) (outer : Addr) (o : Option ForOfEntry) → scope_in (list_form ts o) outer ≡ outer
list_plain ts outer (Some x) = refl
list_plain ts outer None = refl

function_plain : (ts : List (List ℕ)) (outer : Addr) (o : Option FunctionEntry)
    → scope_in (function_form ts o) outer ≡ outer
function_plain ts outer (Some x) = refl
function_plain ts outer None = refl

method_plain : (ts : List (List ℕ)) (outer : Addr) (o : Option FunctionEntry)
    → scope_in (method_form ts o) outer ≡ outer
method_plain ts outer (Some x) = refl
method_plain ts outer None = refl

call_plain : (ts : List (List ℕ)) (outer : Addr) (o : Option CallEntry) → scope_in (call_form o) outer ≡ outer
call_plain ts outer (Some x) = refl
call_plain ts outer None = refl

name_call_plain : (ts : List (List ℕ)) (outer : Addr) (o : Option CallEntry)
    → scope_in (name_call_form ts o) outer ≡ outer
name_call_plain ts outer (Some x) = refl
name_call_plain ts outer None = refl

member_call_plain : (ts : List (List ℕ)) (outer : Addr) (o : Option CallEntry)
    → scope_in (member_call_form ts o) outer ≡ outer
member_call_plain ts outer (Some x) = refl
member_call_plain ts outer None = refl

index_call_plain : (ts : List (List ℕ)) (outer : Addr) (o : Option CallEntry)
    → scope_in (index_call_form o) outer ≡ outer
index_call_plain ts outer (Some x) = refl
index_call_plain ts outer None = refl

object_plain : (ts : List (List ℕ)) (outer : Addr) (o : Option (List MemberEntry))
    → scope_in (object_form ts o) outer ≡ outer
object_plain ts outer (Some x) = refl
object_plain ts outer None = refl

turn_plain : (ts : List (List ℕ)) (outer : Addr) (i : ℕ) (o : Option ForOfEntry)
    → scope_in (turn_form ts o i) outer ≡ outer
turn_plain ts outer i (Some x) = refl
turn_plain ts outer i None = refl

body_plain : (ts : List (List ℕ)) (outer : Addr) (i : ℕ) (o : Option ForOfEntry)
    → scope_in (body_form ts o i) outer ≡ outer
body_plain ts outer i (Some x) = refl
body_plain ts outer i None = refl

-- a form without one has its parts in the scope around it
pub plain-scope : (ts : List (List ℕ)) (t : NodeTable) (op : Op) (info : ℕ) (inner : Addr) (e : Option Extra)
    (outer : Addr)
    → has_scope op info ≡ false
    → scope_in (form_in ts t op info inner e) outer ≡ outer
unfolding form_of
plain-scope ts t ops.Literal info inner e outer h = refl
plain-scope ts t ops.Scripts info inner e outer h = refl
plain-scope ts t ops.Script info inner e outer h = script_plain ts outer (slice_get t.scripts.items info)
plain-scope ts t ops.Sequence info inner e outer h = refl
plain-scope ts t ops.Enter info inner e outer h = refl
plain-scope ts t ops.EnterDebugger info inner e outer h = refl
plain-scope ts t ops.EnterFor info inner e outer h = for_plain ts outer (slice_get t.fors.items info)
plain-scope ts t ops.EnterForOf info inner e outer h = for_of_plain ts outer (slice_get t.for_ofs.items info)
plain-scope ts t ops.Block info inner e outer h = block_plain ts outer (slice_get t.blocks.items info)
plain-scope ts t ops.Scoped info inner e outer h = cc
plain-scope ts t ops.Frame info inner e outer h = cc
plain-scope ts t ops.Initialize info inner e outer h = refl
plain-scope ts t ops.Choose info inner e outer h = refl
plain-scope ts t ops.Both info inner e outer h = refl
plain-scope ts t ops.Either info inner e outer h = refl
plain-scope ts t ops.LoopFirst info inner e outer h = loop_plain info inner outer h
plain-scope ts t ops.LoopDoing info inner e outer h = loop_plain info inner outer h
plain-scope ts t ops.LoopTesting info inner e outer h = loop_plain info inner outer h
plain-scope ts t ops.LoopBody info inner e outer h = loop_plain info inner outer h
plain-scope ts t ops.LoopUpdating info inner e outer h = loop_plain info inner outer h
plain-scope ts t ops.ListOf info inner e outer h = list_plain ts outer (slice_get t.for_ofs.items info)
plain-scope ts t ops.TurnOf info inner e outer h = turn_plain ts outer (index_of e) (slice_get t.for_ofs.items info)
plain-scope ts t ops.BodyOf info inner e outer h = body_plain ts outer (index_of e) (slice_get t.for_ofs.items info)
plain-scope ts t ops.Break info inner e outer h = refl
plain-scope ts t ops.Continue info inner e outer h = refl
plain-scope ts t ops.Return info inner e outer h = refl
plain-scope ts t ops.Throw info inner e outer h = refl
plain-scope ts t ops.Catching info inner e outer h = refl
plain-scope ts t ops.CatchingName info inner e outer h = refl
plain-scope ts t ops.Finishing info inner e outer h = refl
plain-scope ts t ops.Ending info inner e outer h = refl
plain-scope ts t ops.This info inner e outer h = refl
plain-scope ts t ops.ReadName info inner e outer h = refl
plain-scope ts t ops.ReadMember info inner e outer h = refl
plain-scope ts t ops.ReadIndex info inner e outer h = refl
plain-scope ts t ops.TypeofName info inner e outer h = refl
plain-scope ts t (ops.Unary x) info inner e outer h = refl
plain-scope ts t (ops.Binary x) info inner e outer h = refl
plain-scope ts t ops.Comma info inner e outer h = refl
plain-scope ts t ops.Function info inner e outer h = function_plain ts outer (slice_get t.functions.items info)
plain-scope ts t ops.Method info inner e outer h = method_plain ts outer (slice_get t.functions.items info)
plain-scope ts t ops.Array info inner e outer h = refl
plain-scope ts t ops.Object info inner e outer h = object_plain ts outer (members_at t info)
plain-scope ts t ops.ObjectRest info inner e outer h = object_plain ts outer (members_at t info)
plain-scope ts t ops.AssignName info inner e outer h = refl
plain-scope ts t ops.AssignMember info inner e outer h = refl
plain-scope ts t ops.AssignIndex info inner e outer h = refl
plain-scope ts t (ops.CompoundName x) info inner e outer h = refl
plain-scope ts t (ops.CompoundMember x) info inner e outer h = refl
plain-scope ts t (ops.CompoundIndex x) info inner e outer h = refl
plain-scope ts t (ops.UpdateName x) info inner e outer h = refl
plain-scope ts t (ops.UpdateMember x) info inner e outer h = refl
plain-scope ts t (ops.UpdateIndex x) info inner e outer h = refl
plain-scope ts t ops.DeleteName info inner e outer h = refl
plain-scope ts t ops.DeleteMember info inner e outer h = refl
plain-scope ts t ops.DeleteIndex info inner e outer h = refl
plain-scope ts t ops.Call info inner e outer h = call_plain ts outer (slice_get t.calls.items info)
plain-scope ts t ops.CallOfName info inner e outer h = name_call_plain ts outer (slice_get t.calls.items info)
plain-scope ts t ops.CallOfMember info inner e outer h = member_call_plain ts outer (slice_get t.calls.items info)
plain-scope ts t ops.CallOfIndex info inner e outer h = index_call_plain ts outer (slice_get t.calls.items info)

-- a form with one has them there
pub own-scope : (ts : List (List ℕ)) (t : NodeTable) (op : Op) (info : ℕ) (inner : Addr) (e : Option Extra)
    (outer : Addr)
    → has_scope op info ≡ true
    → scope_in (form_in ts t op info inner e) outer ≡ inner
unfolding form_of
own-scope ts t ops.Literal info inner e outer h = cc
own-scope ts t ops.Scripts info inner e outer h = cc
own-scope ts t ops.Script info inner e outer h = cc
own-scope ts t ops.Sequence info inner e outer h = cc
own-scope ts t ops.Enter info inner e outer h = cc
own-scope ts t ops.EnterDebugger info inner e outer h = cc
own-scope ts t ops.EnterFor info inner e outer h = cc
own-scope ts t ops.EnterForOf info inner e outer h = cc
own-scope ts t ops.Block info inner e outer h = cc
own-scope ts t ops.Scoped info inner e outer h = refl
own-scope ts t ops.Frame info inner e outer h = refl
own-scope ts t ops.Initialize info inner e outer h = cc
own-scope ts t ops.Choose info inner e outer h = cc
own-scope ts t ops.Both info inner e outer h = cc
own-scope ts t ops.Either info inner e outer h = cc
own-scope ts t ops.LoopFirst info inner e outer h = loop_own info inner outer h
own-scope ts t ops.LoopDoing info inner e outer h = loop_own info inner outer h
own-scope ts t ops.LoopTesting info inner e outer h = loop_own info inner outer h
own-scope ts t ops.LoopBody info inner e outer h = loop_own info inner outer h
own-scope ts t ops.LoopUpdating info inner e outer h = loop_own info inner outer h
own-scope ts t ops.ListOf info inner e outer h = cc
own-scope ts t ops.TurnOf info inner e outer h = cc
own-scope ts t ops.BodyOf info inner e outer h = cc
own-scope ts t ops.Break info inner e outer h = cc
own-scope ts t ops.Continue info inner e outer h = cc
own-scope ts t ops.Return info inner e outer h = cc
own-scope ts t ops.Throw info inner e outer h = cc
own-scope ts t ops.Catching info inner e outer h = cc
own-scope ts t ops.CatchingName info inner e outer h = cc
own-scope ts t ops.Finishing info inner e outer h = cc
own-scope ts t ops.Ending info inner e outer h = cc
own-scope ts t ops.This info inner e outer h = cc
own-scope ts t ops.ReadName info inner e outer h = cc
own-scope ts t ops.ReadMember info inner e outer h = cc
own-scope ts t ops.ReadIndex info inner e outer h = cc
own-scope ts t ops.TypeofName info inner e outer h = cc
own-scope ts t (ops.Unary x) info inner e outer h = cc
own-scope ts t (ops.Binary x) info inner e outer h = cc
own-scope ts t ops.Comma info inner e outer h = cc
own-scope ts t ops.Function info inner e outer h = cc
own-scope ts t ops.Method info inner e outer h = cc
own-scope ts t ops.Array info inner e outer h = cc
own-scope ts t ops.Object info inner e outer h = cc
own-scope ts t ops.ObjectRest info inner e outer h = cc
own-scope ts t ops.AssignName info inner e outer h = cc
own-scope ts t ops.AssignMember info inner e outer h = cc
own-scope ts t ops.AssignIndex info inner e outer h = cc
own-scope ts t (ops.CompoundName x) info inner e outer h = cc
own-scope ts t (ops.CompoundMember x) info inner e outer h = cc
own-scope ts t (ops.CompoundIndex x) info inner e outer h = cc
own-scope ts t (ops.UpdateName x) info inner e outer h = cc
own-scope ts t (ops.UpdateMember x) info inner e outer h = cc
own-scope ts t (ops.UpdateIndex x) info inner e outer h = cc
own-scope ts t ops.DeleteName info inner e outer h = cc
own-scope ts t ops.DeleteMember info inner e outer h = cc
own-scope ts t ops.DeleteIndex info inner e outer h = cc
own-scope ts t ops.Call info inner e outer h = cc
own-scope ts t ops.CallOfName info inner e outer h = cc
own-scope ts t ops.CallOfMember info inner e outer h = cc
own-scope ts t ops.CallOfIndex info inner e outer h = cc

-- ---- tasks in their scopes

-- a task with a scope of its own
pub scopes-own : (t : NodeTable) (root : Addr) (w : Wide) (ws : List Wide)
    → has_scope w.op w.info ≡ true
    → InScopes t root ws
    → InScopes t root (w ∷ ws)
unfolding task_form
scopes-own t root w ws o h = (λ ts. own-scope ts t w.op w.info w.inner w.extra (scope_of root ws) o, h)

-- one without, in the scope around it
pub scopes-plain : (t : NodeTable) (root : Addr) (w : Wide) (ws : List Wide)
    → has_scope w.op w.info ≡ false
    → w.inner ≡ scope_of root ws
    → InScopes t root ws
    → InScopes t root (w ∷ ws)
unfolding task_form
scopes-plain t root w ws o e h = (λ ts. plain-scope ts t w.op w.info w.inner w.extra (scope_of root ws) o ∙ sym e, h)

-- the scope of a task without one is that around it
pub scope-around : (t : NodeTable) (root : Addr) (w : Wide) (ws : List Wide)
    → has_scope w.op w.info ≡ false
    → InScopes t root (w ∷ ws)
    → w.inner ≡ scope_of root ws
unfolding task_form
scope-around t root w ws o h = sym (h.0 []) ∙ plain-scope [] t w.op w.info w.inner w.extra (scope_of root ws) o

-- one in place of another, neither with a scope of its own
pub scopes-same : (t : NodeTable) (root : Addr) (w v : Wide) (ws : List Wide)
    → has_scope w.op w.info ≡ false
    → has_scope v.op v.info ≡ false
    → v.inner ≡ w.inner
    → InScopes t root (w ∷ ws)
    → InScopes t root (v ∷ ws)
scopes-same t root w v ws o p e h = scopes-plain t root v ws p (e ∙ scope-around t root w ws o h) h.1
