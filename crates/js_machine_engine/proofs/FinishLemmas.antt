-- What each form becomes when all its parts have their values.
use Rattle.std.proofs.Common.{◌≡◌, ℕ, true, false, List, Option, None, Some, slice_get, refl, sym, ap, ◌∙◌}
use Rattle.js_heap.specs.declared.value.Addr.{Addr}
use Rattle.js_semantics.specs.declared.form.Completion.{Completion}
use Rattle.js_semantics.specs.declared.form.Form.TheVariants.{Ending as ending, Loop as loop}
use Rattle.js_semantics.specs.declared.form.Stage.{Stage}
use Rattle.js_semantics.specs.declared.form.Stage.TheVariants as stages
use Rattle.js_semantics.specs.Terms.{part, Terms, finished}
use Rattle.js_semantics.specs.Next.{scope_in}
use Rattle.js_heap_memory.specs.declared.stored.Slot.{Slot}
use Rattle.js_machine_nodes.specs.declared.op.Op.{Op}
use Rattle.js_machine_nodes.specs.declared.op.Op.TheVariants as ops
use Rattle.js_machine_nodes.specs.declared.node.ScriptEntry.{ScriptEntry}
use Rattle.js_machine_nodes.specs.declared.node.ForEntry.{ForEntry}
use Rattle.js_machine_nodes.specs.declared.node.ForOfEntry.{ForOfEntry}
use Rattle.js_machine_nodes.specs.declared.node.CallEntry.{CallEntry}
use Rattle.js_machine_nodes.specs.declared.node.MemberEntry.{MemberEntry}
use Rattle.js_machine_nodes.specs.declared.node.FunctionEntry.{FunctionEntry}
use Rattle.js_machine_nodes.specs.declared.table.NodeTable.{NodeTable}
use Rattle.js_machine_nodes.specs.Ops.{is_task_only, is_loop}
use Rattle.js_machine_nodes.specs.Forms.{form_of, members_at, script_form, for_form, for_of_form, list_form, turn_form, body_form, block_form, function_form, method_form, object_form, call_form, name_call_form, member_call_form, index_call_form}
use Rattle.js_machine_engine.specs.declared.closing.Closing.TheVariants as closings
use Rattle.js_machine_engine.specs.declared.task.Extra.{Extra}
use Rattle.js_machine_engine.specs.Tasks.{Wide, turn_scope, kept_of, index_of, form_in, task_form}
use Rattle.js_machine_engine.specs.Settling.{closing_of, closed, next_turn_term, ended_term}

-- ---- forms by entries wait

script_waits : (ts : List (List ℕ)) (o : Option ScriptEntry) (now later : Terms)
    → finished (script_form ts o) now later ≡ part (script_form ts o) now later
script_waits ts None now later = refl
script_waits ts (Some e) now later = refl

for_waits : (ts : List (List ℕ)) (o : Option ForEntry) (now later : Terms)
    → finished (for_form ts o) now later ≡ part (for_form ts o) now later
for_waits ts None now later = refl
for_waits ts (Some e) now later = refl

for_of_waits : (ts : List (List ℕ)) (o : Option ForOfEntry) (now later : Terms)
    → finished (for_of_form ts o) now later ≡ part (for_of_form ts o) now later
for_of_waits ts None now later = refl
for_of_waits ts (Some e) now later = refl

list_waits : (ts : List (List ℕ)) (o : Option ForOfEntry) (now later : Terms)
    → finished (list_form ts o) now later ≡ part (list_form ts o) now later
list_waits ts None now later = refl
list_waits ts (Some e) now later = refl

turn_waits : (ts : List (List ℕ)) (o : Option ForOfEntry) (i : ℕ) (now later : Terms)
    → finished (turn_form ts o i) now later ≡ part (turn_form ts o i) now later
turn_waits ts None i now later = refl
turn_waits ts (Some e) i now later = refl

block_waits : (ts : List (List ℕ)) (o : Option (List Slot)) (now later : Terms)
    → finished (block_form ts o) now later ≡ part (block_form ts o) now later
block_waits ts None now later = refl
block_waits ts (Some e) now later = refl

function_waits : (ts : List (List ℕ)) (o : Option FunctionEntry) (now later : Terms)
    → finished (function_form ts o) now later ≡ part (function_form ts o) now later
function_waits ts None now later = refl
function_waits ts (Some e) now later = refl

method_waits : (ts : List (List ℕ)) (o : Option FunctionEntry) (now later : Terms)
    → finished (method_form ts o) now later ≡ part (method_form ts o) now later
method_waits ts None now later = refl
method_waits ts (Some e) now later = refl

object_waits : (ts : List (List ℕ)) (o : Option (List MemberEntry)) (now later : Terms)
    → finished (object_form ts o) now later ≡ part (object_form ts o) now later
object_waits ts None now later = refl
object_waits ts (Some e) now later = refl

call_waits : (o : Option CallEntry) (now later : Terms)
    → finished (call_form o) now later ≡ part (call_form o) now later
call_waits None now later = refl
call_waits (Some e) now later = refl

name_call_waits : (ts : List (List ℕ)) (o : Option CallEntry) (now later : Terms)
    → finished (name_call_form ts o) now later ≡ part (name_call_form ts o) now later
name_call_waits ts None now later = refl
name_call_waits ts (Some e) now later = refl

member_call_waits : (ts : List (List ℕ)) (o : Option CallEntry) (now later : Terms)
    → finished (member_call_form ts o) now later ≡ part (member_call_form ts o) now later
member_call_waits ts None now later = refl
member_call_waits ts (Some e) now later = refl

index_call_waits : (o : Option CallEntry) (now later : Terms)
    → finished (index_call_form o) now later ≡ part (index_call_form o) now later
index_call_waits None now later = refl
index_call_waits (Some e) now later = refl

-- ---- the two that depend on more

body_turns : (ts : List (List ℕ)) (o : Option ForOfEntry) (i : ℕ) (now later : Terms)
    → finished (body_form ts o i) now later ≡ next_turn_term ts o i now later
body_turns ts None i now later = refl
body_turns ts (Some e) i now later = refl

ending_ends : (o : Option Completion) (now later : Terms) → finished (ending o) now later ≡ ended_term o now later
ending_ends None now later = refl
ending_ends (Some c) now later = refl

-- ---- all forms

by_op : (ts : List (List ℕ)) (t : NodeTable) (op : Op) (info : ℕ) (inner : Addr) (e : Option Extra) (now later : Terms)
    → finished (form_in ts t op info inner e) now later ≡ closed ts t op info inner e now later (closing_of op)
unfolding form_of
by_op ts t ops.Script info inner e now later = script_waits ts (slice_get t.scripts.items info) now later
by_op ts t ops.EnterFor info inner e now later = for_waits ts (slice_get t.fors.items info) now later
by_op ts t ops.EnterForOf info inner e now later = for_of_waits ts (slice_get t.for_ofs.items info) now later
by_op ts t ops.Block info inner e now later = block_waits ts _ now later
by_op ts t ops.ListOf info inner e now later = list_waits ts (slice_get t.for_ofs.items info) now later
by_op ts t ops.TurnOf info inner e now later = turn_waits ts (slice_get t.for_ofs.items info) (index_of e) now later
by_op ts t ops.BodyOf info inner e now later = body_turns ts (slice_get t.for_ofs.items info) (index_of e) now later
by_op ts t ops.Ending info inner e now later = ending_ends (kept_of e) now later
by_op ts t ops.Function info inner e now later = function_waits ts (slice_get t.functions.items info) now later
by_op ts t ops.Method info inner e now later = method_waits ts (slice_get t.functions.items info) now later
by_op ts t ops.Object info inner e now later = object_waits ts _ now later
by_op ts t ops.ObjectRest info inner e now later = object_waits ts (members_at t info) now later
by_op ts t ops.Call info inner e now later = call_waits (slice_get t.calls.items info) now later
by_op ts t ops.CallOfName info inner e now later = name_call_waits ts (slice_get t.calls.items info) now later
by_op ts t ops.CallOfMember info inner e now later = member_call_waits ts (slice_get t.calls.items info) now later
by_op ts t ops.CallOfIndex info inner e now later = index_call_waits (slice_get t.calls.items info) now later
by_op ts t op info inner e now later = refl

pub closes : (ts : List (List ℕ)) (t : NodeTable) (w : Wide) (now later : Terms)
    → finished (task_form ts t w) now later ≡ closed ts t w.op w.info w.inner w.extra now later (closing_of w.op)
unfolding task_form
closes ts t w now later = by_op ts t w.op w.info w.inner w.extra now later

-- ---- the scope in which the parts of a form are

abbrev in_turn : Option Addr → Addr → Addr
in_turn None scope = scope
in_turn (Some a) scope = a

stage_scope : (stage : Stage) (o : Option Addr) (scope : Addr) → scope_in (loop stage o) scope ≡ in_turn o scope
stage_scope stage None scope = refl
stage_scope stage (Some a) scope = refl

op_scope : (ts : List (List ℕ)) (t : NodeTable) (op : Op) (info : ℕ) (inner : Addr) (e : Option Extra) (scope : Addr)
    → is_loop op ≡ true
    → scope_in (form_in ts t op info inner e) scope ≡ in_turn (turn_scope info inner) scope
op_scope ts t ops.LoopFirst info inner e scope l = stage_scope stages.First (turn_scope info inner) scope
op_scope ts t ops.LoopDoing info inner e scope l = stage_scope stages.Doing (turn_scope info inner) scope
op_scope ts t ops.LoopTesting info inner e scope l = stage_scope stages.Testing (turn_scope info inner) scope
op_scope ts t ops.LoopBody info inner e scope l = stage_scope stages.Body (turn_scope info inner) scope
op_scope ts t ops.LoopUpdating info inner e scope l = stage_scope stages.Updating (turn_scope info inner) scope
op_scope ts t op info inner e scope l = cc

-- all stages of a loop have the same scope
pub loop-scope : (ts : List (List ℕ)) (t : NodeTable) (u w : Wide) (scope : Addr)
    → is_loop u.op ≡ true
    → is_loop w.op ≡ true
    → u.info ≡ w.info
    → u.inner ≡ w.inner
    → scope_in (task_form ts t u) scope ≡ scope_in (task_form ts t w) scope
unfolding task_form
loop-scope ts t u w scope k l i n =
    op_scope ts t u.op u.info u.inner u.extra scope k
    ∙ ap (λ x. in_turn (turn_scope x u.inner) scope) i
    ∙ ap (λ x. in_turn (turn_scope w.info x) scope) n
    ∙ sym (op_scope ts t w.op w.info w.inner w.extra scope l)

body_scope : (ts : List (List ℕ)) (o : Option ForOfEntry) (i : ℕ) (scope : Addr)
    → scope_in (body_form ts o i) scope ≡ scope
body_scope ts None i scope = refl
body_scope ts (Some e) i scope = refl

turn_form_scope : (ts : List (List ℕ)) (o : Option ForOfEntry) (i : ℕ) (scope : Addr)
    → scope_in (turn_form ts o i) scope ≡ scope
turn_form_scope ts None i scope = refl
turn_form_scope ts (Some e) i scope = refl

pub turn-scope : (ts : List (List ℕ)) (t : NodeTable) (u w : Wide) (scope : Addr)
    → u.op ≡ ops.TurnOf
    → w.op ≡ ops.BodyOf
    → scope_in (task_form ts t u) scope ≡ scope_in (task_form ts t w) scope
unfolding task_form
turn-scope ts t u w scope k l =
    ap (λ op. scope_in (form_in ts t op u.info u.inner u.extra) scope) k
    ∙ turn_form_scope ts (slice_get t.for_ofs.items u.info) (index_of u.extra) scope
    ∙ sym (body_scope ts (slice_get t.for_ofs.items w.info) (index_of w.extra) scope)
    ∙ ap (λ op. scope_in (form_in ts t op w.info w.inner w.extra) scope) (sym l)

pub ending-scope : (ts : List (List ℕ)) (t : NodeTable) (u w : Wide) (scope : Addr)
    → u.op ≡ ops.Ending
    → w.op ≡ ops.Finishing
    → scope_in (task_form ts t u) scope ≡ scope_in (task_form ts t w) scope
unfolding task_form form_of
ending-scope ts t u w scope k l =
    ap (λ op. scope_in (form_in ts t op u.info u.inner u.extra) scope) k
    ∙ ap (λ op. scope_in (form_in ts t op w.info w.inner w.extra) scope) (sym l)

-- ---- tasks of nodes

pub node-form : (ts : List (List ℕ)) (t : NodeTable) (op : Op) (info : ℕ) (inner : Addr)
    → is_task_only op ≡ false
    → (is_loop op ≡ true → info ≡ 0)
    → form_in ts t op info inner None ≡ form_of ts t op info
unfolding form_of
node-form ts t ops.Scoped info inner o l = cc
node-form ts t ops.Frame info inner o l = cc
node-form ts t ops.TurnOf info inner o l = cc
node-form ts t ops.BodyOf info inner o l = cc
node-form ts t ops.ObjectRest info inner o l = cc
node-form ts t ops.LoopFirst info inner o l = ap (λ i. loop stages.First (turn_scope i inner)) (l refl)
node-form ts t ops.LoopDoing info inner o l = ap (λ i. loop stages.Doing (turn_scope i inner)) (l refl)
node-form ts t ops.LoopTesting info inner o l = ap (λ i. loop stages.Testing (turn_scope i inner)) (l refl)
node-form ts t ops.LoopBody info inner o l = ap (λ i. loop stages.Body (turn_scope i inner)) (l refl)
node-form ts t ops.LoopUpdating info inner o l = ap (λ i. loop stages.Updating (turn_scope i inner)) (l refl)
node-form ts t op info inner o l = refl

-- a node's form has no scope of its own
for_scope : (ts : List (List ℕ)) (o : Option ForEntry) (scope : Addr) → scope_in (for_form ts o) scope ≡ scope
for_scope ts None scope = refl
for_scope ts (Some e) scope = refl

for_of_scope : (ts : List (List ℕ)) (o : Option ForOfEntry) (scope : Addr) → scope_in (for_of_form ts o) scope ≡ scope
for_of_scope ts None scope = refl
for_of_scope ts (Some e) scope = refl

list_scope : (ts : List (List ℕ)) (o : Option ForOfEntry) (scope : Addr) → scope_in (list_form ts o) scope ≡ scope
list_scope ts None scope = refl
list_scope ts (Some e) scope = refl

script_scope : (ts : List (List ℕ)) (o : Option ScriptEntry) (scope : Addr) → scope_in (script_form ts o) scope ≡ scope
script_scope ts None scope = refl
script_scope ts (Some e) scope = refl

block_scope : (ts : List (List ℕ)) (o : Option (List Slot)) (scope : Addr) → scope_in (block_form ts o) scope ≡ scope
block_scope ts None scope = refl
block_scope ts (Some e) scope = refl

function_scope : (ts : List (List ℕ)) (o : Option FunctionEntry) (scope : Addr)
    → scope_in (function_form ts o) scope ≡ scope
function_scope ts None scope = refl
function_scope ts (Some e) scope = refl

method_scope : (ts : List (List ℕ)) (o : Option FunctionEntry) (scope : Addr)
    → scope_in (method_form ts o) scope ≡ scope
method_scope ts None scope = refl
method_scope ts (Some e) scope = refl

object_scope : (ts : List (List ℕ)) (o : Option (List MemberEntry)) (scope : Addr)
    → scope_in (object_form ts o) scope ≡ scope
object_scope ts None scope = refl
object_scope ts (Some e) scope = refl

call_scope : (o : Option CallEntry) (scope : Addr) → scope_in (call_form o) scope ≡ scope
call_scope None scope = refl
call_scope (Some e) scope = refl

name_call_scope : (ts : List (List ℕ)) (o : Option CallEntry) (scope : Addr)
    → scope_in (name_call_form ts o) scope ≡ scope
name_call_scope ts None scope = refl
name_call_scope ts (Some e) scope = refl

member_call_scope : (ts : List (List ℕ)) (o : Option CallEntry) (scope : Addr)
    → scope_in (member_call_form ts o) scope ≡ scope
member_call_scope ts None scope = refl
member_call_scope ts (Some e) scope = refl

index_call_scope : (o : Option CallEntry) (scope : Addr) → scope_in (index_call_form o) scope ≡ scope
index_call_scope None scope = refl
index_call_scope (Some e) scope = refl

form_scope : (ts : List (List ℕ)) (t : NodeTable) (op : Op) (info : ℕ) (scope : Addr)
    → scope_in (form_of ts t op info) scope ≡ scope
unfolding form_of
form_scope ts t ops.Script info scope = script_scope ts (slice_get t.scripts.items info) scope
form_scope ts t ops.EnterFor info scope = for_scope ts (slice_get t.fors.items info) scope
form_scope ts t ops.EnterForOf info scope = for_of_scope ts (slice_get t.for_ofs.items info) scope
form_scope ts t ops.Block info scope = block_scope ts _ scope
form_scope ts t ops.ListOf info scope = list_scope ts (slice_get t.for_ofs.items info) scope
form_scope ts t ops.Function info scope = function_scope ts (slice_get t.functions.items info) scope
form_scope ts t ops.Method info scope = method_scope ts (slice_get t.functions.items info) scope
form_scope ts t ops.Object info scope = object_scope ts _ scope
form_scope ts t ops.Call info scope = call_scope (slice_get t.calls.items info) scope
form_scope ts t ops.CallOfName info scope = name_call_scope ts (slice_get t.calls.items info) scope
form_scope ts t ops.CallOfMember info scope = member_call_scope ts (slice_get t.calls.items info) scope
form_scope ts t ops.CallOfIndex info scope = index_call_scope (slice_get t.calls.items info) scope
form_scope ts t op info scope = refl

pub node-scope : (ts : List (List ℕ)) (t : NodeTable) (op : Op) (info : ℕ) (inner scope : Addr)
    → is_task_only op ≡ false
    → (is_loop op ≡ true → info ≡ 0)
    → scope_in (form_in ts t op info inner None) scope ≡ scope
node-scope ts t op info inner scope o l =
    ap (λ f. scope_in f scope) (node-form ts t op info inner o l) ∙ form_scope ts t op info scope

-- ---- the task that closes so

pub first-op : (op : Op) → closing_of op ≡ closings.First → op ≡ ops.LoopFirst
first-op ops.LoopFirst e = refl
first-op op e = cc

pub doing-op : (op : Op) → closing_of op ≡ closings.Doing → op ≡ ops.LoopDoing
doing-op ops.LoopDoing e = refl
doing-op op e = cc

pub body-op : (op : Op) → closing_of op ≡ closings.Body → op ≡ ops.LoopBody
body-op ops.LoopBody e = refl
body-op op e = cc

pub updating-op : (op : Op) → closing_of op ≡ closings.Updating → op ≡ ops.LoopUpdating
updating-op ops.LoopUpdating e = refl
updating-op op e = cc
