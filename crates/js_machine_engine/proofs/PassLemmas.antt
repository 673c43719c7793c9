-- A completion on its way outward.
use Rattle.std.proofs.Common.{◌≡◌, ℕ, List, ◌∷◌, Option, None, Some, slice_get, refl, sym, ap, subst, ◌∙◌}
use Rattle.js_heap.specs.declared.value.Addr.{Addr}
use Rattle.js_semantics.specs.declared.form.Completion.{Completion}
use Rattle.js_semantics.specs.declared.form.Completion.TheVariants.{Throws as throws, Returns as returns, Breaks as breaks, Continues as continues}
use Rattle.js_semantics.specs.declared.form.Form.TheVariants.{Catching as catching, Frame as frame, Loop as loop}
use Rattle.js_semantics.specs.declared.form.Stage.TheVariants.{Body as body}
use Rattle.js_semantics.specs.Terms.{Terms}
use Rattle.js_semantics.specs.State.{State, leave, pop_frame, travels}
use Rattle.js_semantics.specs.Rows.{taken}
use Rattle.js_machine_actions.specs.Flow.{performed}
use Rattle.js_machine_actions.specs.Contexts.{Context, state_of, Turns}
use Rattle.js_heap_memory.specs.declared.stored.Slot.{Slot}
use Rattle.js_machine_nodes.specs.declared.op.Op.{Op}
use Rattle.js_machine_nodes.specs.declared.op.Op.TheVariants as ops
use Rattle.js_machine_nodes.specs.declared.node.ScriptEntry.{ScriptEntry}
use Rattle.js_machine_nodes.specs.declared.node.ForEntry.{ForEntry}
use Rattle.js_machine_nodes.specs.declared.node.ForOfEntry.{ForOfEntry}
use Rattle.js_machine_nodes.specs.declared.node.CallEntry.{CallEntry}
use Rattle.js_machine_nodes.specs.declared.node.MemberEntry.{MemberEntry}
use Rattle.js_machine_nodes.specs.declared.node.FunctionEntry.{FunctionEntry}
use Rattle.js_machine_nodes.specs.declared.table.NodeTable.{NodeTable}
use Rattle.js_machine_nodes.specs.Forms.{form_of, script_form, for_form, for_of_form, list_form, turn_form, body_form, block_form, function_form, method_form, object_form, call_form, name_call_form, member_call_form, index_call_form}
use Rattle.js_machine_engine.specs.declared.passing.Passing.{Passing}
use Rattle.js_machine_engine.specs.declared.passing.Passing.TheVariants as passings
use Rattle.js_machine_engine.specs.declared.task.Extra.{Extra}
use Rattle.js_machine_engine.specs.declared.task.Task.{Task}
use Rattle.js_machine_engine.specs.Gaps.{scope_at, all_risen}
use Rattle.js_machine_engine.specs.Tasks.{Wide, form_in, task_form, later_of, index_of, turn_scope, gaps_of}
use Rattle.js_machine_engine.specs.Stacks.{wide, outer_of, values_of, extra_of}
use Rattle.js_machine_engine.specs.Passing.{passing_try, passing_call, passing_turn, passing_entry, passing_of, HasPassedTasks}
use Rattle.js_machine_engine.proofs.Taking.{took}

-- ---- forms that take a completion

try_takes : (scope : Addr) (o : Option (List ℕ)) (c : Completion) (later : Terms)
    → taken scope (catching o) c later ≡ took scope (catching o) c later (passing_try c)
try_takes scope o (throws v place) later = refl
try_takes scope o c later = refl

call_takes : (scope : Addr) (node : ℕ) (a : Addr) (c : Completion) (later : Terms)
    → taken scope (frame node a) c later ≡ took scope (frame node a) c later (passing_call c)
call_takes scope node a (returns v) later = refl
call_takes scope node a c later = refl

loop_takes : (scope : Addr) (o : Option Addr) (c : Completion) (later : Terms)
    → taken scope (loop body o) c later ≡ took scope (loop body o) c later (passing_turn c)
loop_takes scope o (throws v place) later = refl
loop_takes scope o (returns v) later = refl
loop_takes scope o breaks later = refl
loop_takes scope o continues later = refl

body_takes : (ts : List (List ℕ)) (scope : Addr) (o : Option ForOfEntry) (i : ℕ) (c : Completion) (later : Terms)
    → taken scope (body_form ts o i) c later ≡ took scope (body_form ts o i) c later (passing_entry o c)
body_takes ts scope None i c later = refl
body_takes ts scope (Some e) i (throws v place) later = refl
body_takes ts scope (Some e) i (returns v) later = refl
body_takes ts scope (Some e) i breaks later = refl
body_takes ts scope (Some e) i continues later = refl

-- ---- forms by entries let it pass

script_lets : (ts : List (List ℕ)) (scope : Addr) (o : Option ScriptEntry) (c : Completion) (later : Terms)
    → taken scope (script_form ts o) c later ≡ leave c
script_lets ts scope None c later = refl
script_lets ts scope (Some e) c later = refl

for_lets : (ts : List (List ℕ)) (scope : Addr) (o : Option ForEntry) (c : Completion) (later : Terms)
    → taken scope (for_form ts o) c later ≡ leave c
for_lets ts scope None c later = refl
for_lets ts scope (Some e) c later = refl

for_of_lets : (ts : List (List ℕ)) (scope : Addr) (o : Option ForOfEntry) (c : Completion) (later : Terms)
    → taken scope (for_of_form ts o) c later ≡ leave c
for_of_lets ts scope None c later = refl
for_of_lets ts scope (Some e) c later = refl

list_lets : (ts : List (List ℕ)) (scope : Addr) (o : Option ForOfEntry) (c : Completion) (later : Terms)
    → taken scope (list_form ts o) c later ≡ leave c
list_lets ts scope None c later = refl
list_lets ts scope (Some e) c later = refl

turn_lets : (ts : List (List ℕ)) (scope : Addr) (o : Option ForOfEntry) (i : ℕ) (c : Completion) (later : Terms)
    → taken scope (turn_form ts o i) c later ≡ leave c
turn_lets ts scope None i c later = refl
turn_lets ts scope (Some e) i c later = refl

block_lets : (ts : List (List ℕ)) (scope : Addr) (o : Option (List Slot)) (c : Completion) (later : Terms)
    → taken scope (block_form ts o) c later ≡ leave c
block_lets ts scope None c later = refl
block_lets ts scope (Some e) c later = refl

function_lets : (ts : List (List ℕ)) (scope : Addr) (o : Option FunctionEntry) (c : Completion) (later : Terms)
    → taken scope (function_form ts o) c later ≡ leave c
function_lets ts scope None c later = refl
function_lets ts scope (Some e) c later = refl

method_lets : (ts : List (List ℕ)) (scope : Addr) (o : Option FunctionEntry) (c : Completion) (later : Terms)
    → taken scope (method_form ts o) c later ≡ leave c
method_lets ts scope None c later = refl
method_lets ts scope (Some e) c later = refl

object_lets : (ts : List (List ℕ)) (scope : Addr) (o : Option (List MemberEntry)) (c : Completion) (later : Terms)
    → taken scope (object_form ts o) c later ≡ leave c
object_lets ts scope None c later = refl
object_lets ts scope (Some e) c later = refl

call_lets : (scope : Addr) (o : Option CallEntry) (c : Completion) (later : Terms)
    → taken scope (call_form o) c later ≡ leave c
call_lets scope None c later = refl
call_lets scope (Some e) c later = refl

name_call_lets : (ts : List (List ℕ)) (scope : Addr) (o : Option CallEntry) (c : Completion) (later : Terms)
    → taken scope (name_call_form ts o) c later ≡ leave c
name_call_lets ts scope None c later = refl
name_call_lets ts scope (Some e) c later = refl

member_call_lets : (ts : List (List ℕ)) (scope : Addr) (o : Option CallEntry) (c : Completion) (later : Terms)
    → taken scope (member_call_form ts o) c later ≡ leave c
member_call_lets ts scope None c later = refl
member_call_lets ts scope (Some e) c later = refl

index_call_lets : (scope : Addr) (o : Option CallEntry) (c : Completion) (later : Terms)
    → taken scope (index_call_form o) c later ≡ leave c
index_call_lets scope None c later = refl
index_call_lets scope (Some e) c later = refl

-- ---- all forms

by_op : (ts : List (List ℕ)) (t : NodeTable) (op : Op) (info : ℕ) (inner : Addr) (e : Option Extra) (scope : Addr)
    (c : Completion) (later : Terms)
    → taken scope (form_in ts t op info inner e) c later ≡ took scope (form_in ts t op info inner e) c later
    (passing_of t op info c)
unfolding form_of
by_op ts t ops.Catching info inner e scope c later = try_takes scope None c later
by_op ts t ops.CatchingName info inner e scope c later = try_takes scope (Some _) c later
by_op ts t ops.Frame info inner e scope c later = call_takes scope info inner c later
by_op ts t ops.LoopBody info inner e scope c later = loop_takes scope (turn_scope info inner) c later
by_op ts t ops.BodyOf info inner e scope c later =
    body_takes ts scope (slice_get t.for_ofs.items info) (index_of e) c later
by_op ts t ops.Script info inner e scope c later = script_lets ts scope (slice_get t.scripts.items info) c later
by_op ts t ops.EnterFor info inner e scope c later = for_lets ts scope (slice_get t.fors.items info) c later
by_op ts t ops.EnterForOf info inner e scope c later = for_of_lets ts scope (slice_get t.for_ofs.items info) c later
by_op ts t ops.Block info inner e scope c later = block_lets ts scope _ c later
by_op ts t ops.ListOf info inner e scope c later = list_lets ts scope (slice_get t.for_ofs.items info) c later
by_op ts t ops.TurnOf info inner e scope c later =
    turn_lets ts scope (slice_get t.for_ofs.items info) (index_of e) c later
by_op ts t ops.Function info inner e scope c later = function_lets ts scope (slice_get t.functions.items info) c later
by_op ts t ops.Method info inner e scope c later = method_lets ts scope (slice_get t.functions.items info) c later
by_op ts t ops.Object info inner e scope c later = object_lets ts scope _ c later
by_op ts t ops.ObjectRest info inner e scope c later = object_lets ts scope _ c later
by_op ts t ops.Call info inner e scope c later = call_lets scope (slice_get t.calls.items info) c later
by_op ts t ops.CallOfName info inner e scope c later = name_call_lets ts scope (slice_get t.calls.items info) c later
by_op ts t ops.CallOfMember info inner e scope c later =
    member_call_lets ts scope (slice_get t.calls.items info) c later
by_op ts t ops.CallOfIndex info inner e scope c later = index_call_lets scope (slice_get t.calls.items info) c later
by_op ts t op info inner e scope c later = refl

-- what a task makes of a completion, by what it lets pass
pub takes : (ts : List (List ℕ)) (t : NodeTable) (w : Wide) (scope : Addr) (c : Completion) (k : Passing)
    → passing_of t w.op w.info c ≡ k
    → taken scope (task_form ts t w) c (later_of ts t w) ≡ took scope (task_form ts t w) c (later_of ts t w) k
unfolding task_form
takes ts t w scope c k e =
    by_op ts t w.op w.info w.inner w.extra scope c (later_of ts t w)
    ∙ ap (took scope (form_in ts t w.op w.info w.inner w.extra) c (later_of ts t w)) e

-- ---- outward

-- a completion in the gap of a task
pub risen-by : (ts : List (List ℕ)) (t : NodeTable) (root : Addr) (w : Wide) (ws : List Wide) (c : Completion)
    (k : Passing) (s : State)
    → passing_of t w.op w.info c ≡ k
    → all_risen root (gaps_of ts t (w ∷ ws)) (travels c s) ≡ all_risen root (gaps_of ts t ws)
    (performed (took (scope_at root (gaps_of ts t ws)) (task_form ts t w) c (later_of ts t w) k) s)
risen-by ts t root w ws c k s e =
    ap (λ a. all_risen root (gaps_of ts t ws) (performed a s)) (takes ts t w (scope_at root (gaps_of ts t ws)) c k e)

left : (c : Completion) (s : State) → performed (leave c) s ≡ travels c s
unfolding performed
left c s = refl

let_pass : (t : NodeTable) (c : Completion) (w : Wide) (ws : List Wide) (now : Context)
    → passing_of t w.op w.info c ≡ passings.Lets
    → HasPassedTasks t c (w ∷ ws) now ws now
let_pass t c w ws now e = record {
  moves =
      λ ts root v taken. risen-by ts t root w ws c passings.Lets (state_of v now taken) e
      ∙ ap (all_risen root (gaps_of ts t ws)) (left c (state_of v now taken));
  scoped = λ root s. s.1;
}

unframe : (t : NodeTable) (c : Completion) (w : Wide) (ws : List Wide) (now after : Context)
    → passing_of t w.op w.info c ≡ passings.Unframes
    → Turns pop_frame now after
    → HasPassedTasks t c (w ∷ ws) now ws after
unframe t c w ws now after e f = record {
  moves =
      λ ts root v taken. risen-by ts t root w ws c passings.Unframes (state_of v now taken) e
      ∙ ap (all_risen root (gaps_of ts t ws)) (f v taken (leave c) ∙ left c (state_of v after taken));
  scoped = λ root s. s.1;
}

behind : (t : NodeTable) (c : Completion) (old : List Wide) (before : Context) (mid : List Wide) (now : Context)
    (new : List Wide) (after : Context)
    → HasPassedTasks t c old before mid now
    → HasPassedTasks t c mid now new after
    → HasPassedTasks t c old before new after
behind t c old before mid now new after h k = record {
  moves = λ ts root w taken. h.moves ts root w taken ∙ k.moves ts root w taken;
  scoped = λ root s. k.scoped root (h.scoped root s);
}

-- past one more task, which is left
pub passed-task : (t : NodeTable) (c : Completion) (old : List Wide) (before : Context) (mid new : List Wide)
    (now : Context) (task : Task)
    → HasPassedTasks t c old before mid now
    → mid ≡ wide task (values_of mid) (extra_of mid) ∷ outer_of mid
    → passing_of t task.op task.info c ≡ passings.Lets
    → new ≡ outer_of mid
    → HasPassedTasks t c old before new now
passed-task t c old before mid new now task h i e n =
    let P : List Wide → Type 0 = λ ws. HasPassedTasks t c ws now (outer_of mid) now in
    let Q : List Wide → Type 0 = λ ws. HasPassedTasks t c old before ws now in
    subst Q (sym n)
    (behind t c old before mid now (outer_of mid) now h
    (subst P (sym i) (let_pass t c (wide task (values_of mid) (extra_of mid)) (outer_of mid) now e)))

-- past an active call
pub passed-call : (t : NodeTable) (c : Completion) (old : List Wide) (before : Context) (mid new : List Wide)
    (now after : Context) (task : Task)
    → HasPassedTasks t c old before mid now
    → mid ≡ wide task (values_of mid) (extra_of mid) ∷ outer_of mid
    → passing_of t task.op task.info c ≡ passings.Unframes
    → Turns pop_frame now after
    → new ≡ outer_of mid
    → HasPassedTasks t c old before new after
passed-call t c old before mid new now after task h i e f n =
    let P : List Wide → Type 0 = λ ws. HasPassedTasks t c ws now (outer_of mid) after in
    let Q : List Wide → Type 0 = λ ws. HasPassedTasks t c old before ws after in
    subst Q (sym n)
    (behind t c old before mid now (outer_of mid) after h
    (subst P (sym i) (unframe t c (wide task (values_of mid) (extra_of mid)) (outer_of mid) now after e f)))
