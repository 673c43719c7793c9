-- Lemmas on functions that a list of parts declares.
use Rattle.std.proofs.Common.{◌≡◌, ℕ, zero, suc, ◌+◌, ◌-◌, ◌<◌, ◌≤◌, Bool, true, false, List, [], ◌∷◌, length, drop, get_or, Option, Some, None, refl, sym, ap, subst, ◌∙◌, arith, if◌then◌else◌}
use Rattle.std.specs.Prelude.{Result, slice_get, IsErrAnd}
use Rattle.js_heap.specs.declared.value.Addr.{Addr}
use Rattle.js_heap.specs.World.{World}
use Rattle.js_semantics.specs.Terms.{Term, Terms, done, standing, part, end, more, one}
use Rattle.js_semantics.specs.declared.form.Form.TheVariants.{Function as function}
use Rattle.js_semantics.specs.State.{State, with_world, Action}
use Rattle.js_semantics.specs.Functions.{with_functions}
use Rattle.js_heap_memory.specs.declared.stored.Slot.{Slot}
use Rattle.js_machine_nodes.specs.declared.op.Op.{Op}
use Rattle.js_machine_nodes.specs.declared.op.Op.TheVariants as ops
use Rattle.js_machine_nodes.specs.declared.node.Node.{Node}
use Rattle.js_machine_nodes.specs.declared.node.ScriptEntry.{ScriptEntry}
use Rattle.js_machine_nodes.specs.declared.node.ForEntry.{ForEntry}
use Rattle.js_machine_nodes.specs.declared.node.ForOfEntry.{ForOfEntry}
use Rattle.js_machine_nodes.specs.declared.node.CallEntry.{CallEntry}
use Rattle.js_machine_nodes.specs.declared.node.MemberEntry.{MemberEntry}
use Rattle.js_machine_nodes.specs.declared.node.FunctionEntry.{FunctionEntry}
use Rattle.js_machine_nodes.specs.declared.table.NodeTable.{NodeTable}
use Rattle.js_machine_nodes.specs.Forms.{form_of, members_at, script_form, for_form, for_of_form, list_form, block_form, function_form, method_form, object_form, call_form, name_call_form, member_call_form, index_call_form}
use Rattle.js_heap_memory.specs.declared.names.NameId.{NameId}
use Rattle.js_heap_memory.specs.Cells.{texts_of}
use Rattle.js_heap.specs.declared.value.Value.{Value}
use Rattle.js_heap.specs.declared.value.Value.TheVariants as values
use Rattle.js_heap.specs.declared.cell.Cell.TheVariants as cells
use Rattle.js_heap.specs.declared.change.Change.TheVariants as changes
use Rattle.js_heap_memory.specs.Names.{name_of}
use Rattle.js_semantics.specs.State.{make, write}
use Rattle.js_machine_nodes.specs.Ops.{is_literal}
use Rattle.js_machine_nodes.specs.Trees.{kids_between, tree, terms}
use Rattle.js_machine_actions.specs.declared.action_end.ActionEnd.{ActionEnd}
use Rattle.js_machine_actions.specs.Flow.{performed, Stops, Passes}
use Rattle.js_machine_actions.proofs.FlowLemmas.{passes-err}
use Rattle.js_machine_rows.specs.Declaring.{is_function_op, declared_if}
use Rattle.std.proofs.lemmas.List.{drop_all, drop_more, length-take}
use Rattle.std.proofs.Math.Nat.{min-le_left}
use Rattle.std.proofs.lemmas.Option.{get_or_from_slice_get, slice_get_within}

-- ---- parts that are no functions

script_form_skips : (ts : List (List ℕ)) (o : Option ScriptEntry) (now later us : Terms) (scope : Addr) (k : Action)
    → with_functions scope (more (part (script_form ts o) now later) us) k ≡ with_functions scope us k
script_form_skips ts None now later us scope k = refl
script_form_skips ts (Some e) now later us scope k = refl

for_form_skips : (ts : List (List ℕ)) (o : Option ForEntry) (now later us : Terms) (scope : Addr) (k : Action)
    → with_functions scope (more (part (for_form ts o) now later) us) k ≡ with_functions scope us k
for_form_skips ts None now later us scope k = refl
for_form_skips ts (Some e) now later us scope k = refl

for_of_form_skips : (ts : List (List ℕ)) (o : Option ForOfEntry) (now later us : Terms) (scope : Addr) (k : Action)
    → with_functions scope (more (part (for_of_form ts o) now later) us) k ≡ with_functions scope us k
for_of_form_skips ts None now later us scope k = refl
for_of_form_skips ts (Some e) now later us scope k = refl

block_form_skips : (ts : List (List ℕ)) (o : Option (List Slot)) (now later us : Terms) (scope : Addr) (k : Action)
    → with_functions scope (more (part (block_form ts o) now later) us) k ≡ with_functions scope us k
block_form_skips ts None now later us scope k = refl
block_form_skips ts (Some e) now later us scope k = refl

list_form_skips : (ts : List (List ℕ)) (o : Option ForOfEntry) (now later us : Terms) (scope : Addr) (k : Action)
    → with_functions scope (more (part (list_form ts o) now later) us) k ≡ with_functions scope us k
list_form_skips ts None now later us scope k = refl
list_form_skips ts (Some e) now later us scope k = refl

method_form_skips : (ts : List (List ℕ)) (o : Option FunctionEntry) (now later us : Terms) (scope : Addr) (k : Action)
    → with_functions scope (more (part (method_form ts o) now later) us) k ≡ with_functions scope us k
method_form_skips ts None now later us scope k = refl
method_form_skips ts (Some e) now later us scope k = refl

object_form_skips : (ts : List (List ℕ)) (o : Option (List MemberEntry)) (now later us : Terms) (scope : Addr)
    (k : Action)
    → with_functions scope (more (part (object_form ts o) now later) us) k ≡ with_functions scope us k
object_form_skips ts None now later us scope k = refl
object_form_skips ts (Some e) now later us scope k = refl

call_form_skips : (o : Option CallEntry) (now later us : Terms) (scope : Addr) (k : Action)
    → with_functions scope (more (part (call_form o) now later) us) k ≡ with_functions scope us k
call_form_skips None now later us scope k = refl
call_form_skips (Some e) now later us scope k = refl

name_call_form_skips : (ts : List (List ℕ)) (o : Option CallEntry) (now later us : Terms) (scope : Addr) (k : Action)
    → with_functions scope (more (part (name_call_form ts o) now later) us) k ≡ with_functions scope us k
name_call_form_skips ts None now later us scope k = refl
name_call_form_skips ts (Some e) now later us scope k = refl

member_call_form_skips : (ts : List (List ℕ)) (o : Option CallEntry) (now later us : Terms) (scope : Addr) (k : Action)
    → with_functions scope (more (part (member_call_form ts o) now later) us) k ≡ with_functions scope us k
member_call_form_skips ts None now later us scope k = refl
member_call_form_skips ts (Some e) now later us scope k = refl

index_call_form_skips : (o : Option CallEntry) (now later us : Terms) (scope : Addr) (k : Action)
    → with_functions scope (more (part (index_call_form o) now later) us) k ≡ with_functions scope us k
index_call_form_skips None now later us scope k = refl
index_call_form_skips (Some e) now later us scope k = refl

-- a part that is no function declares none
others_skip : (ts : List (List ℕ)) (t : NodeTable) (o : Op) (info : ℕ) (now later us : Terms) (scope : Addr)
    (k : Action)
    → is_function_op o ≡ false
    → with_functions scope (more (part (form_of ts t o info) now later) us) k ≡ with_functions scope us k
unfolding form_of
others_skip ts t ops.Literal info now later us scope k h = refl
others_skip ts t ops.Scripts info now later us scope k h = refl
others_skip ts t ops.Script info now later us scope k h =
    script_form_skips ts (slice_get t.scripts.items info) now later us scope k
others_skip ts t ops.Sequence info now later us scope k h = refl
others_skip ts t ops.Enter info now later us scope k h = refl
others_skip ts t ops.EnterDebugger info now later us scope k h = refl
others_skip ts t ops.EnterFor info now later us scope k h =
    for_form_skips ts (slice_get t.fors.items info) now later us scope k
others_skip ts t ops.EnterForOf info now later us scope k h =
    for_of_form_skips ts (slice_get t.for_ofs.items info) now later us scope k
others_skip ts t ops.Block info now later us scope k h =
    block_form_skips ts (slice_get t.blocks.items info) now later us scope k
others_skip ts t ops.Scoped info now later us scope k h = refl
others_skip ts t ops.Frame info now later us scope k h = refl
others_skip ts t ops.Initialize info now later us scope k h = refl
others_skip ts t ops.Choose info now later us scope k h = refl
others_skip ts t ops.Both info now later us scope k h = refl
others_skip ts t ops.Either info now later us scope k h = refl
others_skip ts t ops.LoopFirst info now later us scope k h = refl
others_skip ts t ops.LoopDoing info now later us scope k h = refl
others_skip ts t ops.LoopTesting info now later us scope k h = refl
others_skip ts t ops.LoopBody info now later us scope k h = refl
others_skip ts t ops.LoopUpdating info now later us scope k h = refl
others_skip ts t ops.ListOf info now later us scope k h =
    list_form_skips ts (slice_get t.for_ofs.items info) now later us scope k
others_skip ts t ops.TurnOf info now later us scope k h = refl
others_skip ts t ops.BodyOf info now later us scope k h = refl
others_skip ts t ops.Break info now later us scope k h = refl
others_skip ts t ops.Continue info now later us scope k h = refl
others_skip ts t ops.Return info now later us scope k h = refl
others_skip ts t ops.Throw info now later us scope k h = refl
others_skip ts t ops.Catching info now later us scope k h = refl
others_skip ts t ops.CatchingName info now later us scope k h = refl
others_skip ts t ops.Finishing info now later us scope k h = refl
others_skip ts t ops.Ending info now later us scope k h = refl
others_skip ts t ops.This info now later us scope k h = refl
others_skip ts t ops.ReadName info now later us scope k h = refl
others_skip ts t ops.ReadMember info now later us scope k h = refl
others_skip ts t ops.ReadIndex info now later us scope k h = refl
others_skip ts t ops.TypeofName info now later us scope k h = refl
others_skip ts t (ops.Unary o) info now later us scope k h = refl
others_skip ts t (ops.Binary o) info now later us scope k h = refl
others_skip ts t ops.Comma info now later us scope k h = refl
others_skip ts t ops.Function info now later us scope k h = cc
others_skip ts t ops.Method info now later us scope k h =
    method_form_skips ts (slice_get t.functions.items info) now later us scope k
others_skip ts t ops.Array info now later us scope k h = refl
others_skip ts t ops.Object info now later us scope k h = object_form_skips ts (members_at t info) now later us scope k
others_skip ts t ops.ObjectRest info now later us scope k h = refl
others_skip ts t ops.AssignName info now later us scope k h = refl
others_skip ts t ops.AssignMember info now later us scope k h = refl
others_skip ts t ops.AssignIndex info now later us scope k h = refl
others_skip ts t (ops.CompoundName o) info now later us scope k h = refl
others_skip ts t (ops.CompoundMember o) info now later us scope k h = refl
others_skip ts t (ops.CompoundIndex o) info now later us scope k h = refl
others_skip ts t (ops.UpdateName x) info now later us scope k h = refl
others_skip ts t (ops.UpdateMember x) info now later us scope k h = refl
others_skip ts t (ops.UpdateIndex x) info now later us scope k h = refl
others_skip ts t ops.DeleteName info now later us scope k h = refl
others_skip ts t ops.DeleteMember info now later us scope k h = refl
others_skip ts t ops.DeleteIndex info now later us scope k h = refl
others_skip ts t ops.Call info now later us scope k h =
    call_form_skips (slice_get t.calls.items info) now later us scope k
others_skip ts t ops.CallOfName info now later us scope k h =
    name_call_form_skips ts (slice_get t.calls.items info) now later us scope k
others_skip ts t ops.CallOfMember info now later us scope k h =
    member_call_form_skips ts (slice_get t.calls.items info) now later us scope k
others_skip ts t ops.CallOfIndex info now later us scope k h =
    index_call_form_skips (slice_get t.calls.items info) now later us scope k

if_skips : (b : Bool) (v : Value) (t : Term) (us : Terms) (scope : Addr) (k : Action)
    → with_functions scope (more t us) k ≡ with_functions scope us k
    → with_functions scope (more (if b then done v else t) us) k ≡ with_functions scope us k
if_skips true v t us scope k h = refl
if_skips false v t us scope k h = h

-- ---- functions

pub texts_length : (ts : List (List ℕ)) (ns : List NameId) → length (texts_of ts ns) ≡ length ns
texts_length ts [] = refl
texts_length ts (n ∷ ns) = ap (λ m. suc m) (texts_length ts ns)

function_makes : (ts : List (List ℕ)) (o : Option FunctionEntry) (now later us : Terms) (scope : Addr) (k : Action)
    → with_functions scope (more (part (function_form ts o) now later) us) k ≡ declared_if ts scope o
    (with_functions scope us k)
function_makes ts None now later us scope k = refl
function_makes ts (Some f) now later us scope k =
    ap (λ n. make (cells.Function f.code (name_of ts f.name.number) n (Some scope) values.Undefined)
    (λ a. write scope (changes.Bind (name_of ts f.name.number) (values.Object a)) (with_functions scope us k)))
    (texts_length ts f.parameters.items)

function_is : (o : Op) → is_function_op o ≡ true → o ≡ ops.Function
function_is ops.Function h = refl
function_is o h = cc

-- ---- parts

pub none-declares : (ts : List (List ℕ)) (t : NodeTable) (n : ℕ) (scope : Addr) (k : Action)
    → None ≡ slice_get t.nodes.items n
    → with_functions scope (one (tree ts t n)) k ≡ k
unfolding tree
none-declares ts t n scope k h = rw (← h) refl

pub other-declares : (ts : List (List ℕ)) (t : NodeTable) (n : ℕ) (node : Node) (scope : Addr) (k : Action)
    → Some node ≡ slice_get t.nodes.items n
    → is_function_op node.op ≡ false
    → with_functions scope (one (tree ts t n)) k ≡ k
unfolding tree
other-declares ts t n node scope k h g =
    rw (← h) (if_skips (is_literal node.op) _ _ end scope k (others_skip ts t node.op node.info _ _ end scope k g))

pub function-declares : (ts : List (List ℕ)) (t : NodeTable) (n : ℕ) (node : Node) (o : Option FunctionEntry)
    (scope : Addr) (k : Action)
    → Some node ≡ slice_get t.nodes.items n
    → is_function_op node.op ≡ true
    → o ≡ slice_get t.functions.items node.info
    → with_functions scope (one (tree ts t n)) k ≡ declared_if ts scope o k
unfolding tree form_of
function-declares ts t n node o scope k h g f =
    rw (← h, function_is node.op g, f) (function_makes ts (slice_get t.functions.items node.info) _ _ end scope k)

-- ---- the parts from a place on

with_first : (scope : Addr) (t : Term) (us : Terms) (k : Action)
    → with_functions scope (more t us) k ≡ with_functions scope (one t) (with_functions scope us k)
with_first scope (done v) us k = refl
with_first scope (standing v s) us k = refl
with_first scope (part (function f) now later) us k = refl
with_first scope (part f now later) us k = refl

-- the functions among the parts from a place on are made
abbrev pub FunctionsLeft : List (List ℕ) → NodeTable → Addr → List ℕ → World → ℕ → World → Type 0
FunctionsLeft ts t a ks v i w =
    (s : State) (k : Action)
    → performed (with_functions a (terms (tree ts t) ks) k) (with_world s v) ≡ performed
    (with_functions a (terms (tree ts t) (drop i ks)) k) (with_world s w)

functions_at : (ts : List (List ℕ)) (t : NodeTable) (a : Addr) (ks : List ℕ) (i d : ℕ) (v w : World) (s : State)
    (k : Action)
    → i < length ks
    → FunctionsLeft ts t a ks v i w →
    performed (with_functions a (terms (tree ts t) ks) k) (with_world s v) ≡ performed
    (with_functions a (one (tree ts t (get_or ks i d))) (with_functions a (terms (tree ts t) (drop (i + 1) ks)) k))
    (with_world s w)
functions_at ts t a ks i d v w s k l h =
    h s k
    ∙ ap (λ xs. performed (with_functions a (terms (tree ts t) xs) k) (with_world s w)) (drop_more ks i d l)
    ∙ ap (λ x. performed x (with_world s w))
    (with_first a (tree ts t (get_or ks i d)) (terms (tree ts t) (drop (i + 1) ks)) k)

functions-step : (ts : List (List ℕ)) (t : NodeTable) (a : Addr) (ks : List ℕ) (i d : ℕ) (v w u : World)
    → i < length ks
    → FunctionsLeft ts t a ks v i w →
    ((s : State) (k : Action)
    → performed (with_functions a (one (tree ts t (get_or ks i d))) k) (with_world s w) ≡ performed k
    (with_world s u))
    → FunctionsLeft ts t a ks v (i + 1) u
functions-step ts t a ks i d v w u l h g =
    λ s k. functions_at ts t a ks i d v w s k l h ∙ g s (with_functions a (terms (tree ts t) (drop (i + 1) ks)) k)

functions-stop : (ts : List (List ℕ)) (t : NodeTable) (a : Addr) (ks : List ℕ) (i d : ℕ) (v w u : World)
    (r : Result (Unit {0}) ActionEnd) (e : ActionEnd)
    → i < length ks
    → FunctionsLeft ts t a ks v i w →
    ((s : State) (k : Action)
    → Stops (with_functions a (one (tree ts t (get_or ks i d))) k) (with_world s w) e (with_world s u))
    → IsErrAnd r (λ e'. e' ≡ e)
    → Passes (with_functions a (terms (tree ts t) ks)) v r u
functions-stop ts t a ks i d v w u r e l h g q =
    passes-err (with_functions a (terms (tree ts t) ks)) v u r e q
    (λ s k said. functions_at ts t a ks i d v w s k l h
    ∙ g s (with_functions a (terms (tree ts t) (drop (i + 1) ks)) k) said)

-- ---- the parts between two places, one after another

-- behind the part at an index
pub functions-next : (ts : List (List ℕ)) (t : NodeTable) (a : Addr) (ks : List ℕ) (i kid : ℕ) (v w u : World)
    → slice_get ks i ≡ Some kid
    → FunctionsLeft ts t a ks v i w →
    ((s : State) (k : Action)
    → performed (with_functions a (one (tree ts t kid)) k) (with_world s w) ≡ performed k (with_world s u))
    → FunctionsLeft ts t a ks v (i + 1) u
functions-next ts t a ks i kid v w u at h g =
    let P : ℕ → Type 0 = λ n. (s : State) (k : Action)
    → performed (with_functions a (one (tree ts t n)) k) (with_world s w) ≡ performed k (with_world s u) in
    functions-step ts t a ks i kid v w u (slice_get_within ks i kid at) h
    (subst P (sym (get_or_from_slice_get ks i kid kid at)) g)

-- where it ends there
pub functions-end : (ts : List (List ℕ)) (t : NodeTable) (a : Addr) (ks : List ℕ) (i kid : ℕ) (v w u : World)
    (r : Result (Unit {0}) ActionEnd) (e : ActionEnd)
    → slice_get ks i ≡ Some kid
    → FunctionsLeft ts t a ks v i w →
    ((s : State) (k : Action) → Stops (with_functions a (one (tree ts t kid)) k) (with_world s w) e (with_world s u))
    → IsErrAnd r (λ e'. e' ≡ e)
    → Passes (with_functions a (terms (tree ts t) ks)) v r u
functions-end ts t a ks i kid v w u r e at h g q =
    let P : ℕ → Type 0 = λ n. (s : State) (k : Action)
    → Stops (with_functions a (one (tree ts t n)) k) (with_world s w) e (with_world s u) in
    functions-stop ts t a ks i kid v w u r e (slice_get_within ks i kid at) h
    (subst P (sym (get_or_from_slice_get ks i kid kid at)) g) q

-- where none is left
pub functions-done : (ts : List (List ℕ)) (t : NodeTable) (a : Addr) (ks : List ℕ) (i : ℕ) (v w : World)
    → length ks ≤ i
    → FunctionsLeft ts t a ks v i w
    → (s : State) (k : Action)
    → performed (with_functions a (terms (tree ts t) ks) k) (with_world s v) ≡ performed k (with_world s w)
functions-done ts t a ks i v w l h =
    λ s k. h s k ∙ ap (λ xs. performed (with_functions a (terms (tree ts t) xs) k) (with_world s w)) (drop_all i ks l)

-- there are no more than the places between
pub parts-within : (t : NodeTable) (from to : ℕ) → length (kids_between t from to) ≤ to - from
parts-within t from to =
    omega (
      arith,
      length-take (to - from) (drop from t.kids.items),
      min-le_left (to - from) (length (drop from t.kids.items)),
    )

-- none is at an index behind them
pub none-behind : (ks : List ℕ) (i : ℕ) → slice_get ks i ≡ None → length ks ≤ i
none-behind [] i h = omega arith
none-behind (k ∷ ks) zero h = absurd cc
none-behind (k ∷ ks) (suc i) h = omega (arith, none-behind ks i h)
