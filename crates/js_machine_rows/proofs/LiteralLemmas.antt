-- Lemmas on rows of literals and of functions.
use Rattle.std.proofs.Common.{◌≡◌, ℕ, refl, sym, subst, ap, ◌∙◌, Bool, true, false, List, [], length, drop, Option, Some, None, Result, slice_get, if◌then◌else◌}
use Rattle.js_heap.specs.declared.value.Addr.{Addr}
use Rattle.js_heap.specs.declared.value.Value.{Value}
use Rattle.js_heap.specs.declared.value.Value.TheVariants as values
use Rattle.js_heap.specs.declared.cell.Cell.TheVariants as cells
use Rattle.js_heap.specs.Values.{key_of}
use Rattle.js_heap.specs.World.{World}
use Rattle.js_semantics.specs.declared.form.Form.{Form}
use Rattle.js_semantics.specs.declared.form.Form.TheVariants.{Method as method, Object as object}
use Rattle.js_semantics.specs.declared.form.FunctionForm.{FunctionForm}
use Rattle.js_semantics.specs.declared.form.Member.{Member}
use Rattle.js_semantics.specs.Terms.{Term, Terms, done, part, more, joined, dones}
use Rattle.js_semantics.specs.State.{State, with_world, Action, go, give, make, top_this, goes, went}
use Rattle.js_semantics.specs.BuiltIns.{last_of}
use Rattle.js_semantics.specs.Functions.{function_cell, function_row, named_function, receiver_of}
use Rattle.js_semantics.specs.Rows.{object_row, object_or_fail, properties_from}
use Rattle.js_heap_memory.specs.Names.{name_of}
use Rattle.js_machine_actions.specs.declared.action_end.ActionEnd.{ActionEnd}
use Rattle.js_machine_actions.specs.Flow.{performed, Yields, Gives}
use Rattle.js_machine_actions.specs.Functions.{named_of}
use Rattle.js_machine_actions.specs.Contexts.{Context, state_of}
use Rattle.js_machine_nodes.specs.declared.node.Node.{Node}
use Rattle.js_machine_nodes.specs.declared.node.FunctionEntry.{FunctionEntry}
use Rattle.js_machine_nodes.specs.declared.op.Op.{Op}
use Rattle.js_machine_nodes.specs.declared.op.Op.TheVariants as ops
use Rattle.js_machine_nodes.specs.declared.table.NodeTable.{NodeTable}
use Rattle.js_machine_nodes.specs.Ops.{is_literal}
use Rattle.js_machine_nodes.specs.Forms.{function_of, form_of, script_form, for_form, for_of_form, list_form, block_form, function_form, method_form, object_form, call_form, name_call_form, member_call_form, index_call_form, members_at}
use Rattle.js_machine_nodes.specs.Trees.{constant_at, kids_between, terms, node_term, tree_within, tree, trees}
use Rattle.js_machine_engine.specs.declared.reduced.Reduced.{Reduced}
use Rattle.js_machine_engine.specs.declared.reduced.Reduced.TheVariants as reduced
use Rattle.js_machine_engine.specs.Answers.{reduced_move, reduced_term, head_of, rest_of, now_of}
use Rattle.js_machine_engine.specs.Tasks.{Wide, task_form, later_of}
use Rattle.js_machine_rows.specs.Does.{Does, DoesIn, RepliesWith, replied}
use Rattle.js_machine_rows.specs.Over.{answered_by, function_made, method_made, IsLiteralOf, AddsTo}
use Rattle.js_machine_rows.proofs.AnswerLemmas.{replies-by, in-context}
use Rattle.js_machine_rows.proofs.PartLemmas.{first-tree, no-trees}
use Rattle.js_machine_rows.proofs.OverLemmas.{same-action, yields-does, give-does}
use Rattle.js_machine_rows.proofs.DeclaredLemmas.{texts_length}

-- ---- functions

pub cell-yields : (ts : List (List ℕ)) (f : FunctionEntry) (name : List ℕ) (scope : Addr) (receiver : Value) (n : ℕ)
    (v : World) (r : Result Addr ActionEnd) (w : World)
    → n ≡ length f.parameters.items →
    Yields (make (cells.Function f.code name n (Some scope) receiver)) v r w
    → Yields (make (function_cell (function_of ts f) name scope receiver)) v r w
cell-yields ts f name scope receiver n v r w h y =
    let P : ℕ → Type 0 = λ m. Yields (make (cells.Function f.code name m (Some scope) receiver)) v r w in
    subst P (h ∙ sym (texts_length ts f.parameters.items)) y

pub keyed-yields : (ts : List (List ℕ)) (f : FunctionEntry) (name key : List ℕ) (scope : Addr) (receiver : Value)
    (n : ℕ) (v : World) (r : Result Addr ActionEnd) (w : World)
    → n ≡ length f.parameters.items
    → name ≡ key →
    Yields (make (cells.Function f.code name n (Some scope) receiver)) v r w
    → Yields (make (function_cell (function_of ts f) key scope receiver)) v r w
keyed-yields ts f name key scope receiver n v r w h i y =
    let P : List ℕ → Type 0 = λ x. Yields (make (function_cell (function_of ts f) x scope receiver)) v r w in
    subst P i (cell-yields ts f name scope receiver n v r w h y)

pub named-gives : (ts : List (List ℕ)) (f : FunctionEntry) (scope : Addr) (n : ℕ) (v : World)
    (r : Result Value ActionEnd) (w : World)
    → n ≡ length f.parameters.items →
    Gives (named_of f.code n (name_of ts f.name.number) scope) v r w
    → Gives (named_function (function_of ts f) scope) v r w
named-gives ts f scope n v r w h y =
    let P : ℕ → Type 0 = λ m. Gives (named_of f.code m (name_of ts f.name.number) scope) v r w in
    subst P (h ∙ sym (texts_length ts f.parameters.items)) y

made_else : (b : Bool) (x y : Action) → b ≡ false → (if b then x else y) ≡ y
made_else true x y h = cc
made_else false x y h = refl

pub made-plain : (f : FunctionForm) (scope : Addr) (this u : Value) (v : World) (r : Result Value ActionEnd) (w : World)
    → f.is_named ≡ false
    → u ≡ receiver_of f this →
    Gives (make (function_cell f f.name scope u) (λ a. give (values.Object a))) v r w
    → Gives (function_made f scope this) v r w
made-plain f scope this u v r w h i g =
    let x : Action = make (function_cell f f.name scope (receiver_of f this)) (λ a. give (values.Object a)) in
    let P : Value → Type 0 = λ z. Gives (make (function_cell f f.name scope z) (λ a. give (values.Object a))) v r w in
    let Q : Action → Type 0 = λ z. Gives z v r w in
    subst Q (sym (made_else f.is_named (named_function f scope) x h)) (subst P i g)

pub function-reply : (ts : List (List ℕ)) (f : FunctionForm) (scope : Addr) (u : Value) (c : Context) (v : World)
    (r : Result Value ActionEnd) (w : World) (q : Reduced)
    → u ≡ top_this c.frames c.outer_this →
    Gives (function_made f scope u) v r w
    → q ≡ replied r
    → RepliesWith ts (function_row (state_of v c []) scope f) v c q w c
function-reply ts f scope u c v r w q h g j =
    let P : Value → Type 0 = λ z. Gives (function_made f scope z) v r w in
    λ t e. in-context ts t e (function_row (state_of v c []) scope f) v q w c
    (replies-by ts (function_row (state_of v c []) scope f) v r w q (subst P h g) j t e)

-- ---- object literals

adds_does : (ts : List (List ℕ)) (t : NodeTable) (e : Wide) (ms : List Member) (vs : List Value) (now rest : Terms)
    (u : Value) (s : State)
    → AddsTo ts t e ms vs now rest →
    Does ts t e (go (part (object ms) (joined (dones vs) (more (done u) now)) rest)) s (reduced.Adds u) s
unfolding reduced_move reduced_term performed
adds_does ts t e ms vs now rest u s h =
    ap (λ (x : Form). goes (part x (joined (dones vs) (more (done u) now)) rest) s went) (sym h.form) ∙
    ap (λ (x : List Value). goes (part (task_form ts t e) (joined (dones x) (more (done u) now)) rest) s went)
    (sym h.values) ∙
    ap (λ (x : Terms). goes (part (task_form ts t e) (joined (dones e.values) (more (done u) x)) rest) s went)
    (sym h.parts) ∙
    ap (λ (x : Terms). goes
    (part (task_form ts t e) (joined (dones e.values) (more (done u) (now_of (head_of (later_of ts t e))))) x)
    s went)
    (sym h.behind)

pub method-reply : (ts : List (List ℕ)) (f : FunctionForm) (scope : Addr) (vs : List Value) (key : Value) (v w : World)
    (r : Result Addr ActionEnd) (q : Reduced)
    → key ≡ last_of vs
    → Yields (method_made (key_of v key) f scope) v r w
    → q ≡ answered_by (λ a. reduced.Adds (values.Object a)) r →
    (t : NodeTable) (e : Wide) (ms : List Member) (now later rest : Terms)
    → AddsTo ts t e ms vs now rest
    → DoesIn ts t e (object_row v scope ms vs (more (part (method f) now later) rest)) v q w
method-reply ts f scope vs key v w r q i y j t e ms now later rest h =
    let P : Value → Type 0 = λ x. Yields (method_made (key_of v x) f scope) v r w in
    let next : Addr
    → Action = λ a. go (part (object ms) (joined (dones vs) (more (done (values.Object a)) now)) rest) in
    yields-does ts t e (method_made (key_of v (last_of vs)) f scope) next (λ a. reduced.Adds (values.Object a)) v r w q
    (subst P i y) j (λ a s. adds_does ts t e ms vs now rest (values.Object a) s h)

-- ---- parts that are no methods

abbrev pub is_method : Form → Bool
is_method (method f) = true
is_method f = false

passed_part : (v : World) (scope : Addr) (ms : List Member) (vs : List Value) (f : Form) (now later rest : Terms)
    → is_method f ≡ false
    → object_row v scope ms vs (more (part f now later) rest) ≡ give values.Undefined
passed_part v scope ms vs (method f) now later rest h = cc
passed_part v scope ms vs f now later rest h = refl

script_not : (ts : List (List ℕ)) (o : _) → is_method (script_form ts o) ≡ false
script_not ts None = refl
script_not ts (Some x) = refl

for_not : (ts : List (List ℕ)) (o : _) → is_method (for_form ts o) ≡ false
for_not ts None = refl
for_not ts (Some x) = refl

for_of_not : (ts : List (List ℕ)) (o : _) → is_method (for_of_form ts o) ≡ false
for_of_not ts None = refl
for_of_not ts (Some x) = refl

list_not : (ts : List (List ℕ)) (o : _) → is_method (list_form ts o) ≡ false
list_not ts None = refl
list_not ts (Some x) = refl

block_not : (ts : List (List ℕ)) (o : _) → is_method (block_form ts o) ≡ false
block_not ts None = refl
block_not ts (Some x) = refl

function_not : (ts : List (List ℕ)) (o : _) → is_method (function_form ts o) ≡ false
function_not ts None = refl
function_not ts (Some x) = refl

object_not : (ts : List (List ℕ)) (o : _) → is_method (object_form ts o) ≡ false
object_not ts None = refl
object_not ts (Some x) = refl

call_not : (o : _) → is_method (call_form o) ≡ false
call_not None = refl
call_not (Some x) = refl

name_call_not : (ts : List (List ℕ)) (o : _) → is_method (name_call_form ts o) ≡ false
name_call_not ts None = refl
name_call_not ts (Some x) = refl

member_call_not : (ts : List (List ℕ)) (o : _) → is_method (member_call_form ts o) ≡ false
member_call_not ts None = refl
member_call_not ts (Some x) = refl

index_call_not : (o : _) → is_method (index_call_form o) ≡ false
index_call_not None = refl
index_call_not (Some x) = refl

other_form : (ts : List (List ℕ)) (t : NodeTable) (o : Op) (info : ℕ)
    → (o ≡ ops.Method → ⊥)
    → is_method (form_of ts t o info) ≡ false
unfolding form_of
other_form ts t ops.Method info h = absurd (h refl)
other_form ts t ops.Script info h = script_not ts (slice_get t.scripts.items info)
other_form ts t ops.EnterFor info h = for_not ts (slice_get t.fors.items info)
other_form ts t ops.EnterForOf info h = for_of_not ts (slice_get t.for_ofs.items info)
other_form ts t ops.ListOf info h = list_not ts (slice_get t.for_ofs.items info)
other_form ts t ops.Block info h = block_not ts (slice_get t.blocks.items info)
other_form ts t ops.Function info h = function_not ts (slice_get t.functions.items info)
other_form ts t ops.Object info h = object_not ts (members_at t info)
other_form ts t ops.Call info h = call_not (slice_get t.calls.items info)
other_form ts t ops.CallOfName info h = name_call_not ts (slice_get t.calls.items info)
other_form ts t ops.CallOfMember info h = member_call_not ts (slice_get t.calls.items info)
other_form ts t ops.CallOfIndex info h = index_call_not (slice_get t.calls.items info)
other_form ts t o info h = refl

pub other-gives : (ts : List (List ℕ)) (t : NodeTable) (scope : Addr) (o : Op) (info : ℕ) (vs : List Value) (v : World)
    → (o ≡ ops.Method → ⊥) →
    (e : Wide) (ms : List Member) (now later rest : Terms)
    → AddsTo ts t e ms vs now rest
    → DoesIn ts t e (object_row v scope ms vs (more (part (form_of ts t o info) now later) rest)) v
    (reduced.Gives values.Undefined) v
other-gives ts t scope o info vs v h e ms now later rest x =
    same-action ts t e (object_row v scope ms vs (more (part (form_of ts t o info) now later) rest))
    (give values.Undefined) v v (reduced.Gives values.Undefined)
    (passed_part v scope ms vs (form_of ts t o info) now later rest (other_form ts t o info h))
    (λ s. give-does ts t e values.Undefined (with_world s v))

pub method-none : (ts : List (List ℕ)) (t : NodeTable) (scope : Addr) (o : Op) (info : ℕ) (vs : List Value) (v : World)
    → o ≡ ops.Method
    → None ≡ slice_get t.functions.items info →
    (e : Wide) (ms : List Member) (now later rest : Terms)
    → AddsTo ts t e ms vs now rest
    → DoesIn ts t e (object_row v scope ms vs (more (part (form_of ts t o info) now later) rest)) v
    (reduced.Gives values.Undefined) v
unfolding form_of
method-none ts t scope o info vs v h i e ms now later rest x =
    let f : is_method (form_of ts t o info) ≡ false = ap (λ p. is_method (form_of ts t p info)) h
    ∙ ap (λ y. is_method (method_form ts y)) (sym i) in
    same-action ts t e (object_row v scope ms vs (more (part (form_of ts t o info) now later) rest))
    (give values.Undefined) v v (reduced.Gives values.Undefined)
    (passed_part v scope ms vs (form_of ts t o info) now later rest f)
    (λ s. give-does ts t e values.Undefined (with_world s v))

pub method-some : (ts : List (List ℕ)) (t : NodeTable) (scope : Addr) (o : Op) (info : ℕ) (f : FunctionEntry)
    (vs : List Value) (v w : World) (q : Reduced)
    → o ≡ ops.Method
    → Some f ≡ slice_get t.functions.items info →
    ((u : NodeTable) (e : Wide) (ms : List Member) (now later rest : Terms)
    → AddsTo ts u e ms vs now rest
    → DoesIn ts u e (object_row v scope ms vs (more (part (method (function_of ts f)) now later) rest)) v q w)
    →
    (e : Wide) (ms : List Member) (now later rest : Terms)
    → AddsTo ts t e ms vs now rest
    → DoesIn ts t e (object_row v scope ms vs (more (part (form_of ts t o info) now later) rest)) v q w
unfolding form_of
method-some ts t scope o info f vs v w q h i g e ms now later rest x =
    let m : form_of ts t o info ≡ method (function_of ts f) = ap (λ p. form_of ts t p info) h
    ∙ ap (λ y. method_form ts y) (sym i) in
    same-action ts t e (object_row v scope ms vs (more (part (form_of ts t o info) now later) rest))
    (object_row v scope ms vs (more (part (method (function_of ts f)) now later) rest)) v w q
    (ap (λ y. object_row v scope ms vs (more (part y now later) rest)) m) (g t e ms now later rest x)

-- ---- nodes

literal_or : (ts : List (List ℕ)) (t : NodeTable) (v : World) (scope : Addr) (ms : List Member) (vs : List Value)
    (o : Op) (info : ℕ) (now later rest : Terms) →
    object_row v scope ms vs
    (more (if is_literal o then done (constant_at t info) else part (form_of ts t o info) now later) rest)
    ≡ object_row v scope ms vs
    (more (part (form_of ts t o info)
    (now_of (if is_literal o then done (constant_at t info) else part (form_of ts t o info) now later)) later)
    rest)
unfolding form_of
literal_or ts t v scope ms vs ops.Literal info now later rest = refl
literal_or ts t v scope ms vs o info now later rest = refl

pub node-before : (ts : List (List ℕ)) (t : NodeTable) (scope : Addr) (n : ℕ) (node : Node) (vs : List Value)
    (v w : World) (q : Reduced)
    → Some node ≡ slice_get t.nodes.items n →
    ((e : Wide) (ms : List Member) (now later rest : Terms)
    → AddsTo ts t e ms vs now rest
    → DoesIn ts t e (object_row v scope ms vs (more (part (form_of ts t node.op node.info) now later) rest)) v q w)
    →
    (e : Wide) (ms : List Member) (rest : Terms)
    → AddsTo ts t e ms vs (now_of (tree ts t n)) rest
    → DoesIn ts t e (object_row v scope ms vs (more (tree ts t n) rest)) v q w
unfolding tree
node-before ts t scope n node vs v w q h g e ms rest x =
    let now : Terms = terms (tree_within ts t n) (kids_between t node.first node.mid) in
    let later : Terms = terms (tree_within ts t n) (kids_between t node.mid node.end) in
    let is : Term = node_term ts t (tree_within ts t n) (Some node) in
    let P : Option Node
    → Type 0 = λ o. AddsTo ts t e ms vs (now_of (node_term ts t (tree_within ts t n) o)) rest
    → DoesIn ts t e (object_row v scope ms vs (more (node_term ts t (tree_within ts t n) o) rest)) v q w in
    let here : AddsTo ts t e ms vs (now_of is) rest → DoesIn ts t e (object_row v scope ms vs (more is rest)) v q w =
    λ y. same-action ts t e (object_row v scope ms vs (more is rest))
    (object_row v scope ms vs (more (part (form_of ts t node.op node.info) (now_of is) later) rest)) v w q
    (literal_or ts t v scope ms vs node.op node.info now later rest) (g e ms (now_of is) later rest y) in
    subst P h here x

pub node-none : (ts : List (List ℕ)) (t : NodeTable) (scope : Addr) (n : ℕ) (vs : List Value) (v : World)
    → None ≡ slice_get t.nodes.items n →
    (e : Wide) (ms : List Member) (rest : Terms)
    → AddsTo ts t e ms vs (now_of (tree ts t n)) rest
    → DoesIn ts t e (object_row v scope ms vs (more (tree ts t n) rest)) v (reduced.Gives values.Undefined) v
unfolding tree
node-none ts t scope n vs v h e ms rest x =
    same-action ts t e (object_row v scope ms vs (more (tree ts t n) rest)) (give values.Undefined) v v
    (reduced.Gives values.Undefined)
    (ap (λ o. object_row v scope ms vs (more (node_term ts t (tree_within ts t n) o) rest)) (sym h))
    (λ s. give-does ts t e values.Undefined (with_world s v))

-- ---- kept parts

pub literal-part : (ts : List (List ℕ)) (t : NodeTable) (scope : Addr) (from to k : ℕ) (vs : List Value) (v w : World)
    (q : Reduced)
    → Some k ≡ slice_get (kids_between t from to) 0 →
    ((e : Wide) (ms : List Member) (rest : Terms)
    → AddsTo ts t e ms vs (now_of (tree ts t k)) rest
    → DoesIn ts t e (object_row v scope ms vs (more (tree ts t k) rest)) v q w)
    →
    (ms : List Member) (e : Wide)
    → IsLiteralOf ts t e ms vs (trees ts t from to)
    → DoesIn ts t e (object_row v scope ms vs (trees ts t from to)) v q w
literal-part ts t scope from to k vs v w q h g ms e x =
    let rest : Terms = terms (tree ts t) (drop 1 (kids_between t from to)) in
    let first : trees ts t from to ≡ more (tree ts t k) rest = first-tree ts t from to k h in
    let kept : later_of ts t e ≡ more (tree ts t k) rest = x.kept ∙ first in
    same-action ts t e (object_row v scope ms vs (trees ts t from to))
    (object_row v scope ms vs (more (tree ts t k) rest)) v w q (ap (object_row v scope ms vs) first)
    (g e ms rest
    (record {
      form = x.form;
      values = x.values;
      parts = ap (λ y. now_of (head_of y))
          kept;
      behind = ap rest_of kept;
    }))

pub literal-end : (ts : List (List ℕ)) (t : NodeTable) (scope : Addr) (from to : ℕ) (ms : List Member) (vs : List Value)
    (v w : World) (r : Result Value ActionEnd) (q : Reduced)
    → None ≡ slice_get (kids_between t from to) 0 →
    Gives (object_or_fail (properties_from v [] ms vs)) v r w → q ≡ replied r →
    (e : Wide)
    → IsLiteralOf ts t e ms vs (trees ts t from to)
    → DoesIn ts t e (object_row v scope ms vs (trees ts t from to)) v q w
literal-end ts t scope from to ms vs v w r q h g j e x =
    same-action ts t e (object_row v scope ms vs (trees ts t from to)) (object_or_fail (properties_from v [] ms vs))
    v w q (ap (object_row v scope ms vs) (no-trees ts t from to h))
    (replies-by ts (object_or_fail (properties_from v [] ms vs)) v r w q g j t e)
