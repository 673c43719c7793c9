-- Lemmas that make clauses of rows over a table the clauses of the table of steps.
use Rattle.std.proofs.Common.{◌≡◌, ℕ, refl, sym, subst, ap, ◌∙◌, List, [], Option, Some, None, slice_get}
use Rattle.js_heap.specs.declared.value.Addr.{Addr}
use Rattle.js_heap.specs.declared.value.Value.{Value}
use Rattle.js_heap.specs.declared.value.Value.TheVariants as values
use Rattle.js_heap.specs.declared.cell.Cell.TheVariants as cells
use Rattle.js_heap.specs.World.{World}
use Rattle.js_semantics.specs.declared.form.Form.{Form}
use Rattle.js_semantics.specs.declared.form.Form.TheVariants as forms
use Rattle.js_semantics.specs.declared.form.Completion.TheVariants.{Throws as throws}
use Rattle.js_semantics.specs.declared.form.SourceMark.{SourceMark}
use Rattle.js_semantics.specs.declared.form.Stage.TheVariants as stages
use Rattle.js_semantics.specs.State.{State, with_world, make, give}
use Rattle.js_semantics.specs.Functions.{function_row}
use Rattle.js_semantics.specs.Next.{scope_in}
use Rattle.js_semantics.specs.Rows.{only, row, taken, script_row, enter_row, block_row, initialize_row, choose_row, both_row, either_row, loop_row, enter_for_row, enter_for_of_row, list_row, object_row, catch_row}
use Rattle.js_heap_memory.specs.Cells.{binding_at, bindings}
use Rattle.js_heap_memory.specs.Names.{name_of}
use Rattle.js_machine_actions.specs.Contexts.{Context, state_of}
use Rattle.js_machine_nodes.specs.declared.op.Op.{Op}
use Rattle.js_machine_nodes.specs.declared.op.Op.TheVariants as ops
use Rattle.js_machine_nodes.specs.declared.table.NodeTable.{NodeTable}
use Rattle.js_machine_nodes.specs.Forms.{form_of, script_form, for_form, for_of_form, block_form, list_form, turn_form, function_form, function_of, object_form, members_of, members_at}
use Rattle.js_machine_nodes.specs.Trees.{program_of, trees}
use Rattle.js_machine_engine.specs.declared.reduced.Reduced.{Reduced}
use Rattle.js_machine_engine.specs.declared.reduced.Reduced.TheVariants as reduced
use Rattle.js_machine_engine.specs.declared.task.Extra.{Extra}
use Rattle.js_machine_engine.specs.declared.task.Extra.TheVariants as extras
use Rattle.js_machine_engine.specs.declared.task.Redex.{Redex}
use Rattle.js_machine_engine.specs.Answers.{own_scope}
use Rattle.js_machine_engine.specs.Rows.{redex, RowOf, CatchOf}
use Rattle.js_machine_engine.specs.Tasks.{Wide, task_form, form_in, later_of, turn_scope}
use Rattle.js_machine_rows.specs.Does.{Does, DoesIn, DoesWith, Replies, RepliesWith}
use Rattle.js_machine_rows.specs.Over.{RepliesOver, RepliesOverWith, RepliesInside, RepliesAnywhere, OfEntry, IsTurn, IsLiteralOf}
use Rattle.js_machine_rows.proofs.RowLemmas.{form-by, row-by, row-within}
use Rattle.js_machine_rows.proofs.OverLemmas.{give-does}

-- ---- tasks

-- the row of a form that has no scope of its own
pub task-row : (ts : List (List ℕ)) (t : NodeTable) (form : Redex) (vs : List Value) (x : Option Extra) (o : Op)
    (f : Form) (outer : Addr) (v w : World) (c d : Context) (before : List (List ℕ)) (r : Reduced) →
    form.op ≡ o → form_in ts t o form.info form.inner x ≡ f → scope_in f outer ≡ outer →
    Does ts t (redex form vs x)
    (row (program_of ts t) (state_of v c before) form.inner f vs (later_of ts t (redex form vs x)))
    (state_of v c before) r (state_of w d before) →
    RowOf ts t (redex form vs x) outer (state_of v c before) r (state_of w d before)
task-row ts t form vs x o f outer v w c d before r h i k g =
    row-by ts t (redex form vs x) f outer (state_of v c before) r (state_of w d before)
    (form-by ts t (redex form vs x) o h ∙ i) k g

-- and of one whose row doesn't ask for it
pub scope-row : (ts : List (List ℕ)) (t : NodeTable) (form : Redex) (vs : List Value) (x : Option Extra) (o : Op)
    (f : Form) (outer : Addr) (v w : World) (c d : Context) (before : List (List ℕ)) (r : Reduced) →
    form.op ≡ o → form_in ts t o form.info form.inner x ≡ f →
    Does ts t (redex form vs x)
    (row (program_of ts t) (state_of v c before) outer f vs (later_of ts t (redex form vs x)))
    (state_of v c before) r (state_of w d before) →
    RowOf ts t (redex form vs x) outer (state_of v c before) r (state_of w d before)
scope-row ts t form vs x o f outer v w c d before r h i g =
    row-within ts t (redex form vs x) f outer (state_of v c before) r (state_of w d before)
    (form-by ts t (redex form vs x) o h ∙ i) g

-- no answer
pub memory-row : (ts : List (List ℕ)) (t : NodeTable) (e : Wide) (outer : Addr) (s u : State) (r : Reduced)
    → r ≡ reduced.Memory
    → RowOf ts t e outer s r u
memory-row ts t e outer s u r h = let P : Reduced → Type 0 = λ q. RowOf ts t e outer s q u in subst P (sym h) (λ k. tt)

-- ---- scripts and statements

pub script-row : (ts : List (List ℕ)) (t : NodeTable) (form : Redex) (vs : List Value) (outer : Addr) (v w : World)
    (c d : Context) (before : List (List ℕ)) (r : Reduced) (o : _)
    → form.op ≡ ops.Script
    → slice_get t.scripts.items form.info ≡ o →
    OfEntry o r
    (λ x. RepliesOverWith ts t (script_row x.number (bindings ts x.names) (trees ts t form.mid form.end)) v c r w d)
    → RowOf ts t (redex form vs None) outer (state_of v c before) r (state_of w d before)
unfolding form_of
script-row ts t form vs outer v w c d before r None h i g =
    memory-row ts t (redex form vs None) outer (state_of v c before) (state_of w d before) r g
script-row ts t form vs outer v w c d before r (Some x) h i g =
    task-row ts t form vs None ops.Script (forms.Script x.number (bindings ts x.names)) outer v w c d before r h
    (ap (script_form ts) i) refl (g (redex form vs None) before)

pub enter-row : (ts : List (List ℕ)) (t : NodeTable) (form : Redex) (vs : List Value) (outer : Addr) (v : World)
    (c d : Context) (before : List (List ℕ)) (r : Reduced)
    → form.op ≡ ops.Enter →
    RepliesAnywhere t (λ us. enter_row form.info (trees us t form.mid form.end)) c r d
    → RowOf ts t (redex form vs None) outer (state_of v c before) r (state_of v d before)
unfolding form_of
enter-row ts t form vs outer v c d before r h g =
    task-row ts t form vs None ops.Enter (forms.Enter form.info) outer v v c d before r h refl refl
    (g ts v (redex form vs None) before)

pub debugger-row : (ts : List (List ℕ)) (t : NodeTable) (form : Redex) (vs : List Value) (outer : Addr) (v : World)
    (c d : Context) (before : List (List ℕ)) (r : Reduced)
    → form.op ≡ ops.EnterDebugger →
    RepliesAnywhere t (λ us. enter_row form.info (trees us t form.mid form.end)) c r d
    → RowOf ts t (redex form vs None) outer (state_of v c before) r (state_of v d before)
unfolding form_of
debugger-row ts t form vs outer v c d before r h g =
    task-row ts t form vs None ops.EnterDebugger (forms.EnterDebugger form.info) outer v v c d before r h refl refl
    (g ts v (redex form vs None) before)

pub block-row : (ts : List (List ℕ)) (t : NodeTable) (form : Redex) (vs : List Value) (outer : Addr) (v w : World)
    (c : Context) (before : List (List ℕ)) (r : Reduced) (o : _)
    → form.op ≡ ops.Block
    → slice_get t.blocks.items form.info ≡ o →
    OfEntry o r (λ ss. RepliesOver ts t (block_row form.inner (bindings ts ss) (trees ts t form.mid form.end)) v r w)
    → RowOf ts t (redex form vs None) outer (state_of v c before) r (state_of w c before)
unfolding form_of
block-row ts t form vs outer v w c before r None h i g =
    memory-row ts t (redex form vs None) outer (state_of v c before) (state_of w c before) r g
block-row ts t form vs outer v w c before r (Some ss) h i g =
    task-row ts t form vs None ops.Block (forms.Block (bindings ts ss)) outer v w c c before r h (ap (block_form ts) i)
    refl (g (redex form vs None) (state_of v c before))

pub initialize-row : (ts : List (List ℕ)) (t : NodeTable) (form : Redex) (vs : List Value) (outer : Addr) (v w : World)
    (c : Context) (before : List (List ℕ)) (r : Reduced)
    → form.op ≡ ops.Initialize →
    Replies ts (initialize_row form.inner (name_of ts form.info) vs) v r w
    → RowOf ts t (redex form vs None) outer (state_of v c before) r (state_of w c before)
unfolding form_of
initialize-row ts t form vs outer v w c before r h g =
    task-row ts t form vs None ops.Initialize (forms.Initialize (name_of ts form.info))
    outer v w c c before r h refl refl (g t (redex form vs None) (state_of v c before))

-- ---- tests

pub choose-row : (ts : List (List ℕ)) (t : NodeTable) (form : Redex) (vs : List Value) (outer : Addr) (v : World)
    (c : Context) (before : List (List ℕ)) (r : Reduced)
    → form.op ≡ ops.Choose →
    RepliesOver ts t (choose_row v (only vs) (trees ts t form.mid form.end)) v r v
    → RowOf ts t (redex form vs None) outer (state_of v c before) r (state_of v c before)
unfolding form_of
choose-row ts t form vs outer v c before r h g =
    task-row ts t form vs None ops.Choose forms.Choose outer v v c c before r h refl refl
    (g (redex form vs None) (state_of v c before))

pub both-row : (ts : List (List ℕ)) (t : NodeTable) (form : Redex) (vs : List Value) (outer : Addr) (v : World)
    (c : Context) (before : List (List ℕ)) (r : Reduced)
    → form.op ≡ ops.Both →
    RepliesOver ts t (both_row v (only vs) (trees ts t form.mid form.end)) v r v
    → RowOf ts t (redex form vs None) outer (state_of v c before) r (state_of v c before)
unfolding form_of
both-row ts t form vs outer v c before r h g =
    task-row ts t form vs None ops.Both forms.Both outer v v c c before r h refl refl
    (g (redex form vs None) (state_of v c before))

pub either-row : (ts : List (List ℕ)) (t : NodeTable) (form : Redex) (vs : List Value) (outer : Addr) (v : World)
    (c : Context) (before : List (List ℕ)) (r : Reduced)
    → form.op ≡ ops.Either →
    RepliesOver ts t (either_row v (only vs) (trees ts t form.mid form.end)) v r v
    → RowOf ts t (redex form vs None) outer (state_of v c before) r (state_of v c before)
unfolding form_of
either-row ts t form vs outer v c before r h g =
    task-row ts t form vs None ops.Either forms.Either outer v v c c before r h refl refl
    (g (redex form vs None) (state_of v c before))

-- ---- loops

pub testing-row : (ts : List (List ℕ)) (t : NodeTable) (form : Redex) (vs : List Value) (outer : Addr) (v : World)
    (c : Context) (before : List (List ℕ)) (r : Reduced)
    → form.op ≡ ops.LoopTesting →
    ((u : NodeTable) (e : Wide) → DoesIn ts u e (loop_row v stages.Testing (own_scope e) vs (later_of ts u e)) v r v)
    → RowOf ts t (redex form vs None) outer (state_of v c before) r (state_of v c before)
testing-row ts t form vs outer v c before r h g =
    scope-row ts t form vs None ops.LoopTesting (forms.Loop stages.Testing (turn_scope form.info form.inner))
    outer v v c c before r h refl (g t (redex form vs None) (state_of v c before))

pub first-row : (ts : List (List ℕ)) (t : NodeTable) (form : Redex) (vs : List Value) (outer : Addr) (v w : World)
    (c : Context) (before : List (List ℕ)) (r : Reduced)
    → form.op ≡ ops.LoopFirst →
    ((u : NodeTable) (e : Wide) (us : List Value)
    → DoesIn ts u e (loop_row v stages.First (turn_scope form.info form.inner) us (later_of ts u e)) v r w)
    → RowOf ts t (redex form vs None) outer (state_of v c before) r (state_of w c before)
first-row ts t form vs outer v w c before r h g =
    scope-row ts t form vs None ops.LoopFirst (forms.Loop stages.First (turn_scope form.info form.inner))
    outer v w c c before r h refl (g t (redex form vs None) vs (state_of v c before))

pub body-row : (ts : List (List ℕ)) (t : NodeTable) (form : Redex) (vs : List Value) (outer : Addr) (v w : World)
    (c : Context) (before : List (List ℕ)) (r : Reduced)
    → form.op ≡ ops.LoopBody →
    ((u : NodeTable) (e : Wide) (us : List Value)
    → DoesIn ts u e (loop_row v stages.Body (turn_scope form.info form.inner) us (later_of ts u e)) v r w)
    → RowOf ts t (redex form vs None) outer (state_of v c before) r (state_of w c before)
body-row ts t form vs outer v w c before r h g =
    scope-row ts t form vs None ops.LoopBody (forms.Loop stages.Body (turn_scope form.info form.inner))
    outer v w c c before r h refl (g t (redex form vs None) vs (state_of v c before))

pub doing-row : (ts : List (List ℕ)) (t : NodeTable) (form : Redex) (vs : List Value) (outer : Addr) (v : World)
    (c : Context) (before : List (List ℕ))
    → form.op ≡ ops.LoopDoing →
    RowOf ts t (redex form vs None) outer (state_of v c before) (reduced.Gives values.Undefined) (state_of v c before)
doing-row ts t form vs outer v c before h =
    scope-row ts t form vs None ops.LoopDoing (forms.Loop stages.Doing (turn_scope form.info form.inner))
    outer v v c c before (reduced.Gives values.Undefined) h refl
    (give-does ts t (redex form vs None) values.Undefined (state_of v c before))

pub updating-row : (ts : List (List ℕ)) (t : NodeTable) (form : Redex) (vs : List Value) (outer : Addr) (v : World)
    (c : Context) (before : List (List ℕ))
    → form.op ≡ ops.LoopUpdating →
    RowOf ts t (redex form vs None) outer (state_of v c before) (reduced.Gives values.Undefined) (state_of v c before)
updating-row ts t form vs outer v c before h =
    scope-row ts t form vs None ops.LoopUpdating (forms.Loop stages.Updating (turn_scope form.info form.inner))
    outer v v c c before (reduced.Gives values.Undefined) h refl
    (give-does ts t (redex form vs None) values.Undefined (state_of v c before))

pub for-row : (ts : List (List ℕ)) (t : NodeTable) (form : Redex) (vs : List Value) (outer : Addr) (v w : World)
    (c d : Context) (before : List (List ℕ)) (r : Reduced) (o : _)
    → form.op ≡ ops.EnterFor
    → slice_get t.fors.items form.info ≡ o →
    OfEntry o r
    (λ x. (u : NodeTable) (e : Wide)
    → DoesWith ts u e (enter_for_row form.inner x.node x.constant (bindings ts x.names) (later_of ts u e))
    v c r w d)
    → RowOf ts t (redex form vs None) outer (state_of v c before) r (state_of w d before)
unfolding form_of
for-row ts t form vs outer v w c d before r None h i g =
    memory-row ts t (redex form vs None) outer (state_of v c before) (state_of w d before) r g
for-row ts t form vs outer v w c d before r (Some x) h i g =
    task-row ts t form vs None ops.EnterFor (forms.EnterFor x.node x.constant (bindings ts x.names))
    outer v w c d before r h (ap (for_form ts) i) refl (g t (redex form vs None) before)

pub for-of-row : (ts : List (List ℕ)) (t : NodeTable) (form : Redex) (vs : List Value) (outer : Addr) (v w : World)
    (c d : Context) (before : List (List ℕ)) (r : Reduced) (o : _)
    → form.op ≡ ops.EnterForOf
    → slice_get t.for_ofs.items form.info ≡ o →
    OfEntry o r
    (λ x. (us : List Value)
    → DoesWith ts t (redex form us None)
    (enter_for_of_row form.inner x.node (binding_at ts x.slot) (trees ts t form.mid form.end)) v c r w d)
    → RowOf ts t (redex form vs None) outer (state_of v c before) r (state_of w d before)
unfolding form_of
for-of-row ts t form vs outer v w c d before r None h i g =
    memory-row ts t (redex form vs None) outer (state_of v c before) (state_of w d before) r g
for-of-row ts t form vs outer v w c d before r (Some x) h i g =
    task-row ts t form vs None ops.EnterForOf (forms.EnterForOf x.node (binding_at ts x.slot)) outer v w c d before r h
    (ap (for_of_form ts) i) refl (g vs before)

pub list-row : (ts : List (List ℕ)) (t : NodeTable) (form : Redex) (vs : List Value) (outer : Addr) (v w : World)
    (c : Context) (before : List (List ℕ)) (r : Reduced) (o : _)
    → form.op ≡ ops.ListOf
    → slice_get t.for_ofs.items form.info ≡ o →
    OfEntry o r
    (λ x. (e : Wide)
    → e.info ≡ form.info
    → DoesIn ts t e (list_row v (binding_at ts x.slot) (only vs) (later_of ts t e)) v r w)
    → RowOf ts t (redex form vs None) outer (state_of v c before) r (state_of w c before)
unfolding form_of
list-row ts t form vs outer v w c before r None h i g =
    memory-row ts t (redex form vs None) outer (state_of v c before) (state_of w c before) r g
list-row ts t form vs outer v w c before r (Some x) h i g =
    task-row ts t form vs None ops.ListOf (forms.ListOf (binding_at ts x.slot)) outer v w c c before r h
    (ap (list_form ts) i) refl (g (redex form vs None) refl (state_of v c before))

pub turn-row : (ts : List (List ℕ)) (t : NodeTable) (form : Redex) (vs : List Value) (list : Value) (index : ℕ)
    (outer : Addr) (v w : World) (c : Context) (before : List (List ℕ)) (r : Reduced) (o : _)
    → form.op ≡ ops.TurnOf
    → slice_get t.for_ofs.items form.info ≡ o →
    OfEntry o r
    (λ x. (us : List Value)
    → IsTurn ts t (redex form us (Some (extras.Turn list index))) (binding_at ts x.slot) v r w)
    → RowOf ts t (redex form vs (Some (extras.Turn list index))) outer (state_of v c before) r (state_of w c before)
turn-row ts t form vs list index outer v w c before r None h i g =
    memory-row ts t (redex form vs (Some (extras.Turn list index))) outer (state_of v c before) (state_of w c before)
    r g
turn-row ts t form vs list index outer v w c before r (Some x) h i g =
    task-row ts t form vs (Some (extras.Turn list index)) ops.TurnOf (forms.TurnOf (binding_at ts x.slot) index)
    outer v w c c before r h (ap (λ y. turn_form ts y index) i) refl (g vs (state_of v c before))

-- ---- literals and functions

pub array-row : (ts : List (List ℕ)) (t : NodeTable) (form : Redex) (vs : List Value) (outer : Addr) (v w : World)
    (c : Context) (before : List (List ℕ)) (r : Reduced)
    → form.op ≡ ops.Array →
    Replies ts (make (cells.Array vs) (λ a. give (values.Object a))) v r w
    → RowOf ts t (redex form vs None) outer (state_of v c before) r (state_of w c before)
unfolding form_of
array-row ts t form vs outer v w c before r h g =
    task-row ts t form vs None ops.Array forms.Array outer v w c c before r h refl refl
    (g t (redex form vs None) (state_of v c before))

pub function-row : (ts : List (List ℕ)) (t : NodeTable) (form : Redex) (vs : List Value) (outer : Addr) (v w : World)
    (c : Context) (before : List (List ℕ)) (r : Reduced) (o : _)
    → form.op ≡ ops.Function
    → slice_get t.functions.items form.info ≡ o →
    OfEntry o r (λ x. RepliesWith ts (function_row (state_of v c []) form.inner (function_of ts x)) v c r w c)
    → RowOf ts t (redex form vs None) outer (state_of v c before) r (state_of w c before)
unfolding form_of
function-row ts t form vs outer v w c before r None h i g =
    memory-row ts t (redex form vs None) outer (state_of v c before) (state_of w c before) r g
function-row ts t form vs outer v w c before r (Some x) h i g =
    task-row ts t form vs None ops.Function (forms.Function (function_of ts x)) outer v w c c before r h
    (ap (function_form ts) i) refl (g t (redex form vs None) before)

pub object-row : (ts : List (List ℕ)) (t : NodeTable) (form : Redex) (vs : List Value) (outer : Addr) (v w : World)
    (c : Context) (before : List (List ℕ)) (r : Reduced) (o : _)
    → form.op ≡ ops.Object
    → members_at t form.info ≡ o →
    OfEntry o r
    (λ ms. (e : Wide)
    → IsLiteralOf ts t e (members_of ts ms) vs (trees ts t form.mid form.end)
    → DoesIn ts t e (object_row v form.inner (members_of ts ms) vs (trees ts t form.mid form.end)) v r w)
    →
    RowOf ts t (redex form vs None) outer (state_of v c before) r (state_of w c before)
unfolding form_of
object-row ts t form vs outer v w c before r None h i g =
    memory-row ts t (redex form vs None) outer (state_of v c before) (state_of w c before) r g
object-row ts t form vs outer v w c before r (Some ms) h i g =
    task-row ts t form vs None ops.Object (forms.Object (members_of ts ms)) outer v w c c before r h
    (ap (object_form ts) i) refl
    (g (redex form vs None)
    (record {
      form = form-by ts t (redex form vs None) ops.Object h
          ∙ ap (object_form ts) i;
      values = refl;
      kept = refl;
    })
    (state_of v c before))

pub rest-row : (ts : List (List ℕ)) (t : NodeTable) (form : Redex) (vs : List Value) (from : ℕ) (outer : Addr)
    (v w : World) (c : Context) (before : List (List ℕ)) (r : Reduced) (o : _)
    → form.op ≡ ops.ObjectRest
    → members_at t form.info ≡ o →
    OfEntry o r
    (λ ms. (e : Wide)
    → IsLiteralOf ts t e (members_of ts ms) vs (trees ts t from form.end)
    → DoesIn ts t e (object_row v form.inner (members_of ts ms) vs (trees ts t from form.end)) v r w)
    →
    RowOf ts t (redex form vs (Some (extras.Rest from))) outer (state_of v c before) r (state_of w c before)
rest-row ts t form vs from outer v w c before r None h i g =
    memory-row ts t (redex form vs (Some (extras.Rest from))) outer (state_of v c before) (state_of w c before) r g
rest-row ts t form vs from outer v w c before r (Some ms) h i g =
    let e : Wide = redex form vs (Some (extras.Rest from)) in
    task-row ts t form vs (Some (extras.Rest from)) ops.ObjectRest (forms.Object (members_of ts ms))
    outer v w c c before r h (ap (object_form ts) i) refl
    (g e (record { form = form-by ts t e ops.ObjectRest h ∙ ap (object_form ts) i; values = refl; kept = refl })
    (state_of v c before))

-- ---- catches

catch-by : (ts : List (List ℕ)) (t : NodeTable) (form : Redex) (vs : List Value) (name : Option (List ℕ)) (outer : Addr)
    (thrown : Value) (place : SourceMark) (v w : World) (c : Context) (before : List (List ℕ)) (r : Reduced)
    → task_form ts t (redex form vs None) ≡ forms.Catching name →
    RepliesOver ts t (catch_row form.inner name thrown (trees ts t form.mid form.end)) v r w
    → CatchOf ts t (redex form vs None) outer thrown place (state_of v c before) r (state_of w c before)
catch-by ts t form vs name outer thrown place v w c before r h g = λ k.
    let e : Wide = redex form vs None in
    let o : form.inner ≡ outer = sym k ∙ ap (λ x. scope_in x outer) h in
    let P : Addr
    → Type 0 = λ a. Does ts t e (catch_row a name thrown (trees ts t form.mid form.end)) (state_of v c before) r
    (state_of w c before) in
    let Q : Form
    → Type 0 = λ x. Does ts t e (taken outer x (throws thrown place) (trees ts t form.mid form.end))
    (state_of v c before) r (state_of w c before) in
    subst Q (sym h) (subst P o (g e (state_of v c before)))

pub nameless-catch : (ts : List (List ℕ)) (t : NodeTable) (form : Redex) (vs : List Value) (outer : Addr)
    (thrown : Value) (place : SourceMark) (v : World) (c : Context) (before : List (List ℕ)) (r : Reduced)
    → form.op ≡ ops.Catching →
    ((u : Value) → RepliesInside t (λ us. catch_row form.inner None u (trees us t form.mid form.end)) r)
    → CatchOf ts t (redex form vs None) outer thrown place (state_of v c before) r (state_of v c before)
unfolding form_of
nameless-catch ts t form vs outer thrown place v c before r h g =
    catch-by ts t form vs None outer thrown place v v c before r (form-by ts t (redex form vs None) ops.Catching h)
    (λ e s. g thrown ts e (with_world s v))

pub named-catch : (ts : List (List ℕ)) (t : NodeTable) (form : Redex) (vs : List Value) (outer : Addr) (thrown : Value)
    (place : SourceMark) (v w : World) (c : Context) (before : List (List ℕ)) (r : Reduced)
    → form.op ≡ ops.CatchingName →
    RepliesOver ts t (catch_row form.inner (Some (name_of ts form.info)) thrown (trees ts t form.mid form.end)) v r w
    → CatchOf ts t (redex form vs None) outer thrown place (state_of v c before) r (state_of w c before)
unfolding form_of
named-catch ts t form vs outer thrown place v w c before r h g =
    catch-by ts t form vs (Some (name_of ts form.info)) outer thrown place v w c before r
    (form-by ts t (redex form vs None) ops.CatchingName h) g
