-- What a node does stands for its form, however names and table go on.
use Rattle.std.proofs.Common.{◌≡◌, ℕ, Bool, true, false, List, [], ◌∷◌, length, map, Option, None, Some, refl, sym, ap, ◌∙◌, subst, zero, suc}
use Rattle.std.specs.Prelude.{slice_get}
use Rattle.std.specs.Global.{Vec}
use Rattle.std.specs.Prelude.{IfOk, Result, Ok, Err}
use Rattle.std.specs.declared.alloc.AllocError.{AllocError}
use Rattle.js_machine_compiler.specs.declared.nodes.Instruction.{Instruction}
use Rattle.js_heap.specs.declared.cell.Binding.{Binding}
use Rattle.js_semantics.specs.declared.form.Form.{Form}
use Rattle.js_semantics.specs.declared.form.Form.TheVariants as forms
use Rattle.js_semantics.specs.declared.form.FunctionForm.{FunctionForm}
use Rattle.js_heap.specs.declared.value.Addr.{Addr}
use Rattle.js_semantics.specs.declared.form.Stage.{Stage}
use Rattle.js_semantics.specs.declared.form.Stage.TheVariants as stages
use Rattle.js_tree_operators.specs.declared.operator.BinaryOperator.{BinaryOperator}
use Rattle.js_tree_operators.specs.declared.operator.UpdateOperator.{UpdateOperator}
use Rattle.js_semantics.specs.declared.form.Mark.{Mark}
use Rattle.js_semantics.specs.declared.form.Reference.{Reference}
use Rattle.js_semantics.specs.declared.form.Member.{Member}
use Rattle.js_semantics.specs.declared.form.Reference.TheVariants as references
use Rattle.js_heap_memory.specs.Names.{name_of}
use Rattle.js_heap_memory.specs.declared.stored.Slot.{Slot}
use Rattle.js_machine_nodes.specs.declared.op.Op.{Op}
use Rattle.js_machine_nodes.specs.declared.op.Op.TheVariants as ops
use Rattle.js_machine_nodes.specs.declared.node.ScriptEntry.{ScriptEntry}
use Rattle.js_machine_nodes.specs.declared.node.ForEntry.{ForEntry}
use Rattle.js_machine_nodes.specs.declared.node.ForOfEntry.{ForOfEntry}
use Rattle.js_machine_nodes.specs.declared.node.CallEntry.{CallEntry}
use Rattle.js_machine_nodes.specs.declared.node.MemberEntry.{MemberEntry}
use Rattle.js_machine_nodes.specs.declared.node.FunctionEntry.{FunctionEntry}
use Rattle.js_machine_nodes.specs.declared.table.NodeTable.{NodeTable}
use Rattle.js_machine_nodes.specs.Ops.{is_literal, is_task_only, is_loop}
use Rattle.js_machine_nodes.specs.Forms.{script_form, for_form, for_of_form, block_form, function_form, method_form, object_form, call_form, name_call_form, member_call_form, index_call_form, form_of}
use Rattle.js_machine_compiler.specs.Grown.{Known, IsBinding, AreBindings, AreMembers, IsFunction, IsEntryAt, IsPlacedAt, HasForm, Enters}
use Rattle.js_machine_compiler.specs.Operations.{is_bare, bare_form, is_placed, placed_form, is_named, named_form, loop_entry, alone_entry}
use Rattle.js_machine_compiler.proofs.NeedsNames.{needs_names}
use Rattle.js_machine_compiler.proofs.GrownLemmas.{begins_at}

-- ---- without an entry

always_bare : (op : Op) → is_bare op ≡ true → (us : List (List ℕ)) (u : NodeTable) → form_of us u op 0 ≡ bare_form op
unfolding form_of
always_bare ops.Scripts b us u = refl
always_bare ops.Sequence b us u = refl
always_bare ops.Choose b us u = refl
always_bare ops.Both b us u = refl
always_bare ops.Either b us u = refl
always_bare ops.LoopFirst b us u = refl
always_bare ops.LoopDoing b us u = refl
always_bare ops.LoopTesting b us u = refl
always_bare ops.LoopBody b us u = refl
always_bare ops.LoopUpdating b us u = refl
always_bare ops.Break b us u = refl
always_bare ops.Continue b us u = refl
always_bare ops.Return b us u = refl
always_bare ops.Catching b us u = refl
always_bare ops.Finishing b us u = refl
always_bare ops.This b us u = refl
always_bare ops.ReadIndex b us u = refl
always_bare (ops.Unary o) b us u = refl
always_bare (ops.Binary o) b us u = refl
always_bare ops.Comma b us u = refl
always_bare ops.Array b us u = refl
always_bare ops.AssignIndex b us u = refl
always_bare (ops.CompoundIndex o) b us u = refl
always_bare (ops.UpdateIndex k) b us u = refl
always_bare ops.DeleteIndex b us u = refl
always_bare _ b us u = absurd cc

-- an operation of a kind is in the table of nodes

bare_is_task_only : (op : Op) → is_bare op ≡ true → is_task_only op ≡ false
bare_is_task_only ops.Scripts b = refl
bare_is_task_only ops.Sequence b = refl
bare_is_task_only ops.Choose b = refl
bare_is_task_only ops.Both b = refl
bare_is_task_only ops.Either b = refl
bare_is_task_only ops.LoopFirst b = refl
bare_is_task_only ops.LoopDoing b = refl
bare_is_task_only ops.LoopTesting b = refl
bare_is_task_only ops.LoopBody b = refl
bare_is_task_only ops.LoopUpdating b = refl
bare_is_task_only ops.Break b = refl
bare_is_task_only ops.Continue b = refl
bare_is_task_only ops.Return b = refl
bare_is_task_only ops.Catching b = refl
bare_is_task_only ops.Finishing b = refl
bare_is_task_only ops.This b = refl
bare_is_task_only ops.ReadIndex b = refl
bare_is_task_only (ops.Unary o) b = refl
bare_is_task_only (ops.Binary o) b = refl
bare_is_task_only ops.Comma b = refl
bare_is_task_only ops.Array b = refl
bare_is_task_only ops.AssignIndex b = refl
bare_is_task_only (ops.CompoundIndex o) b = refl
bare_is_task_only (ops.UpdateIndex k) b = refl
bare_is_task_only ops.DeleteIndex b = refl
bare_is_task_only _ b = absurd cc

bare_is_literal : (op : Op) → is_bare op ≡ true → is_literal op ≡ false
bare_is_literal ops.Scripts b = refl
bare_is_literal ops.Sequence b = refl
bare_is_literal ops.Choose b = refl
bare_is_literal ops.Both b = refl
bare_is_literal ops.Either b = refl
bare_is_literal ops.LoopFirst b = refl
bare_is_literal ops.LoopDoing b = refl
bare_is_literal ops.LoopTesting b = refl
bare_is_literal ops.LoopBody b = refl
bare_is_literal ops.LoopUpdating b = refl
bare_is_literal ops.Break b = refl
bare_is_literal ops.Continue b = refl
bare_is_literal ops.Return b = refl
bare_is_literal ops.Catching b = refl
bare_is_literal ops.Finishing b = refl
bare_is_literal ops.This b = refl
bare_is_literal ops.ReadIndex b = refl
bare_is_literal (ops.Unary o) b = refl
bare_is_literal (ops.Binary o) b = refl
bare_is_literal ops.Comma b = refl
bare_is_literal ops.Array b = refl
bare_is_literal ops.AssignIndex b = refl
bare_is_literal (ops.CompoundIndex o) b = refl
bare_is_literal (ops.UpdateIndex k) b = refl
bare_is_literal ops.DeleteIndex b = refl
bare_is_literal _ b = absurd cc

placed_is_task_only : (op : Op) → is_placed op ≡ true → is_task_only op ≡ false
placed_is_task_only ops.Enter b = refl
placed_is_task_only ops.EnterDebugger b = refl
placed_is_task_only ops.Throw b = refl
placed_is_task_only _ b = absurd cc

placed_is_literal : (op : Op) → is_placed op ≡ true → is_literal op ≡ false
placed_is_literal ops.Enter b = refl
placed_is_literal ops.EnterDebugger b = refl
placed_is_literal ops.Throw b = refl
placed_is_literal _ b = absurd cc

named_is_task_only : (op : Op) → is_named op ≡ true → is_task_only op ≡ false
named_is_task_only ops.Initialize b = refl
named_is_task_only ops.CatchingName b = refl
named_is_task_only ops.ReadName b = refl
named_is_task_only ops.ReadMember b = refl
named_is_task_only ops.TypeofName b = refl
named_is_task_only ops.AssignName b = refl
named_is_task_only ops.AssignMember b = refl
named_is_task_only (ops.CompoundName o) b = refl
named_is_task_only (ops.CompoundMember o) b = refl
named_is_task_only (ops.UpdateName k) b = refl
named_is_task_only (ops.UpdateMember k) b = refl
named_is_task_only ops.DeleteName b = refl
named_is_task_only ops.DeleteMember b = refl
named_is_task_only _ b = absurd cc

named_is_literal : (op : Op) → is_named op ≡ true → is_literal op ≡ false
named_is_literal ops.Initialize b = refl
named_is_literal ops.CatchingName b = refl
named_is_literal ops.ReadName b = refl
named_is_literal ops.ReadMember b = refl
named_is_literal ops.TypeofName b = refl
named_is_literal ops.AssignName b = refl
named_is_literal ops.AssignMember b = refl
named_is_literal (ops.CompoundName o) b = refl
named_is_literal (ops.CompoundMember o) b = refl
named_is_literal (ops.UpdateName k) b = refl
named_is_literal (ops.UpdateMember k) b = refl
named_is_literal ops.DeleteName b = refl
named_is_literal ops.DeleteMember b = refl
named_is_literal _ b = absurd cc

placed_turns : (op : Op) (n : ℕ) → is_placed op ≡ true → is_loop op ≡ true → n ≡ 0
placed_turns ops.Enter n b l = absurd cc
placed_turns ops.EnterDebugger n b l = absurd cc
placed_turns ops.Throw n b l = absurd cc
placed_turns _ n b l = absurd cc

named_turns : (op : Op) (n : ℕ) → is_named op ≡ true → is_loop op ≡ true → n ≡ 0
named_turns ops.Initialize n b l = absurd cc
named_turns ops.CatchingName n b l = absurd cc
named_turns ops.ReadName n b l = absurd cc
named_turns ops.ReadMember n b l = absurd cc
named_turns ops.TypeofName n b l = absurd cc
named_turns ops.AssignName n b l = absurd cc
named_turns ops.AssignMember n b l = absurd cc
named_turns (ops.CompoundName o) n b l = absurd cc
named_turns (ops.CompoundMember o) n b l = absurd cc
named_turns (ops.UpdateName k) n b l = absurd cc
named_turns (ops.UpdateMember k) n b l = absurd cc
named_turns ops.DeleteName n b l = absurd cc
named_turns ops.DeleteMember n b l = absurd cc
named_turns _ n b l = absurd cc

bare_place : (op : Op) (t : NodeTable) (i n : ℕ) → is_bare op ≡ true → IsPlacedAt t op i n
bare_place ops.Function t i n b = absurd cc
bare_place ops.Method t i n b = absurd cc
bare_place _ t i n b = tt

placed_place : (op : Op) (t : NodeTable) (i n : ℕ) → is_placed op ≡ true → IsPlacedAt t op i n
placed_place ops.Function t i n b = absurd cc
placed_place ops.Method t i n b = absurd cc
placed_place _ t i n b = tt

named_place : (op : Op) (t : NodeTable) (i n : ℕ) → is_named op ≡ true → IsPlacedAt t op i n
named_place ops.Function t i n b = absurd cc
named_place ops.Method t i n b = absurd cc
named_place _ t i n b = tt

always_placed : (op : Op) (n : ℕ)
    → is_placed op ≡ true
    → (us : List (List ℕ)) (u : NodeTable)
    → form_of us u op n ≡ placed_form op n
unfolding form_of
always_placed ops.Enter n b us u = refl
always_placed ops.EnterDebugger n b us u = refl
always_placed ops.Throw n b us u = refl
always_placed _ n b us u = absurd cc

always_named : (op : Op) (n : ℕ) (name : List ℕ)
    → is_named op ≡ true
    → (us : List (List ℕ)) (u : NodeTable)
    → name_of us n ≡ name
    → form_of us u op n ≡ named_form op name
unfolding form_of
always_named ops.Initialize n name b us u e = ap (λ s. named_form ops.Initialize s) e
always_named ops.CatchingName n name b us u e = ap (λ s. named_form ops.CatchingName s) e
always_named ops.ReadName n name b us u e = ap (λ s. named_form ops.ReadName s) e
always_named ops.ReadMember n name b us u e = ap (λ s. named_form ops.ReadMember s) e
always_named ops.TypeofName n name b us u e = ap (λ s. named_form ops.TypeofName s) e
always_named ops.AssignName n name b us u e = ap (λ s. named_form ops.AssignName s) e
always_named ops.AssignMember n name b us u e = ap (λ s. named_form ops.AssignMember s) e
always_named (ops.CompoundName o) n name b us u e = ap (λ s. named_form (ops.CompoundName o) s) e
always_named (ops.CompoundMember o) n name b us u e = ap (λ s. named_form (ops.CompoundMember o) s) e
always_named (ops.UpdateName k) n name b us u e = ap (λ s. named_form (ops.UpdateName k) s) e
always_named (ops.UpdateMember k) n name b us u e = ap (λ s. named_form (ops.UpdateMember k) s) e
always_named ops.DeleteName n name b us u e = ap (λ s. named_form ops.DeleteName s) e
always_named ops.DeleteMember n name b us u e = ap (λ s. named_form ops.DeleteMember s) e
always_named _ n name b us u e = absurd cc

pub has_bare : (ts : List (List ℕ)) (t : NodeTable) (op : Op) → is_bare op ≡ true → HasForm ts t op 0 (bare_form op)
has_bare ts t op b =
    record {
      is = λ us u g e. always_bare op b us u;
      source = bare_is_task_only op b;
      inner = bare_is_literal op b;
      turns = λ l. refl;
      place = bare_place op t 0
          (length t.nodes.items) b;
    }

pub has_placed : (ts : List (List ℕ)) (t : NodeTable) (op : Op) (n : ℕ)
    → is_placed op ≡ true
    → HasForm ts t op n (placed_form op n)
has_placed ts t op n b =
    record {
      is = λ us u g e. always_placed op n b us u;
      source = placed_is_task_only op b;
      inner = placed_is_literal op b;
      turns = λ l. placed_turns op n b l;
      place = placed_place op t n
          (length t.nodes.items) b;
    }

pub has_named : (ts : List (List ℕ)) (t : NodeTable) (op : Op) (n : ℕ) (name : List ℕ)
    → is_named op ≡ true
    → Known ts n name
    → HasForm ts t op n (named_form op name)
has_named ts t op n name b k =
    record {
      is = λ us u g e. always_named op n name b us u
          (k us g);
      source = named_is_task_only op b;
      inner = named_is_literal op b;
      turns = λ l. named_turns op n b l;
      place = named_place op t n
          (length t.nodes.items) b;
    }

-- ---- with an entry

pub script_known : (ts : List (List ℕ)) (t : NodeTable) (n : ℕ) (e : ScriptEntry) (bs : List Binding)
    → slice_get t.scripts.items n ≡ Some e
    → AreBindings ts e.names bs
    → HasForm ts t ops.Script n (forms.Script e.number bs)
unfolding form_of
script_known ts t n e bs h k =
    record {
      is = λ us u g w. ap (script_form us) (begins_at t.scripts.items u.scripts.items n e w.scripts h)
          ∙ ap (forms.Script e.number) (k us g);
      source = refl;
      inner = refl;
      turns = λ l. absurd cc;
      place = tt;
    }

pub for_known : (ts : List (List ℕ)) (t : NodeTable) (n : ℕ) (e : ForEntry) (bs : List Binding)
    → slice_get t.fors.items n ≡ Some e
    → AreBindings ts e.names bs
    → HasForm ts t ops.EnterFor n (forms.EnterFor e.node e.constant bs)
unfolding form_of
for_known ts t n e bs h k =
    record {
      is = λ us u g w. ap (for_form us) (begins_at t.fors.items u.fors.items n e w.fors h)
          ∙ ap (forms.EnterFor e.node e.constant)
          (k us g);
      source = refl;
      inner = refl;
      turns = λ l. absurd cc;
      place = tt;
    }

pub for_of_known : (ts : List (List ℕ)) (t : NodeTable) (n : ℕ) (e : ForOfEntry) (b : Binding)
    → slice_get t.for_ofs.items n ≡ Some e
    → IsBinding ts e.slot b
    → HasForm ts t ops.EnterForOf n (forms.EnterForOf e.node b)
unfolding form_of
for_of_known ts t n e b h k =
    record {
      is = λ us u g w. ap (for_of_form us) (begins_at t.for_ofs.items u.for_ofs.items n e w.for_ofs h)
          ∙ ap (forms.EnterForOf e.node) (k us g);
      source = refl;
      inner = refl;
      turns = λ l. absurd cc;
      place = tt;
    }

pub block_known : (ts : List (List ℕ)) (t : NodeTable) (n : ℕ) (ss : List Slot) (bs : List Binding)
    → slice_get t.blocks.items n ≡ Some ss
    → AreBindings ts ss bs
    → HasForm ts t ops.Block n (forms.Block bs)
unfolding form_of
block_known ts t n ss bs h k =
    record {
      is = λ us u g w. ap (block_form us) (begins_at t.blocks.items u.blocks.items n ss w.blocks h)
          ∙ ap forms.Block (k us g);
      source = refl;
      inner = refl;
      turns = λ l. absurd cc;
      place = tt;
    }

pub function_known : (ts : List (List ℕ)) (t : NodeTable) (n : ℕ) (e : FunctionEntry) (f : FunctionForm)
    → slice_get t.functions.items n ≡ Some e
    → IsFunction ts e f
    → e.at ≡ length t.nodes.items
    → HasForm ts t ops.Function n (forms.Function f)
unfolding form_of
function_known ts t n e f h k a =
    record {
      is = λ us u g w. ap (function_form us) (begins_at t.functions.items u.functions.items n e w.functions h)
          ∙ ap forms.Function (k us g);
      source = refl;
      inner = refl;
      turns = λ l. absurd cc;
      place = subst
          (IsEntryAt (length t.nodes.items)) (sym h) a;
    }

pub method_known : (ts : List (List ℕ)) (t : NodeTable) (n : ℕ) (e : FunctionEntry) (f : FunctionForm)
    → slice_get t.functions.items n ≡ Some e
    → IsFunction ts e f
    → e.at ≡ length t.nodes.items
    → HasForm ts t ops.Method n (forms.Method f)
unfolding form_of
method_known ts t n e f h k a =
    record {
      is = λ us u g w. ap (method_form us) (begins_at t.functions.items u.functions.items n e w.functions h)
          ∙ ap forms.Method (k us g);
      source = refl;
      inner = refl;
      turns = λ l. absurd cc;
      place = subst
          (IsEntryAt (length t.nodes.items)) (sym h) a;
    }

get_map : {X Y : Type 0} (f : X → Y) (xs : List X) (i : ℕ) (x : X)
    → slice_get xs i ≡ Some x
    → slice_get (map f xs) i ≡ Some (f x)
get_map f [] i x e = absurd cc
get_map f (y ∷ xs) zero x e = let h : y ≡ x = cc in ap (λ z. Some (f z)) h
get_map f (y ∷ xs) (suc i) x e = get_map f xs i x e

pub object_known : (ts : List (List ℕ)) (t : NodeTable) (n : ℕ) (es : Vec MemberEntry) (ms : List Member)
    → slice_get t.objects.items n ≡ Some es
    → AreMembers ts es.items ms
    → HasForm ts t ops.Object n (forms.Object ms)
unfolding form_of
object_known ts t n es ms h k =
    record {
      is = λ us u g w. ap (object_form us)
          (get_map (λ (v : Vec MemberEntry). v.items) u.objects.items n es
          (begins_at t.objects.items u.objects.items n es w.objects h))
          ∙ ap forms.Object (k us g);
      source = refl;
      inner = refl;
      turns = λ l. absurd cc;
      place = tt;
    }

pub call_known : (ts : List (List ℕ)) (t : NodeTable) (n : ℕ) (e : CallEntry)
    → slice_get t.calls.items n ≡ Some e
    → HasForm ts t ops.Call n (forms.Call e.place e.statement)
unfolding form_of
call_known ts t n e h =
    record {
      is = λ us u g w. ap call_form
          (begins_at t.calls.items u.calls.items n e w.calls h);
      source = refl;
      inner = refl;
      turns = λ l. absurd cc;
      place = tt;
    }

pub name_call_known : (ts : List (List ℕ)) (t : NodeTable) (n : ℕ) (e : CallEntry) (name : List ℕ)
    → slice_get t.calls.items n ≡ Some e
    → Known ts e.name.number name
    → HasForm ts t ops.CallOfName n (forms.CallOf (references.Name name) e.place e.statement)
unfolding form_of
name_call_known ts t n e name h k =
    record {
      is = λ us u g w. ap (name_call_form us) (begins_at t.calls.items u.calls.items n e w.calls h)
          ∙ ap (λ s. forms.CallOf (references.Name s) e.place e.statement)
          (k us g);
      source = refl;
      inner = refl;
      turns = λ l. absurd cc;
      place = tt;
    }

pub member_call_known : (ts : List (List ℕ)) (t : NodeTable) (n : ℕ) (e : CallEntry) (name : List ℕ)
    → slice_get t.calls.items n ≡ Some e
    → Known ts e.name.number name
    → HasForm ts t ops.CallOfMember n (forms.CallOf (references.Member name) e.place e.statement)
unfolding form_of
member_call_known ts t n e name h k =
    record {
      is = λ us u g w. ap (member_call_form us) (begins_at t.calls.items u.calls.items n e w.calls h)
          ∙ ap (λ s. forms.CallOf (references.Member s) e.place e.statement)
          (k us g);
      source = refl;
      inner = refl;
      turns = λ l. absurd cc;
      place = tt;
    }

pub index_call_known : (ts : List (List ℕ)) (t : NodeTable) (n : ℕ) (e : CallEntry)
    → slice_get t.calls.items n ≡ Some e
    → HasForm ts t ops.CallOfIndex n (forms.CallOf references.Index e.place e.statement)
unfolding form_of
index_call_known ts t n e h =
    record {
      is = λ us u g w. ap index_call_form
          (begins_at t.calls.items u.calls.items n e w.calls h);
      source = refl;
      inner = refl;
      turns = λ l. absurd cc;
      place = tt;
    }

-- ---- equal forms

pub same_form : (ts : List (List ℕ)) (r : Result Instruction AllocError) (f g : Form)
    → g ≡ f
    → IfOk r (λ e. (t : NodeTable) → HasForm ts t e.op e.info f)
    → IfOk r (λ e. (t : NodeTable) → HasForm ts t e.op e.info g)
same_form ts (Ok e) f g h k = subst (λ (x : Form). (t : NodeTable) → HasForm ts t e.op e.info x) (sym h) k
same_form ts (Err e) f g h k = tt

pub same_entry : (ts : List (List ℕ)) (t : NodeTable) (op : Op) (info : ℕ) (f g : Form)
    → g ≡ f
    → HasForm ts t op info f
    → HasForm ts t op info g
same_entry ts t op info f g h k = subst (λ (x : Form). HasForm ts t op info x) (sym h) k

pub same_call : (ts : List (List ℕ)) (t : NodeTable) (r : Result Instruction AllocError) (f g : Form)
    → g ≡ f
    → IfOk r (λ e. (us : List (List ℕ)) → HasForm us t e.op e.info f)
    → IfOk r (λ e. HasForm ts t e.op e.info g)
same_call ts t (Ok e) f g h k = subst (λ (x : Form). HasForm ts t e.op e.info x) (sym h) (k ts)
same_call ts t (Err e) f g h k = tt

-- ---- forms that need neither names nor an entry

loop_enters : (ts : List (List ℕ)) (t : NodeTable) (stage : Stage) (scope : Option Addr)
    → Enters ts t (forms.Loop stage scope) (loop_entry stage scope)
loop_enters ts t stage (Some a) = refl
loop_enters ts t stages.First None = has_bare ts t ops.LoopFirst refl
loop_enters ts t stages.Doing None = has_bare ts t ops.LoopDoing refl
loop_enters ts t stages.Testing None = has_bare ts t ops.LoopTesting refl
loop_enters ts t stages.Body None = has_bare ts t ops.LoopBody refl
loop_enters ts t stages.Updating None = has_bare ts t ops.LoopUpdating refl

pub alone_enters : (ts : List (List ℕ)) (t : NodeTable) (f : Form)
    → needs_names f ≡ false
    → Enters ts t f (alone_entry f)
alone_enters ts t (forms.Script a b) e = absurd cc
alone_enters ts t (forms.EnterFor a b c) e = absurd cc
alone_enters ts t (forms.EnterForOf a b) e = absurd cc
alone_enters ts t (forms.Block a) e = absurd cc
alone_enters ts t (forms.Initialize a) e = absurd cc
alone_enters ts t (forms.Catching a) e = absurd cc
alone_enters ts t (forms.Read a) e = absurd cc
alone_enters ts t (forms.TypeofName a) e = absurd cc
alone_enters ts t (forms.Function a) e = absurd cc
alone_enters ts t (forms.Method a) e = absurd cc
alone_enters ts t (forms.Object a) e = absurd cc
alone_enters ts t (forms.Assign a) e = absurd cc
alone_enters ts t (forms.Compound a b) e = absurd cc
alone_enters ts t (forms.Update a b c) e = absurd cc
alone_enters ts t (forms.Delete a) e = absurd cc
alone_enters ts t (forms.Call a b) e = absurd cc
alone_enters ts t (forms.CallOf a b c) e = absurd cc
alone_enters ts t forms.Scripts e = has_bare ts t ops.Scripts refl
alone_enters ts t forms.Sequence e = has_bare ts t ops.Sequence refl
alone_enters ts t forms.Choose e = has_bare ts t ops.Choose refl
alone_enters ts t forms.Both e = has_bare ts t ops.Both refl
alone_enters ts t forms.Either e = has_bare ts t ops.Either refl
alone_enters ts t forms.Break e = has_bare ts t ops.Break refl
alone_enters ts t forms.Continue e = has_bare ts t ops.Continue refl
alone_enters ts t forms.Return e = has_bare ts t ops.Return refl
alone_enters ts t forms.Finishing e = has_bare ts t ops.Finishing refl
alone_enters ts t forms.This e = has_bare ts t ops.This refl
alone_enters ts t forms.Comma e = has_bare ts t ops.Comma refl
alone_enters ts t forms.Array e = has_bare ts t ops.Array refl
alone_enters ts t (forms.Unary o) e = has_bare ts t (ops.Unary o) refl
alone_enters ts t (forms.Binary o) e = has_bare ts t (ops.Binary o) refl
alone_enters ts t (forms.Enter n) e = has_placed ts t ops.Enter n refl
alone_enters ts t (forms.EnterDebugger n) e = has_placed ts t ops.EnterDebugger n refl
alone_enters ts t (forms.Throw n) e = has_placed ts t ops.Throw n refl
alone_enters ts t (forms.Loop stage scope) e = loop_enters ts t stage scope
alone_enters ts t _ e = refl

pub answer_enters : (ts : List (List ℕ)) (t : NodeTable) (f : Form) (o : Option Instruction)
    → o ≡ alone_entry f
    → needs_names f ≡ false
    → Enters ts t f o
answer_enters ts t f o e h = subst (λ (x : Option Instruction). Enters ts t f x) (sym e) (alone_enters ts t f h)

-- a form that is none of those
pub needs_nothing : (f : Form)
    → ((x : ℕ) (y : List Binding) → f ≡ forms.Script x y → ⊥)
    → ((x : ℕ) (y : Bool) (z : List Binding) → f ≡ forms.EnterFor x y z → ⊥)
    → ((x : ℕ) (y : Binding) → f ≡ forms.EnterForOf x y → ⊥)
    → ((x : List Binding) → f ≡ forms.Block x → ⊥)
    → ((x : List ℕ) → f ≡ forms.Initialize x → ⊥)
    → ((x : Option (List ℕ)) → f ≡ forms.Catching x → ⊥)
    → ((x : Reference) → f ≡ forms.Read x → ⊥)
    → ((x : List ℕ) → f ≡ forms.TypeofName x → ⊥)
    → ((x : FunctionForm) → f ≡ forms.Function x → ⊥)
    → ((x : List Member) → f ≡ forms.Object x → ⊥)
    → ((x : FunctionForm) → f ≡ forms.Method x → ⊥)
    → ((x : Reference) → f ≡ forms.Assign x → ⊥)
    → ((x : BinaryOperator) (y : Reference) → f ≡ forms.Compound x y → ⊥)
    → ((x : UpdateOperator) (y : Bool) (z : Reference) → f ≡ forms.Update x y z → ⊥)
    → ((x : Reference) → f ≡ forms.Delete x → ⊥)
    → ((x : Mark) (y : ℕ) → f ≡ forms.Call x y → ⊥)
    → ((x : Reference) (y : Mark) (z : ℕ) → f ≡ forms.CallOf x y z → ⊥)
    → needs_names f ≡ false
needs_nothing (forms.Script x y) h0 h1 h2 h3 h4 h5 h6 h7 h8 h9 h10 h11 h12 h13 h14 h15 h16 = absurd (h0 x y refl)
needs_nothing (forms.EnterFor x y z) h0 h1 h2 h3 h4 h5 h6 h7 h8 h9 h10 h11 h12 h13 h14 h15 h16 = absurd (h1 x y z refl)
needs_nothing (forms.EnterForOf x y) h0 h1 h2 h3 h4 h5 h6 h7 h8 h9 h10 h11 h12 h13 h14 h15 h16 = absurd (h2 x y refl)
needs_nothing (forms.Block x) h0 h1 h2 h3 h4 h5 h6 h7 h8 h9 h10 h11 h12 h13 h14 h15 h16 = absurd (h3 x refl)
needs_nothing (forms.Initialize x) h0 h1 h2 h3 h4 h5 h6 h7 h8 h9 h10 h11 h12 h13 h14 h15 h16 = absurd (h4 x refl)
needs_nothing (forms.Catching x) h0 h1 h2 h3 h4 h5 h6 h7 h8 h9 h10 h11 h12 h13 h14 h15 h16 = absurd (h5 x refl)
needs_nothing (forms.Read x) h0 h1 h2 h3 h4 h5 h6 h7 h8 h9 h10 h11 h12 h13 h14 h15 h16 = absurd (h6 x refl)
needs_nothing (forms.TypeofName x) h0 h1 h2 h3 h4 h5 h6 h7 h8 h9 h10 h11 h12 h13 h14 h15 h16 = absurd (h7 x refl)
needs_nothing (forms.Function x) h0 h1 h2 h3 h4 h5 h6 h7 h8 h9 h10 h11 h12 h13 h14 h15 h16 = absurd (h8 x refl)
needs_nothing (forms.Object x) h0 h1 h2 h3 h4 h5 h6 h7 h8 h9 h10 h11 h12 h13 h14 h15 h16 = absurd (h9 x refl)
needs_nothing (forms.Method x) h0 h1 h2 h3 h4 h5 h6 h7 h8 h9 h10 h11 h12 h13 h14 h15 h16 = absurd (h10 x refl)
needs_nothing (forms.Assign x) h0 h1 h2 h3 h4 h5 h6 h7 h8 h9 h10 h11 h12 h13 h14 h15 h16 = absurd (h11 x refl)
needs_nothing (forms.Compound x y) h0 h1 h2 h3 h4 h5 h6 h7 h8 h9 h10 h11 h12 h13 h14 h15 h16 = absurd (h12 x y refl)
needs_nothing (forms.Update x y z) h0 h1 h2 h3 h4 h5 h6 h7 h8 h9 h10 h11 h12 h13 h14 h15 h16 = absurd (h13 x y z refl)
needs_nothing (forms.Delete x) h0 h1 h2 h3 h4 h5 h6 h7 h8 h9 h10 h11 h12 h13 h14 h15 h16 = absurd (h14 x refl)
needs_nothing (forms.Call x y) h0 h1 h2 h3 h4 h5 h6 h7 h8 h9 h10 h11 h12 h13 h14 h15 h16 = absurd (h15 x y refl)
needs_nothing (forms.CallOf x y z) h0 h1 h2 h3 h4 h5 h6 h7 h8 h9 h10 h11 h12 h13 h14 h15 h16 = absurd (h16 x y z refl)
needs_nothing _ h0 h1 h2 h3 h4 h5 h6 h7 h8 h9 h10 h11 h12 h13 h14 h15 h16 = refl
