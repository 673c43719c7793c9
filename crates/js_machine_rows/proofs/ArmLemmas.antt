-- Lemmas that make clauses of rows of names, properties, operators, calls and simple statements those of the table of
-- steps.
use Rattle.std.proofs.Common.{◌≡◌, ℕ, true, refl, sym, subst, ap, ◌∙◌, List, [], ◌∷◌, Option, Some, None, slice_get, drop}
use Rattle.js_heap.specs.declared.value.Addr.{Addr}
use Rattle.js_heap.specs.declared.value.Value.{Value}
use Rattle.js_heap.specs.declared.value.Value.TheVariants as values
use Rattle.js_heap.specs.declared.computed.Computed.{Computed}
use Rattle.js_heap.specs.Operators.{binary_result, unary_result}
use Rattle.js_heap.specs.Properties.{property_of, property_written}
use Rattle.js_heap.specs.Values.{key_of}
use Rattle.js_heap.specs.World.{World}
use Rattle.js_tree_operators.specs.declared.operator.BinaryOperator.{BinaryOperator}
use Rattle.js_tree_operators.specs.declared.operator.UnaryOperator.{UnaryOperator}
use Rattle.js_tree_operators.specs.declared.operator.UpdateOperator.{UpdateOperator}
use Rattle.js_semantics.specs.declared.form.Form.{Form}
use Rattle.js_semantics.specs.declared.form.Reference.{Reference}
use Rattle.js_semantics.specs.declared.form.Completion.{Completion}
use Rattle.js_semantics.specs.declared.form.Form.TheVariants as forms
use Rattle.js_semantics.specs.declared.form.Reference.TheVariants.{Name as to_name, Member as to_member, Index as to_index}
use Rattle.js_semantics.specs.declared.form.Mark.TheVariants.{Start as start}
use Rattle.js_semantics.specs.declared.form.Completion.TheVariants.{Returns as returns, Breaks as breaks, Continues as continues}
use Rattle.js_semantics.specs.BuiltIns.{argument, last_of}
use Rattle.js_semantics.specs.State.{State, Action, go, give, raise, leave, set_here, pop_frame, this_of}
use Rattle.js_semantics.specs.Functions.{call_row}
use Rattle.js_semantics.specs.Next.{scope_in}
use Rattle.js_semantics.specs.References.{found, value_of_found, name_written, with_result, with_written, with_key, keyed_result, read_result, put, remove}
use Rattle.js_semantics.specs.Rows.{row, type_of_found, compound_row, update_value, updated_by}
use Rattle.js_semantics.specs.Terms.{Term, Terms, done, part, end, more, one, joined, dones}
use Rattle.js_heap_memory.specs.Cells.{binding_at}
use Rattle.js_heap_memory.specs.Names.{name_of}
use Rattle.js_machine_actions.specs.Contexts.{Context, state_of}
use Rattle.js_machine_actions.specs.Flow.{performed}
use Rattle.js_machine_nodes.specs.declared.node.CallEntry.{CallEntry}
use Rattle.js_machine_nodes.specs.declared.node.ForOfEntry.{ForOfEntry}
use Rattle.js_machine_nodes.specs.declared.op.Op.{Op}
use Rattle.js_machine_nodes.specs.declared.op.Op.TheVariants as ops
use Rattle.js_machine_nodes.specs.declared.op.UpdateKind.{UpdateKind}
use Rattle.js_machine_nodes.specs.declared.table.NodeTable.{NodeTable}
use Rattle.js_machine_nodes.specs.Forms.{form_of, call_form, name_call_form, member_call_form, index_call_form, body_form}
use Rattle.js_machine_nodes.specs.Ops.{operator_of, is_prefix}
use Rattle.js_machine_nodes.specs.Trees.{program_of, tree, trees, terms, kids_between}
use Rattle.js_machine_engine.specs.declared.reduced.Reduced.{Reduced}
use Rattle.js_machine_engine.specs.declared.reduced.Reduced.TheVariants as reduced
use Rattle.js_machine_engine.specs.declared.task.Extra.{Extra}
use Rattle.js_machine_engine.specs.declared.task.Extra.TheVariants as extras
use Rattle.js_machine_engine.specs.declared.task.Redex.{Redex}
use Rattle.js_machine_engine.specs.Answers.{head_of, this_of_call, assigning, operating, reduced_move, reduced_term}
use Rattle.js_machine_engine.specs.Rows.{redex}
use Rattle.js_machine_engine.specs.Tasks.{Wide, form_in, later_of, kept_of, index_of}
use Rattle.js_machine_rows.specs.Calls.{ActsAnywhere, ActsOf}
use Rattle.js_machine_rows.specs.Does.{Does, Replies, CallsIt, AssignsIt}
use Rattle.js_machine_rows.specs.References.{member_result, index_result, member_put, index_put, member_removed, index_removed}
use Rattle.js_machine_rows.specs.Simple.{CommaOf}
use Rattle.js_machine_rows.specs.Table.{IsRow, IsCompound}
use Rattle.js_machine_rows.specs.Updates.{name_updated, keyed_updated, member_updated, element_updated}
use Rattle.js_machine_rows.proofs.OverLemmas.{give-does}
use Rattle.js_machine_rows.proofs.PartLemmas.{no-trees, first-tree}
use Rattle.js_machine_rows.proofs.TableLemmas.{task-row, scope-row}

-- ---- any row

-- a row that is this action
pub replies-row : (ts : List (List ℕ)) (t : NodeTable) (form : Redex) (vs : List Value) (o : Op) (f : Form) (a : Action)
    (v w : World) (c : Context) (r : Reduced)
    → form.op ≡ o
    → form_in ts t o form.info form.inner None ≡ f
    → ((outer : Addr) → scope_in f outer ≡ outer) →
    ((before : List (List ℕ))
    → row (program_of ts t) (state_of v c before) form.inner f vs (later_of ts t (redex form vs None)) ≡ a)
    → Replies ts a v r w
    → IsRow ts t form vs None v c r w c
replies-row ts t form vs o f a v w c r h i k l g = λ outer before.
    let P : Action → Type 0 = λ x. Does ts t (redex form vs None) x (state_of v c before) r (state_of w c before) in
    task-row ts t form vs None o f outer v w c c before r h i (k outer)
    (subst P (sym (l before)) (g t (redex form vs None) (state_of v c before)))

pub same-extra : (ts : List (List ℕ)) (t : NodeTable) (form : Redex) (vs : List Value) (x y : Option Extra)
    (v w : World) (c d : Context) (r : Reduced)
    → x ≡ y
    → IsRow ts t form vs y v c r w d
    → IsRow ts t form vs x v c r w d
same-extra ts t form vs x y v w c d r h g =
    let P : Option Extra → Type 0 = λ z. IsRow ts t form vs z v c r w d in subst P (sym h) g

-- ---- reading

pub read-name-row : (ts : List (List ℕ)) (t : NodeTable) (form : Redex) (vs : List Value) (v w : World) (c : Context)
    (r : Reduced)
    → form.op ≡ ops.ReadName →
    Replies ts (with_result (value_of_found (name_of ts form.info) (found v form.inner (name_of ts form.info))) give)
    v r w
    → IsRow ts t form vs None v c r w c
unfolding form_of
read-name-row ts t form vs v w c r h g =
    replies-row ts t form vs ops.ReadName (forms.Read (to_name (name_of ts form.info)))
    (with_result (value_of_found (name_of ts form.info) (found v form.inner (name_of ts form.info))) give)
    v w c r h refl (λ outer. refl) (λ before. refl) g

member_read : (v : World) (a : Addr) (n : List ℕ) (vs : List Value)
    → read_result v a (to_member n) vs ≡ member_result v vs n
member_read v a n [] = refl
member_read v a n (o ∷ vs) = refl

index_read : (v : World) (a : Addr) (vs : List Value) → read_result v a to_index vs ≡ index_result v vs
index_read v a [] = refl
index_read v a (o ∷ []) = refl
index_read v a (o ∷ i ∷ vs) = refl

pub read-member-row : (ts : List (List ℕ)) (t : NodeTable) (form : Redex) (vs : List Value) (v w : World) (c : Context)
    (r : Reduced)
    → form.op ≡ ops.ReadMember →
    Replies ts (with_result (member_result v vs (name_of ts form.info)) give) v r w → IsRow ts t form vs None v c r w c
unfolding form_of
read-member-row ts t form vs v w c r h g =
    replies-row ts t form vs ops.ReadMember (forms.Read (to_member (name_of ts form.info)))
    (with_result (member_result v vs (name_of ts form.info)) give) v w c r h refl (λ outer. refl)
    (λ before. ap (λ x. with_result x give) (member_read v form.inner (name_of ts form.info) vs)) g

pub read-index-row : (ts : List (List ℕ)) (t : NodeTable) (form : Redex) (vs : List Value) (v w : World) (c : Context)
    (r : Reduced)
    → form.op ≡ ops.ReadIndex →
    Replies ts (with_result (index_result v vs) give) v r w → IsRow ts t form vs None v c r w c
unfolding form_of
read-index-row ts t form vs v w c r h g =
    replies-row ts t form vs ops.ReadIndex (forms.Read to_index) (with_result (index_result v vs) give) v w c r h refl
    (λ outer. refl) (λ before. ap (λ x. with_result x give) (index_read v form.inner vs)) g

pub typeof-row : (ts : List (List ℕ)) (t : NodeTable) (form : Redex) (vs : List Value) (v w : World) (c : Context)
    (r : Reduced)
    → form.op ≡ ops.TypeofName →
    Replies ts (type_of_found v (name_of ts form.info) (found v form.inner (name_of ts form.info))) v r w
    → IsRow ts t form vs None v c r w c
unfolding form_of
typeof-row ts t form vs v w c r h g =
    replies-row ts t form vs ops.TypeofName (forms.TypeofName (name_of ts form.info))
    (type_of_found v (name_of ts form.info) (found v form.inner (name_of ts form.info))) v w c r h refl
    (λ outer. refl) (λ before. refl) g

pub this-row : (ts : List (List ℕ)) (t : NodeTable) (form : Redex) (vs : List Value) (v : World) (c : Context)
    (r : Reduced)
    → form.op ≡ ops.This →
    ((us : List (List ℕ)) (u : World) → ActsAnywhere us (λ s. give (this_of s)) u c r u c)
    → IsRow ts t form vs None v c r v c
unfolding form_of
this-row ts t form vs v c r h g =
    λ outer before. task-row ts t form vs None ops.This forms.This outer v v c c before r h refl refl
    (g ts v t (redex form vs None) before)

-- ---- operators

pub unary-row : (ts : List (List ℕ)) (t : NodeTable) (form : Redex) (vs : List Value) (o : UnaryOperator) (v w : World)
    (c : Context) (r : Reduced)
    → form.op ≡ ops.Unary o →
    Replies ts (with_result (unary_result v o (argument vs 0)) give) v r w → IsRow ts t form vs None v c r w c
unfolding form_of
unary-row ts t form vs o v w c r h g =
    replies-row ts t form vs (ops.Unary o) (forms.Unary o) (with_result (unary_result v o (argument vs 0)) give)
    v w c r h refl (λ outer. refl) (λ before. refl) g

pub binary-row : (ts : List (List ℕ)) (t : NodeTable) (form : Redex) (vs : List Value) (o : BinaryOperator)
    (v w : World) (c : Context) (r : Reduced)
    → form.op ≡ ops.Binary o →
    Replies ts (with_result (binary_result v o (argument vs 0) (argument vs 1)) give) v r w
    → IsRow ts t form vs None v c r w c
unfolding form_of
binary-row ts t form vs o v w c r h g =
    replies-row ts t form vs (ops.Binary o) (forms.Binary o)
    (with_result (binary_result v o (argument vs 0) (argument vs 1)) give) v w c r h refl (λ outer. refl)
    (λ before. refl) g

pub comma-row : (ts : List (List ℕ)) (t : NodeTable) (form : Redex) (vs : List Value) (v : World) (c : Context)
    (r : Reduced)
    → form.op ≡ ops.Comma
    → CommaOf t form.mid form.end r
    → IsRow ts t form vs None v c r v c
unfolding form_of
comma-row ts t form vs v c r h g =
    λ outer before. task-row ts t form vs None ops.Comma forms.Comma outer v v c c before r h refl refl
    (g ts (redex form vs None) (state_of v c before) refl)

-- ---- writing

pub assign-name-row : (ts : List (List ℕ)) (t : NodeTable) (form : Redex) (vs : List Value) (x : Value) (v w : World)
    (c : Context) (r : Reduced)
    → form.op ≡ ops.AssignName
    → x ≡ last_of vs →
    Replies ts
    (with_written (name_written (name_of ts form.info) (found v form.inner (name_of ts form.info)) x) (give x))
    v r w
    → IsRow ts t form vs None v c r w c
unfolding form_of
assign-name-row ts t form vs x v w c r h e g =
    let f : Value
    → Action = λ y. with_written (name_written (name_of ts form.info) (found v form.inner (name_of ts form.info)) y)
    (give y) in
    replies-row ts t form vs ops.AssignName (forms.Assign (to_name (name_of ts form.info))) (f x) v w c r h refl
    (λ outer. refl) (λ before. ap f (sym e)) g

member_put_is : (v : World) (a : Addr) (n : List ℕ) (vs : List Value) (x : Value) (k : Action)
    → put v a (to_member n) vs x k ≡ member_put v vs n x k
member_put_is v a n [] x k = refl
member_put_is v a n (o ∷ vs) x k = refl

index_put_is : (v : World) (a : Addr) (vs : List Value) (x : Value) (k : Action)
    → put v a to_index vs x k ≡ index_put v vs x k
index_put_is v a [] x k = refl
index_put_is v a (o ∷ []) x k = refl
index_put_is v a (o ∷ i ∷ vs) x k = refl

pub assign-member-row : (ts : List (List ℕ)) (t : NodeTable) (form : Redex) (vs : List Value) (v w : World)
    (c : Context) (r : Reduced)
    → form.op ≡ ops.AssignMember →
    Replies ts (member_put v vs (name_of ts form.info) (last_of vs) (give (last_of vs))) v r w
    → IsRow ts t form vs None v c r w c
unfolding form_of
assign-member-row ts t form vs v w c r h g =
    replies-row ts t form vs ops.AssignMember (forms.Assign (to_member (name_of ts form.info)))
    (member_put v vs (name_of ts form.info) (last_of vs) (give (last_of vs))) v w c r h refl (λ outer. refl)
    (λ before. member_put_is v form.inner (name_of ts form.info) vs (last_of vs) (give (last_of vs))) g

pub assign-index-row : (ts : List (List ℕ)) (t : NodeTable) (form : Redex) (vs : List Value) (v w : World) (c : Context)
    (r : Reduced)
    → form.op ≡ ops.AssignIndex →
    Replies ts (index_put v vs (last_of vs) (give (last_of vs))) v r w → IsRow ts t form vs None v c r w c
unfolding form_of
assign-index-row ts t form vs v w c r h g =
    replies-row ts t form vs ops.AssignIndex (forms.Assign to_index) (index_put v vs (last_of vs) (give (last_of vs)))
    v w c r h refl (λ outer. refl) (λ before. index_put_is v form.inner vs (last_of vs) (give (last_of vs))) g

-- ---- updates

pub update-name-row : (ts : List (List ℕ)) (t : NodeTable) (form : Redex) (vs : List Value) (k : UpdateKind)
    (o : UpdateOperator) (prefix : _) (v w : World) (c : Context) (r : Reduced)
    → form.op ≡ ops.UpdateName k
    → o ≡ operator_of k
    → prefix ≡ is_prefix k →
    Replies ts (name_updated o prefix (name_of ts form.info) (found v form.inner (name_of ts form.info))) v r w
    → IsRow ts t form vs None v c r w c
unfolding form_of
update-name-row ts t form vs k o prefix v w c r h i j g =
    let n = name_of ts form.info in
    replies-row ts t form vs (ops.UpdateName k) (forms.Update (operator_of k) (is_prefix k) (to_name n))
    (name_updated o prefix n (found v form.inner n)) v w c r h refl (λ outer. refl)
    (λ before. ap (λ x. name_updated x (is_prefix k) n (found v form.inner n)) (sym i)
    ∙ ap (λ x. name_updated o x n (found v form.inner n)) (sym j))
    g

member_update : (v : World) (a : Addr) (o : UpdateOperator) (prefix : _) (n : List ℕ) (vs : List Value) →
    updated_by o (read_result v a (to_member n) vs)
    (λ old new. put v a (to_member n) vs new (give (update_value prefix old new))) ≡ member_updated v o prefix vs n
member_update v a o prefix n [] = refl
member_update v a o prefix n (x ∷ vs) = refl

pub update-member-row : (ts : List (List ℕ)) (t : NodeTable) (form : Redex) (vs : List Value) (k : UpdateKind)
    (o : UpdateOperator) (prefix : _) (v w : World) (c : Context) (r : Reduced)
    → form.op ≡ ops.UpdateMember k
    → o ≡ operator_of k
    → prefix ≡ is_prefix k →
    Replies ts (member_updated v o prefix vs (name_of ts form.info)) v r w → IsRow ts t form vs None v c r w c
unfolding form_of
update-member-row ts t form vs k o prefix v w c r h i j g =
    let n = name_of ts form.info in
    replies-row ts t form vs (ops.UpdateMember k) (forms.Update (operator_of k) (is_prefix k) (to_member n))
    (member_updated v o prefix vs n) v w c r h refl (λ outer. refl)
    (λ before. member_update v form.inner (operator_of k) (is_prefix k) n vs
    ∙ ap (λ x. member_updated v x (is_prefix k) vs n) (sym i)
    ∙ ap (λ x. member_updated v o x vs n) (sym j))
    g

keyed_update : (v : World) (o : UpdateOperator) (prefix : _) (x : Value) (k : Option (List ℕ)) →
    updated_by o (keyed_result k (property_of v x))
    (λ old new. with_key k
    (λ key. with_written (property_written v x key new) (give (update_value prefix old new))))
    ≡ keyed_updated v o prefix x k
keyed_update v o prefix x None = refl
keyed_update v o prefix x (Some key) = refl

index_update : (v : World) (a : Addr) (o : UpdateOperator) (prefix : _) (vs : List Value) →
    updated_by o (read_result v a to_index vs) (λ old new. put v a to_index vs new (give (update_value prefix old new)))
    ≡ element_updated v o prefix vs
index_update v a o prefix [] = refl
index_update v a o prefix (x ∷ []) = refl
index_update v a o prefix (x ∷ i ∷ vs) = keyed_update v o prefix x (key_of v i)

pub update-index-row : (ts : List (List ℕ)) (t : NodeTable) (form : Redex) (vs : List Value) (k : UpdateKind)
    (o : UpdateOperator) (prefix : _) (v w : World) (c : Context) (r : Reduced)
    → form.op ≡ ops.UpdateIndex k
    → o ≡ operator_of k
    → prefix ≡ is_prefix k →
    Replies ts (element_updated v o prefix vs) v r w → IsRow ts t form vs None v c r w c
unfolding form_of
update-index-row ts t form vs k o prefix v w c r h i j g =
    replies-row ts t form vs (ops.UpdateIndex k) (forms.Update (operator_of k) (is_prefix k) to_index)
    (element_updated v o prefix vs) v w c r h refl (λ outer. refl)
    (λ before. index_update v form.inner (operator_of k) (is_prefix k) vs
    ∙ ap (λ x. element_updated v x (is_prefix k) vs) (sym i)
    ∙ ap (λ x. element_updated v o x vs) (sym j))
    g

-- ---- deleting

pub delete-name-row : (ts : List (List ℕ)) (t : NodeTable) (form : Redex) (vs : List Value) (v : World) (c : Context)
    → form.op ≡ ops.DeleteName
    → IsRow ts t form vs None v c (reduced.Gives values.Undefined) v c
unfolding form_of
delete-name-row ts t form vs v c h = λ outer before.
    task-row ts t form vs None ops.DeleteName (forms.Delete (to_name (name_of ts form.info))) outer v v c c before
    (reduced.Gives values.Undefined) h refl refl
    (give-does ts t (redex form vs None) values.Undefined (state_of v c before))

member_remove : (v : World) (n : List ℕ) (vs : List Value) (k : Action)
    → remove v (to_member n) vs k ≡ member_removed v vs n k
member_remove v n [] k = refl
member_remove v n (o ∷ vs) k = refl

index_remove : (v : World) (vs : List Value) (k : Action) → remove v to_index vs k ≡ index_removed v vs k
index_remove v [] k = refl
index_remove v (o ∷ []) k = refl
index_remove v (o ∷ i ∷ vs) k = refl

pub delete-member-row : (ts : List (List ℕ)) (t : NodeTable) (form : Redex) (vs : List Value) (v w : World)
    (c : Context) (r : Reduced)
    → form.op ≡ ops.DeleteMember →
    Replies ts (member_removed v vs (name_of ts form.info) (give (values.Bool true))) v r w
    → IsRow ts t form vs None v c r w c
unfolding form_of
delete-member-row ts t form vs v w c r h g =
    replies-row ts t form vs ops.DeleteMember (forms.Delete (to_member (name_of ts form.info)))
    (member_removed v vs (name_of ts form.info) (give (values.Bool true))) v w c r h refl (λ outer. refl)
    (λ before. member_remove v (name_of ts form.info) vs (give (values.Bool true))) g

pub delete-index-row : (ts : List (List ℕ)) (t : NodeTable) (form : Redex) (vs : List Value) (v w : World) (c : Context)
    (r : Reduced)
    → form.op ≡ ops.DeleteIndex →
    Replies ts (index_removed v vs (give (values.Bool true))) v r w → IsRow ts t form vs None v c r w c
unfolding form_of
delete-index-row ts t form vs v w c r h g =
    replies-row ts t form vs ops.DeleteIndex (forms.Delete to_index) (index_removed v vs (give (values.Bool true)))
    v w c r h refl (λ outer. refl) (λ before. index_remove v vs (give (values.Bool true))) g

-- ---- calls

pub call-row : (ts : List (List ℕ)) (t : NodeTable) (form : Redex) (vs : List Value) (entry : CallEntry) (v w : World)
    (c d : Context) (r : Reduced)
    → form.op ≡ ops.Call
    → Some entry ≡ slice_get t.calls.items form.info →
    ActsOf ts t vs (λ s. call_row (program_of ts t) s entry.place vs) v c r w d → IsRow ts t form vs None v c r w d
unfolding form_of
call-row ts t form vs entry v w c d r h i g = λ outer before.
    task-row ts t form vs None ops.Call (forms.Call entry.place entry.statement) outer v w c d before r h
    (ap call_form (sym i)) refl (g (redex form vs None) refl before)

-- a call before its callee is read, by what it does, its entry and its parts
abbrev callee_term : Op → Option CallEntry → List Value → Terms → Value → Term
callee_term o x vs later f = part (call_form x) (more (done (this_of_call o vs)) (more (done f) later)) end

calls-row : (ts : List (List ℕ)) (t : NodeTable) (form : Redex) (vs : List Value) (o : Op) (f : Form) (x : Computed)
    (entry : CallEntry) (v w : World) (c : Context) (r : Reduced)
    → form.op ≡ o
    → form_in ts t o form.info form.inner None ≡ f
    → ((outer : Addr) → scope_in f outer ≡ outer) →
    ((before : List (List ℕ))
    → row (program_of ts t) (state_of v c before) form.inner f vs (later_of ts t (redex form vs None))
    ≡ with_result x (λ y. go (callee_term o (Some entry) vs (later_of ts t (redex form vs None)) y)))
    →
    Some entry ≡ slice_get t.calls.items form.info → CallsIt ts x v r w → IsRow ts t form vs None v c r w c
calls-row ts t form vs o f x entry v w c r h i k l e g = λ outer before.
    let later : Terms = later_of ts t (redex form vs None) in
    let P : Action → Type 0 = λ y. Does ts t (redex form vs None) y (state_of v c before) r (state_of w c before) in
    let same = ap (λ p. with_result x (λ y. go (callee_term p (slice_get t.calls.items form.info) vs later y))) h
    ∙ ap (λ z. with_result x (λ y. go (callee_term o z vs later y))) (sym e)
    ∙ sym (l before) in
    task-row ts t form vs None o f outer v w c c before r h i (k outer)
    (subst P same (g t (redex form vs None) (state_of v c before)))

pub call-name-row : (ts : List (List ℕ)) (t : NodeTable) (form : Redex) (vs : List Value) (entry : CallEntry)
    (v w : World) (c : Context) (r : Reduced)
    → form.op ≡ ops.CallOfName
    → Some entry ≡ slice_get t.calls.items form.info →
    CallsIt ts (value_of_found (name_of ts entry.name.number) (found v form.inner (name_of ts entry.name.number))) v r w
    → IsRow ts t form vs None v c r w c
unfolding form_of
call-name-row ts t form vs entry v w c r h e g =
    let n = name_of ts entry.name.number in
    calls-row ts t form vs ops.CallOfName (forms.CallOf (to_name n) entry.place entry.statement)
    (value_of_found n (found v form.inner n)) entry v w c r h (ap (name_call_form ts) (sym e)) (λ outer. refl)
    (λ before. refl) e g

pub call-member-row : (ts : List (List ℕ)) (t : NodeTable) (form : Redex) (vs : List Value) (entry : CallEntry)
    (v w : World) (c : Context) (r : Reduced)
    → form.op ≡ ops.CallOfMember
    → Some entry ≡ slice_get t.calls.items form.info →
    CallsIt ts (member_result v vs (name_of ts entry.name.number)) v r w → IsRow ts t form vs None v c r w c
unfolding form_of
call-member-row ts t form vs entry v w c r h e g =
    let n = name_of ts entry.name.number in
    calls-row ts t form vs ops.CallOfMember (forms.CallOf (to_member n) entry.place entry.statement)
    (member_result v vs n) entry v w c r h (ap (member_call_form ts) (sym e)) (λ outer. refl)
    (λ before. ap
    (λ x. with_result x
    (λ y. go (callee_term ops.CallOfMember (Some entry) vs (later_of ts t (redex form vs None)) y)))
    (member_read v form.inner n vs))
    e g

pub call-index-row : (ts : List (List ℕ)) (t : NodeTable) (form : Redex) (vs : List Value) (entry : CallEntry)
    (v w : World) (c : Context) (r : Reduced)
    → form.op ≡ ops.CallOfIndex
    → Some entry ≡ slice_get t.calls.items form.info →
    CallsIt ts (index_result v vs) v r w → IsRow ts t form vs None v c r w c
unfolding form_of
call-index-row ts t form vs entry v w c r h e g =
    calls-row ts t form vs ops.CallOfIndex (forms.CallOf to_index entry.place entry.statement) (index_result v vs)
    entry v w c r h (ap index_call_form (sym e)) (λ outer. refl)
    (λ before. ap
    (λ x. with_result x
    (λ y. go (callee_term ops.CallOfIndex (Some entry) vs (later_of ts t (redex form vs None)) y)))
    (index_read v form.inner vs))
    e g

-- ---- assignments with an operator

-- an assignment of an operator on an old value, by what it does and its parts
abbrev assigned_term : List (List ℕ) → NodeTable → Op → ℕ → List Value → Terms → Value → Term
assigned_term ts t o info vs later old =
    part (form_of ts t (assigning o) info)
    (joined (dones vs) (one (part (form_of ts t (operating o) info) (more (done old) (one (head_of later))) end)))
    end

assigns-row : (ts : List (List ℕ)) (t : NodeTable) (form : Redex) (vs : List Value) (o : Op) (f : Form) (x : Computed)
    (v w : World) (c : Context) (r : Reduced)
    → form.op ≡ o
    → form_in ts t o form.info form.inner None ≡ f
    → ((outer : Addr) → scope_in f outer ≡ outer) →
    ((before : List (List ℕ))
    → row (program_of ts t) (state_of v c before) form.inner f vs (later_of ts t (redex form vs None))
    ≡ with_result x (λ y. go (assigned_term ts t o form.info vs (later_of ts t (redex form vs None)) y)))
    → AssignsIt ts x v r w
    → IsRow ts t form vs None v c r w c
assigns-row ts t form vs o f x v w c r h i k l g = λ outer before.
    let later : Terms = later_of ts t (redex form vs None) in
    let P : Action → Type 0 = λ y. Does ts t (redex form vs None) y (state_of v c before) r (state_of w c before) in
    let same = ap (λ p. with_result x (λ y. go (assigned_term ts t p form.info vs later y))) h ∙ sym (l before) in
    task-row ts t form vs None o f outer v w c c before r h i (k outer)
    (subst P same (g t (redex form vs None) (state_of v c before)))

compound_is : (ts : List (List ℕ)) (t : NodeTable) (v : World) (a : Addr) (o : BinaryOperator) (ref : Reference)
    (p : Op) (info : ℕ) (x : Computed) (vs : List Value) (later ts_later : Terms) (e : Term)
    → later ≡ more e ts_later
    → form_of ts t (assigning p) info ≡ forms.Assign ref
    → form_of ts t (operating p) info ≡ forms.Binary o
    → read_result v a ref vs ≡ x →
    compound_row v a o ref vs later ≡ with_result x (λ y. go (assigned_term ts t p info vs later y))
compound_is ts t v a o ref p info x vs later us e h i j k =
    let P : Terms
    → Type 0 = λ l. compound_row v a o ref vs l ≡ with_result x (λ y. go (assigned_term ts t p info vs l y)) in
    subst P (sym h)
    (ap (λ z. with_result z
    (λ old. go
    (part (forms.Assign ref) (joined (dones vs) (one (part (forms.Binary o) (more (done old) (one e)) end)))
    end)))
    k
    ∙ ap (λ f. with_result x
    (λ old. go (part f (joined (dones vs) (one (part (forms.Binary o) (more (done old) (one e)) end))) end)))
    (sym i)
    ∙ ap (λ f. with_result x
    (λ old. go
    (part (form_of ts t (assigning p) info) (joined (dones vs) (one (part f (more (done old) (one e)) end)))
    end)))
    (sym j))

pub compound-name-row : (ts : List (List ℕ)) (t : NodeTable) (form : Redex) (vs : List Value) (o : BinaryOperator)
    (k : ℕ) (v w : World) (c : Context) (r : Reduced)
    → form.op ≡ ops.CompoundName o
    → Some k ≡ slice_get (kids_between t form.mid form.end) 0 →
    AssignsIt ts (value_of_found (name_of ts form.info) (found v form.inner (name_of ts form.info))) v r w
    → IsRow ts t form vs None v c r w c
unfolding form_of
compound-name-row ts t form vs o k v w c r h e g =
    let n = name_of ts form.info in
    let x : Computed = value_of_found n (found v form.inner n) in
    assigns-row ts t form vs (ops.CompoundName o) (forms.Compound o (to_name n)) x v w c r h refl (λ outer. refl)
    (λ before. compound_is ts t v form.inner o (to_name n) (ops.CompoundName o) form.info x vs
    (trees ts t form.mid form.end) (terms (tree ts t) (drop 1 (kids_between t form.mid form.end))) (tree ts t k)
    (first-tree ts t form.mid form.end k e) refl refl refl)
    g

pub compound-member-row : (ts : List (List ℕ)) (t : NodeTable) (form : Redex) (vs : List Value) (o : BinaryOperator)
    (k : ℕ) (v w : World) (c : Context) (r : Reduced)
    → form.op ≡ ops.CompoundMember o
    → Some k ≡ slice_get (kids_between t form.mid form.end) 0 →
    AssignsIt ts (member_result v vs (name_of ts form.info)) v r w → IsRow ts t form vs None v c r w c
unfolding form_of
compound-member-row ts t form vs o k v w c r h e g =
    let n = name_of ts form.info in
    assigns-row ts t form vs (ops.CompoundMember o) (forms.Compound o (to_member n)) (member_result v vs n)
    v w c r h refl (λ outer. refl)
    (λ before. compound_is ts t v form.inner o (to_member n) (ops.CompoundMember o) form.info (member_result v vs n) vs
    (trees ts t form.mid form.end) (terms (tree ts t) (drop 1 (kids_between t form.mid form.end))) (tree ts t k)
    (first-tree ts t form.mid form.end k e) refl refl (member_read v form.inner n vs))
    g

pub compound-index-row : (ts : List (List ℕ)) (t : NodeTable) (form : Redex) (vs : List Value) (o : BinaryOperator)
    (k : ℕ) (v w : World) (c : Context) (r : Reduced)
    → form.op ≡ ops.CompoundIndex o
    → Some k ≡ slice_get (kids_between t form.mid form.end) 0 →
    AssignsIt ts (index_result v vs) v r w → IsRow ts t form vs None v c r w c
unfolding form_of
compound-index-row ts t form vs o k v w c r h e g =
    assigns-row ts t form vs (ops.CompoundIndex o) (forms.Compound o to_index) (index_result v vs) v w c r h refl
    (λ outer. refl)
    (λ before. compound_is ts t v form.inner o to_index (ops.CompoundIndex o) form.info (index_result v vs) vs
    (trees ts t form.mid form.end) (terms (tree ts t) (drop 1 (kids_between t form.mid form.end))) (tree ts t k)
    (first-tree ts t form.mid form.end k e) refl refl (index_read v form.inner vs))
    g

-- without a part for the value
undefined-row : (ts : List (List ℕ)) (t : NodeTable) (form : Redex) (vs : List Value) (o : Op) (f : Form) (v : World)
    (c : Context)
    → form.op ≡ o
    → form_in ts t o form.info form.inner None ≡ f
    → ((outer : Addr) → scope_in f outer ≡ outer) →
    ((before : List (List ℕ))
    → row (program_of ts t) (state_of v c before) form.inner f vs (later_of ts t (redex form vs None))
    ≡ give values.Undefined)
    → IsRow ts t form vs None v c (reduced.Gives values.Undefined) v c
undefined-row ts t form vs o f v c h i k l = λ outer before.
    let P : Action
    → Type 0 = λ x. Does ts t (redex form vs None) x (state_of v c before) (reduced.Gives values.Undefined)
    (state_of v c before) in
    task-row ts t form vs None o f outer v v c c before (reduced.Gives values.Undefined) h i (k outer)
    (subst P (sym (l before)) (give-does ts t (redex form vs None) values.Undefined (state_of v c before)))

without_by : (ts : List (List ℕ)) (t : NodeTable) (form : Redex) (vs : List Value) (o : Op) (v : World) (c : Context)
    → form.op ≡ o
    → IsCompound o
    → None ≡ slice_get (kids_between t form.mid form.end) 0
    → IsRow ts t form vs None v c (reduced.Gives values.Undefined) v c
unfolding form_of
without_by ts t form vs (ops.CompoundName o) v c h i e =
    let ref : Reference = to_name (name_of ts form.info) in
    undefined-row ts t form vs (ops.CompoundName o) (forms.Compound o ref) v c h refl (λ outer. refl)
    (λ before. ap (λ l. compound_row v form.inner o ref vs l) (no-trees ts t form.mid form.end e))
without_by ts t form vs (ops.CompoundMember o) v c h i e =
    let ref : Reference = to_member (name_of ts form.info) in
    undefined-row ts t form vs (ops.CompoundMember o) (forms.Compound o ref) v c h refl (λ outer. refl)
    (λ before. ap (λ l. compound_row v form.inner o ref vs l) (no-trees ts t form.mid form.end e))
without_by ts t form vs (ops.CompoundIndex o) v c h i e =
    undefined-row ts t form vs (ops.CompoundIndex o) (forms.Compound o to_index) v c h refl (λ outer. refl)
    (λ before. ap (λ l. compound_row v form.inner o to_index vs l) (no-trees ts t form.mid form.end e))
without_by ts t form vs _ v c h i e = absurd i

pub without-row : (ts : List (List ℕ)) (t : NodeTable) (form : Redex) (vs : List Value) (v : World) (c : Context)
    → IsCompound form.op
    → None ≡ slice_get (kids_between t form.mid form.end) 0
    → IsRow ts t form vs None v c (reduced.Gives values.Undefined) v c
without-row ts t form vs v c h e = without_by ts t form vs form.op v c refl h e

-- ---- completions

pub return-row : (ts : List (List ℕ)) (t : NodeTable) (form : Redex) (vs : List Value) (v : World) (c : Context)
    (r : Reduced)
    → form.op ≡ ops.Return →
    ((us : List (List ℕ)) (u : World) (d : Context) → ActsAnywhere us (λ s. leave (returns (argument vs 0))) u d r u d)
    → IsRow ts t form vs None v c r v c
unfolding form_of
return-row ts t form vs v c r h g =
    λ outer before. task-row ts t form vs None ops.Return forms.Return outer v v c c before r h refl refl
    (g ts v c t (redex form vs None) before)

pub throw-row : (ts : List (List ℕ)) (t : NodeTable) (form : Redex) (vs : List Value) (v : World) (c d : Context)
    (r : Reduced)
    → form.op ≡ ops.Throw →
    ((us : List (List ℕ)) (u : World)
    → ActsAnywhere us (λ s. set_here (start form.info) (raise (argument vs 0))) u c r u d)
    → IsRow ts t form vs None v c r v d
unfolding form_of
throw-row ts t form vs v c d r h g =
    λ outer before. task-row ts t form vs None ops.Throw (forms.Throw form.info) outer v v c d before r h refl refl
    (g ts v t (redex form vs None) before)

breaks_does : (ts : List (List ℕ)) (t : NodeTable) (e : Wide) (s : State)
    → Does ts t e (leave breaks) s reduced.Breaks s
unfolding reduced_move reduced_term performed
breaks_does ts t e s = refl

continues_does : (ts : List (List ℕ)) (t : NodeTable) (e : Wide) (s : State)
    → Does ts t e (leave continues) s reduced.Continues s
unfolding reduced_move reduced_term performed
continues_does ts t e s = refl

pub break-row : (ts : List (List ℕ)) (t : NodeTable) (form : Redex) (vs : List Value) (v : World) (c : Context)
    → form.op ≡ ops.Break
    → IsRow ts t form vs None v c reduced.Breaks v c
unfolding form_of
break-row ts t form vs v c h =
    λ outer before. task-row ts t form vs None ops.Break forms.Break outer v v c c before reduced.Breaks h refl refl
    (breaks_does ts t (redex form vs None) (state_of v c before))

pub continue-row : (ts : List (List ℕ)) (t : NodeTable) (form : Redex) (vs : List Value) (v : World) (c : Context)
    → form.op ≡ ops.Continue
    → IsRow ts t form vs None v c reduced.Continues v c
unfolding form_of
continue-row ts t form vs v c h =
    λ outer before. task-row ts t form vs None ops.Continue forms.Continue outer v v c c before reduced.Continues h refl
    refl
    (continues_does ts t (redex form vs None) (state_of v c before))

pub frame-row : (ts : List (List ℕ)) (t : NodeTable) (form : Redex) (vs : List Value) (v : World) (c d : Context)
    (r : Reduced)
    → form.op ≡ ops.Frame →
    ((us : List (List ℕ)) (u : World) → ActsAnywhere us (λ s. pop_frame (give values.Undefined)) u c r u d)
    → IsRow ts t form vs None v c r v d
frame-row ts t form vs v c d r h g =
    λ outer before. scope-row ts t form vs None ops.Frame (forms.Frame form.info form.inner)
    outer v v c d before r h refl (g ts v t (redex form vs None) before)

-- ---- a `finally` that ran

resumes_does : (ts : List (List ℕ)) (t : NodeTable) (form : Redex) (vs : List Value) (k : Completion) (s : State)
    → Does ts t (redex form vs (Some (extras.Kept k))) (leave k) s reduced.Resumes s
unfolding reduced_move reduced_term performed
resumes_does ts t form vs k s = refl

pub resumed-row : (ts : List (List ℕ)) (t : NodeTable) (form : Redex) (vs : List Value) (k : Completion) (v : World)
    (c : Context)
    → form.op ≡ ops.Ending
    → IsRow ts t form vs (Some (extras.Kept k)) v c reduced.Resumes v c
resumed-row ts t form vs k v c h = λ outer before.
    task-row ts t form vs (Some (extras.Kept k)) ops.Ending (forms.Ending (Some k))
    outer v v c c before reduced.Resumes h refl refl (resumes_does ts t form vs k (state_of v c before))

pub ended-row : (ts : List (List ℕ)) (t : NodeTable) (form : Redex) (vs : List Value) (x : Option Extra) (v : World)
    (c : Context)
    → form.op ≡ ops.Ending
    → kept_of x ≡ None
    → IsRow ts t form vs x v c (reduced.Gives values.Undefined) v c
ended-row ts t form vs x v c h e = λ outer before.
    task-row ts t form vs x ops.Ending (forms.Ending None) outer v v c c before (reduced.Gives values.Undefined) h
    (ap (λ k. forms.Ending k) e) refl (give-does ts t (redex form vs x) values.Undefined (state_of v c before))

-- ---- forms that have no row of their own

last-row : (ts : List (List ℕ)) (t : NodeTable) (form : Redex) (vs : List Value) (x : Option Extra) (o : Op) (f : Form)
    (v : World) (c : Context) (r : Reduced)
    → form.op ≡ o
    → form_in ts t o form.info form.inner x ≡ f →
    ((outer : Addr) (before : List (List ℕ))
    → row (program_of ts t) (state_of v c before) outer f vs (later_of ts t (redex form vs x)) ≡ give (last_of vs))
    →
    ((us : List (List ℕ)) (u : World) (d : Context) → ActsAnywhere us (λ s. give (last_of vs)) u d r u d)
    → IsRow ts t form vs x v c r v c
last-row ts t form vs x o f v c r h i l g = λ outer before.
    let P : Action → Type 0 = λ y. Does ts t (redex form vs x) y (state_of v c before) r (state_of v c before) in
    scope-row ts t form vs x o f outer v v c c before r h i
    (subst P (sym (l outer before)) (g ts v c t (redex form vs x) before))

pub scripts-row : (ts : List (List ℕ)) (t : NodeTable) (form : Redex) (vs : List Value) (v : World) (c : Context)
    (r : Reduced)
    → form.op ≡ ops.Scripts →
    ((us : List (List ℕ)) (u : World) (d : Context) → ActsAnywhere us (λ s. give (last_of vs)) u d r u d)
    → IsRow ts t form vs None v c r v c
unfolding form_of
scripts-row ts t form vs v c r h g =
    last-row ts t form vs None ops.Scripts forms.Scripts v c r h refl (λ outer before. refl) g

pub sequence-row : (ts : List (List ℕ)) (t : NodeTable) (form : Redex) (vs : List Value) (v : World) (c : Context)
    (r : Reduced)
    → form.op ≡ ops.Sequence →
    ((us : List (List ℕ)) (u : World) (d : Context) → ActsAnywhere us (λ s. give (last_of vs)) u d r u d)
    → IsRow ts t form vs None v c r v c
unfolding form_of
sequence-row ts t form vs v c r h g =
    last-row ts t form vs None ops.Sequence forms.Sequence v c r h refl (λ outer before. refl) g

pub scoped-row : (ts : List (List ℕ)) (t : NodeTable) (form : Redex) (vs : List Value) (v : World) (c : Context)
    (r : Reduced)
    → form.op ≡ ops.Scoped →
    ((us : List (List ℕ)) (u : World) (d : Context) → ActsAnywhere us (λ s. give (last_of vs)) u d r u d)
    → IsRow ts t form vs None v c r v c
scoped-row ts t form vs v c r h g =
    last-row ts t form vs None ops.Scoped (forms.Scoped form.inner) v c r h refl (λ outer before. refl) g

pub catching-row : (ts : List (List ℕ)) (t : NodeTable) (form : Redex) (vs : List Value) (v : World) (c : Context)
    (r : Reduced)
    → form.op ≡ ops.Catching →
    ((us : List (List ℕ)) (u : World) (d : Context) → ActsAnywhere us (λ s. give (last_of vs)) u d r u d)
    → IsRow ts t form vs None v c r v c
unfolding form_of
catching-row ts t form vs v c r h g =
    last-row ts t form vs None ops.Catching (forms.Catching None) v c r h refl (λ outer before. refl) g

pub catching-name-row : (ts : List (List ℕ)) (t : NodeTable) (form : Redex) (vs : List Value) (v : World) (c : Context)
    (r : Reduced)
    → form.op ≡ ops.CatchingName →
    ((us : List (List ℕ)) (u : World) (d : Context) → ActsAnywhere us (λ s. give (last_of vs)) u d r u d)
    → IsRow ts t form vs None v c r v c
unfolding form_of
catching-name-row ts t form vs v c r h g =
    last-row ts t form vs None ops.CatchingName (forms.Catching (Some (name_of ts form.info))) v c r h refl
    (λ outer before. refl) g

pub finishing-row : (ts : List (List ℕ)) (t : NodeTable) (form : Redex) (vs : List Value) (v : World) (c : Context)
    (r : Reduced)
    → form.op ≡ ops.Finishing →
    ((us : List (List ℕ)) (u : World) (d : Context) → ActsAnywhere us (λ s. give (last_of vs)) u d r u d)
    → IsRow ts t form vs None v c r v c
unfolding form_of
finishing-row ts t form vs v c r h g =
    last-row ts t form vs None ops.Finishing forms.Finishing v c r h refl (λ outer before. refl) g

-- a turn of a `for .. of` that is done
pub body-of-row : (ts : List (List ℕ)) (t : NodeTable) (form : Redex) (vs : List Value) (x : Option Extra)
    (entry : ForOfEntry) (v : World) (c : Context) (r : Reduced)
    → form.op ≡ ops.BodyOf
    → Some entry ≡ slice_get t.for_ofs.items form.info →
    ((us : List (List ℕ)) (u : World) (d : Context) → ActsAnywhere us (λ s. give (last_of vs)) u d r u d)
    → IsRow ts t form vs x v c r v c
body-of-row ts t form vs x entry v c r h e g =
    last-row ts t form vs x ops.BodyOf (forms.BodyOf (binding_at ts entry.slot) (index_of x)) v c r h
    (ap (λ y. body_form ts y (index_of x)) (sym e)) (λ outer before. refl) g
