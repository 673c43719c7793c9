-- What follows a row's answer.
use Rattle.std.proofs.Common.{◌≡◌, ℕ, List, [], ◌∷◌, ◌++◌, refl, ap, sym, ◌∙◌, subst, None, Option, Some, Bool, true, false, if◌then◌else◌, ◌+◌, ◌<◌, ◌&&◌, slice_get, arith}
use Rattle.js_heap.specs.declared.value.Addr.{Addr}
use Rattle.js_machine_nodes.specs.declared.op.Op.TheVariants as ops
use Rattle.js_machine_nodes.specs.declared.table.NodeTable.{NodeTable}
use Rattle.js_semantics.specs.declared.form.Form.{Form}
use Rattle.js_semantics.specs.declared.form.Form.TheVariants.{Frame as frame, Scoped as scoped, Loop as loop, Comma as comma}
use Rattle.js_semantics.specs.declared.form.Stage.TheVariants.{First as first}
use Rattle.js_semantics.specs.Rows.{for_in, body_part}
use Rattle.js_semantics.specs.Terms.{Term, Terms, done, part, end, more, one, joined, dones, is_done, all_done, finished, settled, settle, at_test, at_update, at_body}
use Rattle.js_machine_nodes.specs.Trees.{tree, trees, terms, IsTable}
use Rattle.js_machine_nodes.proofs.TreeLemmas.{kids-some, kids-end, tree-at}
use Rattle.js_machine_engine.specs.Gaps.{plugged, resettled}
use Rattle.js_machine_engine.specs.Tasks.{Wide, form_in, gaps_of, task_form, later_of, with_list, kept_from, index_of, turn_scope, InScopes}
use Rattle.js_heap.specs.declared.value.Value.{Value}
use Rattle.js_machine_nodes.specs.declared.op.Op.{Op}
use Rattle.js_machine_nodes.specs.declared.node.ForOfEntry.{ForOfEntry}
use Rattle.js_machine_nodes.specs.Forms.{form_of, members_at, object_form, call_form, list_form, turn_form, body_form}
use Rattle.js_machine_engine.specs.declared.task.Extra.TheVariants as extras
use Rattle.js_machine_engine.specs.declared.task.Point.TheVariants as points
use Rattle.js_machine_engine.specs.Points.{row_term, term_at}
use Rattle.js_machine_engine.specs.declared.task.Task.{Task}
use Rattle.js_machine_engine.specs.declared.reduced.Reduced.TheVariants as answers
use Rattle.js_tree_operators.specs.declared.operator.BinaryOperator.{BinaryOperator}
use Rattle.js_machine_engine.specs.declared.task.Extra.{Extra}
use Rattle.js_machine_engine.specs.declared.closing.Next.{Next}
use Rattle.js_machine_engine.specs.Settling.{proceeding, looped, IsInnermost, Comes, ComesIn}
use Rattle.js_machine_engine.proofs.DescentLemmas.{comes-in}
use Rattle.js_machine_nodes.specs.Ops.{is_literal, is_loop}
use Rattle.js_machine_nodes.specs.declared.node.Node.{Node}
use Rattle.js_machine_engine.proofs.PartLemmas.{joined-value}
use Rattle.js_machine_engine.specs.Following.{innermost, HasTurn, RestsAt, IsCallOf, IsCompound, Compounds}
use Rattle.js_machine_engine.proofs.GapLemmas.{plugged-resettled}
use Rattle.js_machine_engine.proofs.ScopeLemmas.{has_scope, scopes-same, scopes-own, scopes-plain}
use Rattle.js_machine_engine.specs.Stacks.{has_extra, OwnsOnly, begun, outer_of, values_of, extra_of, wide, with_value, without_values, changed, turned, turned_extra, owning}
use Rattle.js_machine_engine.specs.Answers.{in_scope, head_of, rest_of, own_scope, now_of, added, listed, assigning, operating, assigned, called, this_of_call, reduced_term}
use Rattle.js_machine_engine.proofs.StageLemmas.{outer_scopes}

-- ---- scopes

-- the innermost task is gone
pub scopes-popped : (t : NodeTable) (root : Addr) (ws us : List Wide)
    → us ≡ outer_of ws
    → InScopes t root ws
    → InScopes t root us
scopes-popped t root ws us e h =
    let Q : List Wide → Type 0 = InScopes t root in subst Q (sym e) (outer_scopes t root ws h)

-- and one with a scope of its own is there in its place
pub scopes-replaced : (t : NodeTable) (root : Addr) (w : Wide) (ws us xs : List Wide)
    → has_scope w.op w.info ≡ true
    → us ≡ outer_of ws
    → xs ≡ w ∷ us
    → InScopes t root ws
    → InScopes t root xs
scopes-replaced t root w ws us xs o e g h =
    let Q : List Wide → Type 0 = InScopes t root in
    subst Q (sym (g ∙ ap (λ ys. w ∷ ys) e)) (scopes-own t root w (outer_of ws) o (outer_scopes t root ws h))

-- ---- forms around a part

-- a part in a scope of its own
pub scoped-resettled : (ts : List (List ℕ)) (t : NodeTable) (ws : List Wide) (a : Addr) (u : Term)
    → resettled (gaps_of ts t (begun ops.Scoped 0 0 0 0 a None ∷ ws)) u ≡ resettled (gaps_of ts t ws) (in_scope a u)
unfolding task_form
scoped-resettled ts t ws a u = refl

-- ---- forms that wait for their row

same_if : {A : Type 0} (b : Bool) (x y : A) → x ≡ y → (if b then x else y) ≡ y
same_if true x y h = h
same_if false x y h = refl

-- what isn't finished with all its parts waits
pub waits-settled : (f : Form) (now later : Terms)
    → finished f now later ≡ part f now later
    → settled f now later ≡ part f now later
waits-settled f now later h = same_if (all_done now) (finished f now later) (part f now later) h

-- a body in its frame
pub frame-resettled : (ts : List (List ℕ)) (t : NodeTable) (ws : List Wide) (function : ℕ) (a : Addr) (u : Term)
    → resettled (gaps_of ts t (begun ops.Frame function 0 0 0 a None ∷ ws)) u ≡ resettled (gaps_of ts t ws)
    (part (frame function a) (one u) end)
unfolding task_form
frame-resettled ts t ws function a u =
    ap (resettled (gaps_of ts t ws)) (waits-settled (frame function a) (one u) end refl)

-- ---- kept parts

pub trees-first : (ts : List (List ℕ)) (t : NodeTable) (at last k : ℕ)
    → at < last
    → slice_get t.kids.items at ≡ Some k
    → trees ts t at last ≡ more (tree ts t k) (trees ts t (at + 1) last)
trees-first ts t at last k h e = ap (terms (tree ts t)) (kids-some t at last k h e)

pub trees-none : (ts : List (List ℕ)) (t : NodeTable) (at : ℕ) → trees ts t at at ≡ end
trees-none ts t at = ap (terms (tree ts t)) (kids-end t at at (omega arith))

-- ---- the innermost task

-- a task that owns nothing
pub alone : (old : List Wide) (task : Task)
    → old ≡ wide task (values_of old) (extra_of old) ∷ outer_of old
    → OwnsOnly old
    → has_extra task.op task.info ≡ false
    → extra_of old ≡ None
alone [] task h own n = cc
alone (w ∷ ws) task h own n = own (ap (λ x. has_extra x.op x.info) (ap innermost h) ∙ n)

later-plain : (ts : List (List ℕ)) (t : NodeTable) (w : Wide)
    → w.extra ≡ None
    → later_of ts t w ≡ trees ts t w.mid w.end
later-plain ts t w h = ap (λ e. with_list e (trees ts t (kept_from e w.mid) w.end)) h

-- ---- calls

-- a call with the fields of a task
abbrev begun_call_by : Wide → List Wide → Wide → Value → Value → List Wide
begun_call_by w ws x this callee =
    with_value callee (with_value this (changed ops.Call x.info x.mid x.end (without_values (w ∷ ws))))

abbrev begun_call : Wide → List Wide → Value → Value → List Wide
begun_call w ws this callee =
    with_value callee (with_value this (changed ops.Call w.info w.mid w.end (without_values (w ∷ ws))))

call_base : (ts : List (List ℕ)) (t : NodeTable) (w : Wide) (ws : List Wide) (callee : Value)
    → w.extra ≡ None
    → resettled (gaps_of ts t ws) (called ts t w callee) ≡ proceeding ts t
    (begun_call w ws (this_of_call w.op w.values) callee)
unfolding task_form form_of
call_base ts t w ws callee e =
    plugged-resettled (gaps_of ts t ws) (called ts t w callee) refl
    ∙ ap (λ x. plugged (gaps_of ts t ws)
    (part (call_form (slice_get t.calls.items w.info))
    (more (done (this_of_call w.op w.values)) (more (done callee) x)) end))
    (later-plain ts t w e)
    ∙ ap (λ x. plugged (gaps_of ts t ws)
    (part (call_form (slice_get t.calls.items w.info))
    (more (done (this_of_call w.op w.values)) (more (done callee) (trees ts t w.mid w.end))) x))
    (sym (ap (λ y. with_list y (trees ts t (kept_from y w.end) w.end)) e ∙ trees-none ts t w.end))

pub call-follows : (ts : List (List ℕ)) (t : NodeTable) (old new : List Wide) (task : Task) (this callee : Value)
    → old ≡ wide task (values_of old) (extra_of old) ∷ outer_of old
    → extra_of old ≡ None
    → this ≡ this_of_call task.op (values_of old)
    → new ≡ with_value callee (with_value this (changed ops.Call task.info task.mid task.end (without_values old)))
    → resettled (gaps_of ts t (outer_of old)) (reduced_term ts t (innermost old) (answers.Calls callee))
    ≡ proceeding ts t new
unfolding reduced_term
call-follows ts t [] new task this callee h e q n = cc
call-follows ts t (w ∷ ws) new task this callee h e q n =
    let p : wide task w.values w.extra ≡ w = sym (ap innermost h) in
    let q : this ≡ this_of_call w.op w.values = q ∙ ap (λ x. this_of_call x.op w.values) p in
    call_base ts t w ws callee e
    ∙ ap (λ x. proceeding ts t (begun_call w ws x callee)) (sym q)
    ∙ ap (proceeding ts t) (sym (n ∙ ap (λ x. begun_call_by w ws x this callee) p))

call_plain : (op : Op) (info : ℕ) → IsCallOf op → has_scope op info ≡ false
call_plain ops.CallOfName info h = refl
call_plain ops.CallOfMember info h = refl
call_plain ops.CallOfIndex info h = refl
call_plain op info h = absurd h

pub call-owns : (op : Op) (info : ℕ) → IsCallOf op → has_extra op info ≡ false
call-owns ops.CallOfName info h = refl
call-owns ops.CallOfMember info h = refl
call-owns ops.CallOfIndex info h = refl
call-owns op info h = absurd h

pub call-scopes : (t : NodeTable) (old new : List Wide) (task : Task) (this callee : Value)
    → IsCallOf task.op
    → old ≡ wide task (values_of old) (extra_of old) ∷ outer_of old
    → new ≡ with_value callee (with_value this (changed ops.Call task.info task.mid task.end (without_values old)))
    → (root : Addr)
    → InScopes t root old
    → InScopes t root new
call-scopes t [] new task this callee o h n = cc
call-scopes t (w ∷ ws) new task this callee o h n =
    let p : wide task w.values w.extra ≡ w = sym (ap innermost h) in
    let e : new ≡ begun_call w ws this callee = n ∙ ap (λ x. begun_call_by w ws x this callee) p in
    let P : Op → Type 0 = IsCallOf in
    λ root k. let Q : List Wide → Type 0 = InScopes t root in
    subst Q (sym e)
    (scopes-same t root w (innermost (begun_call w ws this callee)) ws
    (call_plain w.op w.info (subst P (ap (λ x. x.op) p) o)) refl refl k)

-- ---- compound assignments

abbrev begun_operation_by : Wide → List Wide → Wide → Op → BinaryOperator → Value → List Wide
begun_operation_by w ws x a o v =
    with_value v
    (begun (ops.Binary o) x.info x.mid (x.mid + 1) (x.mid + 1) x.inner None ∷ changed a x.info x.end x.end (w ∷ ws))

abbrev begun_operation : Wide → List Wide → Op → BinaryOperator → Value → List Wide
begun_operation w ws a o v = begun_operation_by w ws w a o v

assigning_form : (ts : List (List ℕ)) (t : NodeTable) (op : Op) (info : ℕ) (inner : Addr) (e : Option Extra)
    → IsCompound op
    → form_in ts t (assigning op) info inner e ≡ form_of ts t (assigning op) info
assigning_form ts t (ops.CompoundName o) info inner e h = refl
assigning_form ts t (ops.CompoundMember o) info inner e h = refl
assigning_form ts t (ops.CompoundIndex o) info inner e h = refl
assigning_form ts t op info inner e h = absurd h

trees_one : (ts : List (List ℕ)) (t : NodeTable) (at k : ℕ)
    → slice_get t.kids.items at ≡ Some k
    → trees ts t at (at + 1) ≡ one (tree ts t k)
trees_one ts t at k e =
    trees-first ts t at (at + 1) k (omega arith) e ∙ ap (more (tree ts t k)) (trees-none ts t (at + 1))

abbrev operation_of : List (List ℕ) → NodeTable → Wide → Value → ℕ → Term
operation_of ts t w v k = part (form_of ts t (operating w.op) w.info) (more (done v) (one (tree ts t k))) end

operation_base : (ts : List (List ℕ)) (t : NodeTable) (w : Wide) (ws : List Wide) (v : Value) (k : ℕ)
    (o : BinaryOperator)
    → w.extra ≡ None
    → IsCompound w.op
    → ops.Binary o ≡ operating w.op
    → w.mid < w.end
    → slice_get t.kids.items w.mid ≡ Some k
    → resettled (gaps_of ts t ws) (assigned ts t w v) ≡ proceeding ts t (begun_operation w ws (assigning w.op) o v)
unfolding task_form form_of
operation_base ts t w ws v k o e c p b g =
    let first : head_of (later_of ts t w) ≡ tree ts t k = ap head_of
    (later-plain ts t w e ∙ trees-first ts t w.mid w.end k b g) in
    let behind : trees ts t w.end w.end ≡ end = trees-none ts t w.end in
    let later : with_list w.extra (trees ts t (kept_from w.extra w.end) w.end) ≡ end = ap
    (λ y. with_list y (trees ts t (kept_from y w.end) w.end)) e
    ∙ behind in
    let F : Form
    → Term
    → Terms
    → Terms
    → Term = λ f x after last. part f (joined (dones w.values) (more x after)) last in
    let X : Term = part (form_of ts t (ops.Binary o) w.info) (more (done v) (trees ts t w.mid (w.mid + 1)))
    (trees ts t (w.mid + 1) (w.mid + 1)) in
    plugged-resettled (gaps_of ts t ws) (assigned ts t w v) refl
    ∙ ap (plugged (gaps_of ts t ws)) (
    ap (λ x. F (form_of ts t (assigning w.op) w.info)
    (part (form_of ts t (operating w.op) w.info) (more (done v) (one x)) end) end end)
    first
    ∙ ap (λ f. F f (operation_of ts t w v k) end end) (sym (assigning_form ts t w.op w.info w.inner w.extra c))
    ∙ ap (λ x. F (form_in ts t (assigning w.op) w.info w.inner w.extra) x end end)
    (ap (λ q. part (form_of ts t q w.info) (more (done v) (one (tree ts t k))) end) (sym p)
    ∙ ap (λ x. part (form_of ts t (ops.Binary o) w.info) (more (done v) x) end) (sym (trees_one ts t w.mid k g))
    ∙ ap (λ x. part (form_of ts t (ops.Binary o) w.info) (more (done v) (trees ts t w.mid (w.mid + 1))) x)
    (sym (trees-none ts t (w.mid + 1))))
    ∙ ap (λ x. F (form_in ts t (assigning w.op) w.info w.inner w.extra) X x end) (sym behind)
    ∙ ap (λ x. F (form_in ts t (assigning w.op) w.info w.inner w.extra) X (trees ts t w.end w.end) x) (sym later))

pub operand-follows : (ts : List (List ℕ)) (t : NodeTable) (old new : List Wide) (task : Task) (a : Op)
    (o : BinaryOperator) (v : Value) (k : ℕ)
    → old ≡ wide task (values_of old) (extra_of old) ∷ outer_of old
    → extra_of old ≡ None
    → Compounds task.op a o
    → task.mid < task.end
    → slice_get t.kids.items task.mid ≡ Some k
    → new ≡ with_value v
    (begun (ops.Binary o) task.info task.mid (task.mid + 1) (task.mid + 1)
    task.inner None ∷ changed a task.info task.end task.end old)
    → resettled (gaps_of ts t (outer_of old)) (reduced_term ts t (innermost old) (answers.Assigns v))
    ≡ proceeding ts t new
unfolding reduced_term
operand-follows ts t [] new task a o v k h e c b g n = cc
operand-follows ts t (w ∷ ws) new task a o v k h e c b g n =
    let p : wide task w.values w.extra ≡ w = sym (ap innermost h) in
    let P : Wide → Type 0 = λ x. IsCompound x.op in
    let B : Wide → Type 0 = λ x. x.mid < x.end in
    operation_base ts t w ws v k o e (subst P p c.2) (c.1 ∙ ap (λ x. operating x.op) p) (subst B p b)
    (ap (λ x. slice_get t.kids.items x.mid) (sym p) ∙ g)
    ∙ ap (λ x. proceeding ts t (begun_operation w ws x o v)) (sym (c.0 ∙ ap (λ x. assigning x.op) p))
    ∙ ap (proceeding ts t) (sym (n ∙ ap (λ x. begun_operation_by w ws x a o v) p))

compound_plain : (op : Op) (info : ℕ) → IsCompound op → has_scope op info ≡ false
compound_plain (ops.CompoundName o) info h = refl
compound_plain (ops.CompoundMember o) info h = refl
compound_plain (ops.CompoundIndex o) info h = refl
compound_plain op info h = absurd h

assigning_plain : (op : Op) (info : ℕ) → IsCompound op → has_scope (assigning op) info ≡ false
assigning_plain (ops.CompoundName o) info h = refl
assigning_plain (ops.CompoundMember o) info h = refl
assigning_plain (ops.CompoundIndex o) info h = refl
assigning_plain op info h = absurd h

pub compound-owns : (op : Op) (info : ℕ) → IsCompound op → has_extra op info ≡ false
compound-owns (ops.CompoundName o) info h = refl
compound-owns (ops.CompoundMember o) info h = refl
compound-owns (ops.CompoundIndex o) info h = refl
compound-owns op info h = absurd h

pub operand-scopes : (t : NodeTable) (old new : List Wide) (task : Task) (a : Op) (o : BinaryOperator) (v : Value)
    → old ≡ wide task (values_of old) (extra_of old) ∷ outer_of old
    → Compounds task.op a o
    → new ≡ with_value v
    (begun (ops.Binary o) task.info task.mid (task.mid + 1) (task.mid + 1)
    task.inner None ∷ changed a task.info task.end task.end old)
    → (root : Addr)
    → InScopes t root old
    → InScopes t root new
operand-scopes t [] new task a o v h c n = cc
operand-scopes t (w ∷ ws) new task a o v h c n =
    let p : wide task w.values w.extra ≡ w = sym (ap innermost h) in
    let e : new ≡ begun_operation w ws (assigning w.op) o v = n
    ∙ ap (λ x. begun_operation_by w ws x a o v) p
    ∙ ap (λ x. begun_operation w ws x o v) (c.0 ∙ ap (λ x. assigning x.op) p) in
    let P : Wide → Type 0 = λ x. IsCompound x.op in
    let i : IsCompound w.op = subst P p c.2 in
    let a' : Wide = record w { op = assigning w.op; at = w.end; mid = w.end } in
    λ root k. let Q : List Wide → Type 0 = InScopes t root in
    subst Q (sym e)
    (scopes-plain t root (innermost (begun_operation w ws (assigning w.op) o v)) (a' ∷ ws) refl refl
    (scopes-same t root w a' ws (compound_plain w.op w.info i) (assigning_plain w.op w.info i) refl k))

-- ---- a task that does one thing: with its first kept part and the others

-- the innermost task does this, owns nothing, and this node is its first kept part
pub record Begins (t : NodeTable) (w : Wide) (does : Op) (k : ℕ) : Type 0 where
  pub op : w.op ≡ does
  pub extra : w.extra ≡ None
  pub before : w.mid < w.end
  pub part : slice_get t.kids.items w.mid ≡ Some k

begins_at : (t : NodeTable) (w x : Wide) (op : Op) (k : ℕ)
    → x ≡ w
    → x.op ≡ op
    → (has_extra w.op w.info ≡ false → w.extra ≡ None)
    → ((info : ℕ) → has_extra op info ≡ false)
    → x.mid < x.end
    → slice_get t.kids.items x.mid ≡ Some k
    → Begins t w op k
begins_at t w x op k p o e n b g =
    let q : w.op ≡ op = ap (λ y. y.op) (sym p) ∙ o in
    let B : Wide → Type 0 = λ y. y.mid < y.end in record {
      op = q;
      extra = e (ap (λ y. has_extra y w.info) q ∙ n w.info);
      before = subst B p b;
      part = ap (λ y. slice_get t.kids.items y.mid) (sym p) ∙ g;
    }

later_first : (ts : List (List ℕ)) (t : NodeTable) (w : Wide) (op : Op) (k : ℕ)
    → Begins t w op k
    → later_of ts t w ≡ more (tree ts t k) (trees ts t (w.mid + 1) w.end)
later_first ts t w op k b = later-plain ts t w b.extra ∙ trees-first ts t w.mid w.end k b.before b.part

-- ---- a `for` with names

loop_open : (b : Bool) (scope : Option Addr) (now later : Terms)
    → is_done (if b then finished (loop first scope) now later else part (loop first scope) now later) ≡ false
loop_open true None now later = refl
loop_open true (Some a) now later = refl
loop_open false scope now later = refl

in_scope_open : (a : Addr) (x : Term) → is_done x ≡ false → in_scope a x ≡ part (scoped a) (one x) end
in_scope_open a x h =
    ap (λ b. if b then finished (scoped a) (one x) end else part (scoped a) (one x) end) (ap (λ b. b && true) h)

abbrev constants_tasks : Wide → List Wide → Addr → List Wide
constants_tasks x ws a =
    begun ops.LoopFirst 0 (x.mid + 1) (x.mid + 1) x.end a None ∷ begun ops.Scoped 0 0 0 0 a None ∷ ws

constants_base : (ts : List (List ℕ)) (t : NodeTable) (w : Wide) (ws : List Wide) (a : Addr) (k : ℕ) (op : Op)
    → Begins t w op k
    → resettled (gaps_of ts t ws) (for_in true a (later_of ts t w)) ≡ resettled (gaps_of ts t (constants_tasks w ws a))
    (settle (tree ts t k))
unfolding task_form
constants_base ts t w ws a k op b =
    let rest : Terms = trees ts t (w.mid + 1) w.end in
    let X : Term = settled (loop first None) (one (settle (tree ts t k))) rest in
    ap (λ x. resettled (gaps_of ts t ws) (for_in true a x)) (later_first ts t w op k b)
    ∙ ap (resettled (gaps_of ts t ws))
    (sym (in_scope_open a X
    (loop_open (all_done (one (settle (tree ts t k)))) None (one (settle (tree ts t k))) rest)))
    ∙ ap (λ x. resettled (gaps_of ts t ws)
    (in_scope a (settled (loop first None) (more (settle (tree ts t k)) x) rest)))
    (sym (trees-none ts t (w.mid + 1)))

abbrev variables_tasks : Wide → List Wide → Addr → List Wide
variables_tasks x ws a = begun ops.LoopFirst 1 (x.mid + 1) (x.mid + 1) x.end a None ∷ ws

variables_base : (ts : List (List ℕ)) (t : NodeTable) (w : Wide) (ws : List Wide) (a : Addr) (k : ℕ) (op : Op)
    → Begins t w op k
    → resettled (gaps_of ts t ws) (for_in false a (later_of ts t w)) ≡ resettled (gaps_of ts t (variables_tasks w ws a))
    (settle (tree ts t k))
unfolding task_form
variables_base ts t w ws a k op b =
    ap (λ x. resettled (gaps_of ts t ws) (for_in false a x)) (later_first ts t w op k b)
    ∙ ap (λ x. resettled (gaps_of ts t ws)
    (settled (loop first (Some a)) (more (settle (tree ts t k)) x) (trees ts t (w.mid + 1) w.end)))
    (sym (trees-none ts t (w.mid + 1)))

-- what the innermost task becomes, whose fields are those of a task that was read
pub record At (t : NodeTable) (old : List Wide) (task : Task) (does : Op) (k : ℕ) : Type 0 where
  pub is : old ≡ wide task (values_of old) (extra_of old) ∷ outer_of old
  pub op : task.op ≡ does
  pub owned : OwnsOnly old
  pub owns : (info : ℕ) → has_extra does info ≡ false
  pub before : task.mid < task.end
  pub part : slice_get t.kids.items task.mid ≡ Some k

at_begins : (t : NodeTable) (w : Wide) (ws : List Wide) (task : Task) (op : Op) (k : ℕ)
    → At t (w ∷ ws) task op k
    → Begins t w op k
at_begins t w ws task op k h =
    begins_at t w (wide task w.values w.extra) op k (sym (ap innermost h.is)) h.op h.owned h.owns h.before h.part

same_task : (w : Wide) (ws : List Wide) (task : Task)
    → w ∷ ws ≡ wide task w.values w.extra ∷ ws
    → wide task w.values w.extra ≡ w
same_task w ws task h = sym (ap innermost h)

pub owns-nothing : (old : List Wide) (task : Task) (op : Op)
    → old ≡ wide task (values_of old) (extra_of old) ∷ outer_of old
    → task.op ≡ op
    → OwnsOnly old
    → ((info : ℕ) → has_extra op info ≡ false)
    → extra_of old ≡ None
owns-nothing [] task op h o own n = cc
owns-nothing (w ∷ ws) task op h o own n =
    let q : w.op ≡ op = ap (λ y. y.op) (sym (same_task w ws task h)) ∙ o in
    own (ap (λ y. has_extra y w.info) q ∙ n w.info)

pub constants-follow : (ts : List (List ℕ)) (t : NodeTable) (old us vs new : List Wide) (task : Task) (op : Op)
    (a : Addr) (k : ℕ)
    → At t old task op k
    → us ≡ outer_of old
    → vs ≡ begun ops.Scoped 0 0 0 0 a None ∷ us
    → new ≡ begun ops.LoopFirst 0 (task.mid + 1) (task.mid + 1) task.end a None ∷ vs
    → resettled (gaps_of ts t (outer_of old)) (reduced_term ts t (innermost old) (answers.Initializes true a))
    ≡ resettled (gaps_of ts t new) (settle (tree ts t k))
unfolding reduced_term
constants-follow ts t [] us vs new task op a k h u v n = let e = h.is in cc
constants-follow ts t (w ∷ ws) us vs new task op a k h u v n =
    constants_base ts t w ws a k op (at_begins t w ws task op k h)
    ∙ ap (λ xs. resettled (gaps_of ts t xs) (settle (tree ts t k)))
    (sym (n
    ∙ ap (λ xs. begun ops.LoopFirst 0 (task.mid + 1) (task.mid + 1) task.end a None ∷ xs)
    (v ∙ ap (λ xs. begun ops.Scoped 0 0 0 0 a None ∷ xs) u)
    ∙ ap (λ x. constants_tasks x ws a) (same_task w ws task h.is)))

pub variables-follow : (ts : List (List ℕ)) (t : NodeTable) (old us new : List Wide) (task : Task) (op : Op) (a : Addr)
    (k : ℕ)
    → At t old task op k
    → us ≡ outer_of old
    → new ≡ begun ops.LoopFirst 1 (task.mid + 1) (task.mid + 1) task.end a None ∷ us
    → resettled (gaps_of ts t (outer_of old)) (reduced_term ts t (innermost old) (answers.Initializes false a))
    ≡ resettled (gaps_of ts t new) (settle (tree ts t k))
unfolding reduced_term
variables-follow ts t [] us new task op a k h u n = let e = h.is in cc
variables-follow ts t (w ∷ ws) us new task op a k h u n =
    variables_base ts t w ws a k op (at_begins t w ws task op k h)
    ∙ ap (λ xs. resettled (gaps_of ts t xs) (settle (tree ts t k)))
    (sym (n
    ∙ ap (λ xs. begun ops.LoopFirst 1 (task.mid + 1) (task.mid + 1) task.end a None ∷ xs) u
    ∙ ap (λ x. variables_tasks x ws a) (same_task w ws task h.is)))

pub constants-scopes : (t : NodeTable) (old us vs new : List Wide) (mid last : ℕ) (a : Addr)
    → us ≡ outer_of old
    → vs ≡ begun ops.Scoped 0 0 0 0 a None ∷ us
    → new ≡ begun ops.LoopFirst 0 mid mid last a None ∷ vs
    → (root : Addr)
    → InScopes t root old
    → InScopes t root new
constants-scopes t old us vs new mid last a u v n = λ root h.
    let Q : List Wide → Type 0 = InScopes t root in
    let ys : List Wide = begun ops.Scoped 0 0 0 0 a None ∷ outer_of old in
    subst Q (sym
    (n
    ∙ ap (λ xs. begun ops.LoopFirst 0 mid mid last a None ∷ xs)
    (v ∙ ap (λ xs. begun ops.Scoped 0 0 0 0 a None ∷ xs) u)))
    (scopes-plain t root (begun ops.LoopFirst 0 mid mid last a None) ys refl refl
    (scopes-own t root (begun ops.Scoped 0 0 0 0 a None) (outer_of old) refl (outer_scopes t root old h)))

pub variables-scopes : (t : NodeTable) (old us new : List Wide) (mid last : ℕ) (a : Addr)
    → us ≡ outer_of old
    → new ≡ begun ops.LoopFirst 1 mid mid last a None ∷ us
    → (root : Addr)
    → InScopes t root old
    → InScopes t root new
variables-scopes t old us new mid last a u n = λ root h.
    let Q : List Wide → Type 0 = InScopes t root in
    subst Q (sym (n ∙ ap (λ xs. begun ops.LoopFirst 1 mid mid last a None ∷ xs) u))
    (scopes-own t root (begun ops.LoopFirst 1 mid mid last a None) (outer_of old) refl (outer_scopes t root old h))

-- ---- a `for .. of`

list_waits : (ts : List (List ℕ)) (o : Option ForOfEntry) (now later : Terms)
    → settled (list_form ts o) now later ≡ part (list_form ts o) now later
list_waits ts (Some e) now later = waits-settled (list_form ts (Some e)) now later refl
list_waits ts None now later = waits-settled (list_form ts None) now later refl

abbrev list_tasks : Wide → List Wide → Addr → List Wide
list_tasks x ws a =
    begun ops.Scoped 0 0 0 0 a None ∷ begun ops.ListOf x.info (x.mid + 1) (x.mid + 1) x.end x.inner None ∷ ws

list_base : (ts : List (List ℕ)) (t : NodeTable) (w : Wide) (ws : List Wide) (a : Addr) (k : ℕ) (op : Op)
    → Begins t w op k
    → resettled (gaps_of ts t ws) (listed ts t w a) ≡ resettled (gaps_of ts t (list_tasks w ws a)) (tree ts t k)
unfolding task_form form_of
list_base ts t w ws a k op b =
    let o : Option ForOfEntry = slice_get t.for_ofs.items w.info in
    let rest : Terms = trees ts t (w.mid + 1) w.end in
    ap (λ x. resettled (gaps_of ts t ws) (part (list_form ts o) (one (in_scope a (head_of x))) (rest_of x)))
    (later_first ts t w op k b)
    ∙ ap (λ x. resettled (gaps_of ts t ws) (part (list_form ts o) (more (in_scope a (tree ts t k)) x) rest))
    (sym (trees-none ts t (w.mid + 1)))
    ∙ ap (resettled (gaps_of ts t ws))
    (sym (list_waits ts o (more (in_scope a (tree ts t k)) (trees ts t (w.mid + 1) (w.mid + 1))) rest))

pub list-follows : (ts : List (List ℕ)) (t : NodeTable) (old us vs new : List Wide) (task : Task) (op : Op) (a : Addr)
    (k : ℕ)
    → At t old task op k
    → us ≡ outer_of old
    → vs ≡ begun ops.ListOf task.info (task.mid + 1) (task.mid + 1) task.end task.inner None ∷ us
    → new ≡ begun ops.Scoped 0 0 0 0 a None ∷ vs
    → resettled (gaps_of ts t (outer_of old)) (reduced_term ts t (innermost old) (answers.Lists a)) ≡ resettled
    (gaps_of ts t new) (tree ts t k)
unfolding reduced_term
list-follows ts t [] us vs new task op a k h u v n = let e = h.is in cc
list-follows ts t (w ∷ ws) us vs new task op a k h u v n =
    list_base ts t w ws a k op (at_begins t w ws task op k h)
    ∙ ap (λ xs. resettled (gaps_of ts t xs) (tree ts t k))
    (sym (n
    ∙ ap (λ xs. begun ops.Scoped 0 0 0 0 a None ∷ xs)
    (v
    ∙ ap (λ xs. begun ops.ListOf task.info (task.mid + 1) (task.mid + 1)
    task.end task.inner None ∷ xs)
    u)
    ∙ ap (λ x. list_tasks x ws a) (same_task w ws task h.is)))

pub list-scopes : (t : NodeTable) (old us vs new : List Wide) (task : Task) (op : Op) (a : Addr) (mid last : ℕ)
    → old ≡ wide task (values_of old) (extra_of old) ∷ outer_of old
    → task.op ≡ op
    → ((info : ℕ) → has_scope op info ≡ false)
    → us ≡ outer_of old
    → vs ≡ begun ops.ListOf task.info mid mid last task.inner None ∷ us
    → new ≡ begun ops.Scoped 0 0 0 0 a None ∷ vs
    → (root : Addr)
    → InScopes t root old
    → InScopes t root new
list-scopes t [] us vs new task op a mid last h o p u v n = cc
list-scopes t (w ∷ ws) us vs new task op a mid last h o p u v n = λ root k.
    let e : wide task w.values w.extra ≡ w = same_task w ws task h in
    let x : Wide = begun ops.ListOf task.info mid mid last task.inner None in
    let plain : has_scope w.op w.info ≡ false = ap (λ y. has_scope y w.info) (ap (λ y. y.op) (sym e) ∙ o) ∙ p w.info in
    let Q : List Wide → Type 0 = InScopes t root in
    subst Q (sym (n ∙ ap (λ xs. begun ops.Scoped 0 0 0 0 a None ∷ xs) (v ∙ ap (λ xs. x ∷ xs) u)))
    (scopes-own t root (begun ops.Scoped 0 0 0 0 a None) (x ∷ ws) refl
    (scopes-same t root w x ws plain refl (ap (λ y. y.inner) e) k))

abbrev turn_task : Wide → Value → Wide
turn_task x v = begun ops.TurnOf x.info x.mid x.mid x.end x.inner (Some (extras.Turn v 0))

pub first-turn-follows : (ts : List (List ℕ)) (t : NodeTable) (old us new : List Wide) (task : Task) (v : Value)
    → old ≡ wide task (values_of old) (extra_of old) ∷ outer_of old
    → extra_of old ≡ None
    → us ≡ outer_of old
    → new ≡ begun ops.TurnOf task.info task.mid task.mid task.end task.inner (Some (extras.Turn v 0)) ∷ us
    → resettled (gaps_of ts t (outer_of old)) (reduced_term ts t (innermost old) (answers.Iterates v))
    ≡ term_at ts t new points.Row
unfolding reduced_term term_at task_form
first-turn-follows ts t [] us new task v h e u n = cc
first-turn-follows ts t (w ∷ ws) us new task v h e u n =
    plugged-resettled (gaps_of ts t ws)
    (part (turn_form ts (slice_get t.for_ofs.items w.info) 0) end (more (done v) (later_of ts t w))) refl
    ∙ ap (λ x. plugged (gaps_of ts t ws)
    (part (turn_form ts (slice_get t.for_ofs.items w.info) 0) end (more (done v) x)))
    (later-plain ts t w e)
    ∙ ap (row_term ts t)
    (sym (n
    ∙ ap (λ xs. begun ops.TurnOf task.info task.mid task.mid task.end task.inner (Some (extras.Turn v 0))
    ∷ xs)
    u
    ∙ ap (λ x. turn_task x v ∷ ws) (same_task w ws task h)))

pub first-turn-scopes : (t : NodeTable) (old us new : List Wide) (task : Task) (op : Op) (v : Value)
    → old ≡ wide task (values_of old) (extra_of old) ∷ outer_of old
    → task.op ≡ op
    → ((info : ℕ) → has_scope op info ≡ false)
    → us ≡ outer_of old
    → new ≡ begun ops.TurnOf task.info task.mid task.mid task.end task.inner (Some (extras.Turn v 0)) ∷ us
    → (root : Addr)
    → InScopes t root old
    → InScopes t root new
first-turn-scopes t [] us new task op v h o p u n = cc
first-turn-scopes t (w ∷ ws) us new task op v h o p u n = λ root k.
    let e : wide task w.values w.extra ≡ w = same_task w ws task h in
    let x : Wide = begun ops.TurnOf task.info task.mid task.mid task.end task.inner (Some (extras.Turn v 0)) in
    let plain : has_scope w.op w.info ≡ false = ap (λ y. has_scope y w.info) (ap (λ y. y.op) (sym e) ∙ o) ∙ p w.info in
    let Q : List Wide → Type 0 = InScopes t root in
    subst Q (sym (n ∙ ap (λ xs. x ∷ xs) u)) (scopes-same t root w x ws plain refl (ap (λ y. y.inner) e) k)

-- ---- a comma list

abbrev comma_tasks : Wide → Wide → List Wide → List Wide
comma_tasks x w ws = changed ops.Comma x.info (x.mid + 1) (x.mid + 1) (without_values (w ∷ ws))

comma_base : (ts : List (List ℕ)) (t : NodeTable) (w : Wide) (ws : List Wide) (k : ℕ) (op : Op)
    → Begins t w op k
    → resettled (gaps_of ts t ws) (part comma (one (head_of (later_of ts t w))) (rest_of (later_of ts t w))) ≡ resettled
    (gaps_of ts t (comma_tasks w w ws)) (tree ts t k)
unfolding task_form form_of
comma_base ts t w ws k op b =
    let rest : Terms = trees ts t (w.mid + 1) w.end in
    ap (λ x. resettled (gaps_of ts t ws) (part comma (one (head_of x)) (rest_of x))) (later_first ts t w op k b)
    ∙ ap (λ x. resettled (gaps_of ts t ws) (part comma (more (tree ts t k) x) rest)) (sym (trees-none ts t (w.mid + 1)))
    ∙ ap (λ x. resettled (gaps_of ts t ws) (part comma (more (tree ts t k) (trees ts t (w.mid + 1) (w.mid + 1))) x))
    (sym (ap (λ y. with_list y (trees ts t (kept_from y (w.mid + 1)) w.end)) b.extra))
    ∙ ap (resettled (gaps_of ts t ws))
    (sym (waits-settled comma (more (tree ts t k) (trees ts t (w.mid + 1) (w.mid + 1)))
    (with_list w.extra (trees ts t (kept_from w.extra (w.mid + 1)) w.end)) refl))

pub comma-follows : (ts : List (List ℕ)) (t : NodeTable) (old new : List Wide) (task : Task) (op : Op) (k : ℕ)
    → At t old task op k
    → new ≡ changed ops.Comma task.info (task.mid + 1) (task.mid + 1) (without_values old)
    → resettled (gaps_of ts t (outer_of old)) (reduced_term ts t (innermost old) answers.Commas) ≡ resettled
    (gaps_of ts t new) (tree ts t k)
unfolding reduced_term
comma-follows ts t [] new task op k h n = let e = h.is in cc
comma-follows ts t (w ∷ ws) new task op k h n =
    comma_base ts t w ws k op (at_begins t w ws task op k h)
    ∙ ap (λ xs. resettled (gaps_of ts t xs) (tree ts t k))
    (sym (n ∙ ap (λ x. comma_tasks x w ws) (same_task w ws task h.is)))

pub comma-scopes : (t : NodeTable) (old new : List Wide) (task : Task) (op : Op) (mid : ℕ)
    → old ≡ wide task (values_of old) (extra_of old) ∷ outer_of old
    → task.op ≡ op
    → ((info : ℕ) → has_scope op info ≡ false)
    → new ≡ changed ops.Comma task.info mid mid (without_values old)
    → (root : Addr)
    → InScopes t root old
    → InScopes t root new
comma-scopes t [] new task op mid h o p n = cc
comma-scopes t (w ∷ ws) new task op mid h o p n = λ root k.
    let e : wide task w.values w.extra ≡ w = same_task w ws task h in
    let x : Wide = record w { op = ops.Comma; info = task.info; at = mid; mid = mid; values = [] } in
    let plain : has_scope w.op w.info ≡ false = ap (λ y. has_scope y w.info) (ap (λ y. y.op) (sym e) ∙ o) ∙ p w.info in
    let Q : List Wide → Type 0 = InScopes t root in
    subst Q (sym n) (scopes-same t root w x ws plain refl refl k)

-- ---- a turn of a `for .. of`

abbrev iterated_by : List (List ℕ) → NodeTable → ℕ → ℕ → ℕ → Addr → Option Extra → Term
iterated_by ts t info mid last a e =
    settled (body_form ts (slice_get t.for_ofs.items info) (index_of e + 1))
    (one (in_scope a (body_part (with_list e (trees ts t (kept_from e mid) last)))))
    (with_list e (trees ts t (kept_from e mid) last))

abbrev turned_by : List (List ℕ) → NodeTable → ℕ → ℕ → ℕ → Term → Option Extra → Term
turned_by ts t info mid last x e =
    settled (body_form ts (slice_get t.for_ofs.items info) (index_of (turned_extra e))) (more x (trees ts t mid mid))
    (with_list (turned_extra e) (trees ts t (kept_from (turned_extra e) mid) last))

turned_same : (ts : List (List ℕ)) (t : NodeTable) (info mid last : ℕ) (a : Addr) (k : ℕ) (e : Option Extra)
    → HasTurn e
    → mid < last
    → slice_get t.kids.items mid ≡ Some k
    → iterated_by ts t info mid last a e ≡ turned_by ts t info mid last (in_scope a (tree ts t k)) e
turned_same ts t info mid last a k None h b g = absurd h
turned_same ts t info mid last a k (Some (extras.Kept c)) h b g = absurd h
turned_same ts t info mid last a k (Some (extras.Rest n)) h b g = absurd h
turned_same ts t info mid last a k (Some (extras.Turn list i)) h b g =
    let F : Form = body_form ts (slice_get t.for_ofs.items info) (i + 1) in
    let later : Terms = more (done list) (trees ts t mid last) in
    ap (λ x. settled F (one (in_scope a (body_part (more (done list) x)))) later) (trees-first ts t mid last k b g)
    ∙ ap (λ x. settled F (more (in_scope a (tree ts t k)) x) later) (sym (trees-none ts t mid))

abbrev turn_tasks : Wide → Wide → List Wide → Addr → List Wide
turn_tasks x w ws a =
    begun ops.Scoped 0 0 0 0 a None ∷ turned (changed ops.BodyOf x.info x.mid x.mid (without_values (w ∷ ws)))

pub turn-follows : (ts : List (List ℕ)) (t : NodeTable) (old new : List Wide) (task : Task) (a : Addr) (k : ℕ)
    → old ≡ wide task (values_of old) (extra_of old) ∷ outer_of old
    → HasTurn (extra_of old)
    → task.mid < task.end
    → slice_get t.kids.items task.mid ≡ Some k
    → new ≡ begun ops.Scoped 0 0 0 0 a None ∷ turned
    (changed ops.BodyOf task.info task.mid task.mid (without_values old))
    → resettled (gaps_of ts t (outer_of old)) (reduced_term ts t (innermost old) (answers.Iterated a)) ≡ resettled
    (gaps_of ts t new) (tree ts t k)
unfolding reduced_term task_form
turn-follows ts t [] new task a k h o b g n = cc
turn-follows ts t (w ∷ ws) new task a k h o b g n =
    let p : wide task w.values w.extra ≡ w = same_task w ws task h in
    let B : Wide → Type 0 = λ x. x.mid < x.end in
    ap (resettled (gaps_of ts t ws))
    (turned_same ts t w.info w.mid w.end a k w.extra o (subst B p b)
    (ap (λ x. slice_get t.kids.items x.mid) (sym p) ∙ g))
    ∙ ap (λ xs. resettled (gaps_of ts t xs) (tree ts t k)) (sym (n ∙ ap (λ x. turn_tasks x w ws a) p))

pub turn-scopes : (t : NodeTable) (old new : List Wide) (task : Task) (a : Addr)
    → old ≡ wide task (values_of old) (extra_of old) ∷ outer_of old
    → task.op ≡ ops.TurnOf
    → new ≡ begun ops.Scoped 0 0 0 0 a None ∷ turned
    (changed ops.BodyOf task.info task.mid task.mid (without_values old))
    → (root : Addr)
    → InScopes t root old
    → InScopes t root new
turn-scopes t [] new task a h o n = cc
turn-scopes t (w ∷ ws) new task a h o n = λ root k.
    let x : Wide = record w {
      op = ops.BodyOf;
      info = task.info;
      at = task.mid;
      mid = task.mid;
      values = [];
      extra = turned_extra w.extra;
    } in
    let plain : has_scope w.op w.info ≡ false = ap (λ y. has_scope y w.info)
    (ap (λ y. y.op) (sym (same_task w ws task h)) ∙ o) in
    let Q : List Wide → Type 0 = InScopes t root in
    subst Q (sym n)
    (scopes-own t root (begun ops.Scoped 0 0 0 0 a None) (x ∷ ws) refl
    (scopes-same t root w x ws plain refl refl k))

-- ---- a loop in a new scope

-- a task in a new scope for its turn
abbrev pub IsTurned : Task → Task → Addr → Type 0
IsTurned task turn a =
    (turn.op ≡ task.op) × (turn.info ≡ 1) × (turn.inner ≡ a) × (turn.mid ≡ task.mid) × (turn.end ≡ task.end)

loop_at : (ts : List (List ℕ)) (t : NodeTable) (stage : Option Addr → Terms → Term) (old mid : List Wide)
    (task turn : Task) (a : Addr)
    → IsInnermost task None old
    → IsTurned task turn a
    → outer_of mid ≡ outer_of old
    → resettled (gaps_of ts t (outer_of old)) (stage (Some a) (later_of ts t (innermost old)))
    ≡ looped ts t mid stage turn
loop_at ts t stage old mid task turn a h s o =
    ap (λ ws. resettled (gaps_of ts t (outer_of old)) (stage (Some a) (later_of ts t (innermost ws)))) h
    ∙ ap (λ ws. resettled (gaps_of ts t ws) (stage (Some a) (trees ts t task.mid task.end))) (sym o)
    ∙ ap (λ x. resettled (gaps_of ts t (outer_of mid)) (stage (turn_scope 1 x) (trees ts t task.mid task.end)))
    (sym s.2)
    ∙ ap (λ x. resettled (gaps_of ts t (outer_of mid)) (stage (turn_scope x turn.inner) (trees ts t task.mid task.end)))
    (sym s.1)
    ∙ ap (λ x. resettled (gaps_of ts t (outer_of mid))
    (stage (turn_scope turn.info turn.inner) (trees ts t x task.end)))
    (sym s.3)
    ∙ ap (λ x. resettled (gaps_of ts t (outer_of mid))
    (stage (turn_scope turn.info turn.inner) (trees ts t turn.mid x)))
    (sym s.4)

pub at-test-follows : (ts : List (List ℕ)) (t : NodeTable) (old mid : List Wide) (task turn : Task) (a : Addr)
    → IsInnermost task None old
    → IsTurned task turn a
    → outer_of mid ≡ outer_of old
    → resettled (gaps_of ts t (outer_of old)) (reduced_term ts t (innermost old) (answers.Tests a))
    ≡ looped ts t mid at_test turn
unfolding reduced_term
at-test-follows ts t old mid task turn a h s o = loop_at ts t at_test old mid task turn a h s o

pub at-update-follows : (ts : List (List ℕ)) (t : NodeTable) (old mid : List Wide) (task turn : Task) (a : Addr)
    → IsInnermost task None old
    → IsTurned task turn a
    → outer_of mid ≡ outer_of old
    → resettled (gaps_of ts t (outer_of old)) (reduced_term ts t (innermost old) (answers.Updates a))
    ≡ looped ts t mid at_update turn
unfolding reduced_term
at-update-follows ts t old mid task turn a h s o = loop_at ts t at_update old mid task turn a h s o

pub at-body-follows : (ts : List (List ℕ)) (t : NodeTable) (old : List Wide) (task : Task)
    → IsInnermost task None old
    → resettled (gaps_of ts t (outer_of old)) (reduced_term ts t (innermost old) answers.Turns)
    ≡ looped ts t old at_body task
unfolding reduced_term
at-body-follows ts t old task h =
    ap (λ ws. resettled (gaps_of ts t (outer_of old))
    (at_body (own_scope (innermost ws)) (later_of ts t (innermost ws))))
    h

loop_has : (op : Op) → is_loop op ≡ true → has_scope op 1 ≡ true
loop_has ops.LoopFirst h = refl
loop_has ops.LoopDoing h = refl
loop_has ops.LoopTesting h = refl
loop_has ops.LoopBody h = refl
loop_has ops.LoopUpdating h = refl
loop_has op h = cc

pub turned-scopes : (t : NodeTable) (old mid : List Wide) (task turn : Task) (a : Addr)
    → is_loop task.op ≡ true
    → IsInnermost turn None mid
    → IsTurned task turn a
    → outer_of mid ≡ outer_of old
    → (root : Addr)
    → InScopes t root old
    → InScopes t root mid
turned-scopes t old mid task turn a l h s o = λ root k.
    let Q : List Wide → Type 0 = InScopes t root in
    let w : Wide = wide turn (values_of mid) None in
    let own : has_scope turn.op turn.info ≡ true = ap (λ y. has_scope turn.op y) s.1
    ∙ ap (λ y. has_scope y 1) s.0
    ∙ loop_has task.op l in
    subst Q (sym h) (scopes-own t root w (outer_of mid) own (subst Q (sym o) (outer_scopes t root old k)))

pub turned-inner : (t : NodeTable) (mid new : List Wide) (from : List (List ℕ) → Term) (next : Next) (task turn : Task)
    (a : Addr)
    → IsInnermost turn None mid
    → IsTurned task turn a
    → Comes t mid new from next
    → (root : Addr)
    → ComesIn root new a next
turned-inner t mid new from next task turn a h s c = λ root.
    let P : Addr → Type 0 = λ x. ComesIn root new x next in
    subst P s.2 (comes-in t mid new from next turn None h c root)

-- ---- object literals

pub rests-at : (op : Op) (mid from : ℕ) (e : Option Extra) (old : List Wide)
    → e ≡ extra_of old
    → RestsAt op e mid from
    → RestsAt op (extra_of old) mid from
rests-at op mid from e old h r = let P : Option Extra → Type 0 = λ x. RestsAt op x mid from in subst P h r

-- the form of an object literal, and where its kept parts begin
rests_form : (ts : List (List ℕ)) (t : NodeTable) (op : Op) (info : ℕ) (inner : Addr) (e : Option Extra) (mid from : ℕ)
    → RestsAt op e mid from
    → form_in ts t op info inner e ≡ object_form ts (members_at t info)
unfolding form_of
rests_form ts t ops.Object info inner None mid from r = refl
rests_form ts t ops.ObjectRest info inner (Some (extras.Rest n)) mid from r = refl
rests_form ts t op info inner e mid from r = absurd r

rests_later : (ts : List (List ℕ)) (t : NodeTable) (op : Op) (e : Option Extra) (mid from last : ℕ)
    → RestsAt op e mid from
    → with_list e (trees ts t (kept_from e mid) last) ≡ trees ts t from last
rests_later ts t ops.Object None mid from last r = ap (λ x. trees ts t x last) (sym r)
rests_later ts t ops.ObjectRest (Some (extras.Rest n)) mid from last r = ap (λ x. trees ts t x last) (sym r)
rests_later ts t op e mid from last r = absurd r

rests_plain : (op : Op) (e : Option Extra) (info mid from : ℕ) → RestsAt op e mid from → has_scope op info ≡ false
rests_plain ops.Object None info mid from r = refl
rests_plain ops.ObjectRest (Some (extras.Rest n)) info mid from r = refl
rests_plain op e info mid from r = absurd r

abbrev method_tasks : Wide → Wide → List Wide → Value → Node → ℕ → List Wide
method_tasks x w ws v node from =
    owning ops.ObjectRest x.info node.first node.mid (extras.Rest (from + 1)) (with_value v (w ∷ ws))

method_base : (ts : List (List ℕ)) (t : NodeTable) (w : Wide) (ws : List Wide) (v : Value) (from k : ℕ) (node : Node)
    → IsTable t
    → RestsAt w.op w.extra w.mid from
    → from < w.end
    → slice_get t.kids.items from ≡ Some k
    → slice_get t.nodes.items k ≡ Some node
    → is_literal node.op ≡ false
    → resettled (gaps_of ts t ws) (added ts t w v) ≡ proceeding ts t (method_tasks w w ws v node from)
unfolding task_form form_of
method_base ts t w ws v from k node i r b g n o =
    let F : Form = object_form ts (members_at t w.info) in
    let later : later_of ts t w ≡ more (tree ts t k) (trees ts t (from + 1) w.end)
    = rests_later ts t w.op w.extra w.mid from w.end r
    ∙ trees-first ts t from w.end k b g in
    plugged-resettled (gaps_of ts t ws) (added ts t w v) refl
    ∙ ap (λ f. plugged (gaps_of ts t ws)
    (part f (joined (dones w.values) (more (done v) (now_of (head_of (later_of ts t w)))))
    (rest_of (later_of ts t w))))
    (rests_form ts t w.op w.info w.inner w.extra w.mid from r)
    ∙ ap (λ x. plugged (gaps_of ts t ws)
    (part F (joined (dones w.values) (more (done v) (now_of (head_of x)))) (rest_of x)))
    later
    ∙ ap (λ x. plugged (gaps_of ts t ws)
    (part F (joined (dones w.values) (more (done v) (now_of x))) (trees ts t (from + 1) w.end)))
    (tree-at t k node i n o ts)
    ∙ ap (λ x. plugged (gaps_of ts t ws) (part F x (trees ts t (from + 1) w.end)))
    (sym (joined-value w.values v (trees ts t node.first node.mid)))

pub method-follows : (ts : List (List ℕ)) (t : NodeTable) (old new : List Wide) (task : Task) (v : Value) (from k : ℕ)
    (node : Node)
    → IsTable t
    → old ≡ wide task (values_of old) (extra_of old) ∷ outer_of old
    → RestsAt task.op (extra_of old) task.mid from
    → from < task.end
    → slice_get t.kids.items from ≡ Some k
    → slice_get t.nodes.items k ≡ Some node
    → is_literal node.op ≡ false
    → new ≡ owning ops.ObjectRest task.info node.first node.mid (extras.Rest (from + 1)) (with_value v old)
    → resettled (gaps_of ts t (outer_of old)) (reduced_term ts t (innermost old) (answers.Adds v)) ≡ proceeding ts t new
unfolding reduced_term
method-follows ts t [] new task v from k node i h r b g n o e = cc
method-follows ts t (w ∷ ws) new task v from k node i h r b g n o e =
    let p : wide task w.values w.extra ≡ w = same_task w ws task h in
    let P : Wide → Type 0 = λ x. RestsAt x.op x.extra x.mid from in
    let B : Wide → Type 0 = λ x. from < x.end in
    method_base ts t w ws v from k node i (subst P p r) (subst B p b) g n o
    ∙ ap (proceeding ts t) (sym (e ∙ ap (λ x. method_tasks x w ws v node from) p))

pub method-scopes : (t : NodeTable) (old new : List Wide) (task : Task) (v : Value) (from : ℕ) (node : Node)
    → old ≡ wide task (values_of old) (extra_of old) ∷ outer_of old
    → RestsAt task.op (extra_of old) task.mid from
    → new ≡ owning ops.ObjectRest task.info node.first node.mid (extras.Rest (from + 1)) (with_value v old)
    → (root : Addr)
    → InScopes t root old
    → InScopes t root new
method-scopes t [] new task v from node h r e = cc
method-scopes t (w ∷ ws) new task v from node h r e = λ root s.
    let p : wide task w.values w.extra ≡ w = same_task w ws task h in
    let P : Wide → Type 0 = λ x. RestsAt x.op x.extra x.mid from in
    let x : Wide = record w {
      op = ops.ObjectRest;
      info = task.info;
      at = node.first;
      mid = node.mid;
      values = w.values ++ v ∷ [];
      extra = Some
          (extras.Rest (from + 1));
    } in
    let Q : List Wide → Type 0 = InScopes t root in
    subst Q (sym e) (scopes-same t root w x ws (rests_plain w.op w.extra w.info w.mid from (subst P p r)) refl refl s)

pub ruleset follow_rules = (scoped-resettled, frame-resettled)
