-- Stages of loops.
use Rattle.std.proofs.Common.{◌≡◌, ℕ, zero, suc, ◌+◌, ◌<◌, ◌≤◌, Bool, true, false, List, [], ◌∷◌, ◌++◌, Option, None, Some, slice_get, refl, sym, ap, subst, ◌∙◌, arith, if◌then◌else◌, ◌⊎◌, inl, inr}
use Rattle.std.proofs.lemmas.Bool.{cases_lt, eqb-true}
use Rattle.std.specs.Prelude.{nat_eq}
use Rattle.js_heap.specs.declared.value.Addr.{Addr}
use Rattle.js_heap.specs.declared.value.Value.{Value}
use Rattle.js_heap.specs.declared.value.Value.TheVariants as values
use Rattle.js_semantics.specs.declared.form.Form.TheVariants.{Loop as loop}
use Rattle.js_semantics.specs.declared.form.Stage.{Stage}
use Rattle.js_semantics.specs.declared.form.Stage.TheVariants as stages
use Rattle.js_semantics.specs.Terms.{Term, done, part, Terms, end, more, one, joined, dones, is_done, test_of, update_of, body_of_loop, at_test, at_update, at_body, behind_body, behind_first}
use Rattle.js_machine_nodes.specs.declared.op.Op.{Op}
use Rattle.js_machine_nodes.specs.declared.op.Op.TheVariants as ops
use Rattle.js_machine_nodes.specs.declared.table.NodeTable.{NodeTable}
use Rattle.js_machine_nodes.specs.Ops.{is_loop}
use Rattle.js_machine_nodes.specs.Trees.{kids_between, terms, tree, trees}
use Rattle.js_machine_engine.specs.declared.closing.Next.{Next}
use Rattle.js_machine_engine.specs.declared.closing.Next.TheVariants as nexts
use Rattle.js_machine_engine.specs.declared.task.Extra.{Extra}
use Rattle.js_machine_engine.specs.declared.task.Task.{Task}
use Rattle.js_machine_engine.specs.Gaps.{plugged, resettled}
use Rattle.js_machine_engine.specs.Tasks.{Wide, turn_scope, form_in, task_form, later_of, gaps_of, scope_of, InScopes}
use Rattle.js_machine_engine.specs.Points.{row_term, IsAtRow}
use Rattle.js_machine_engine.specs.Stacks.{wide, values_of, with_value, outer_of}
use Rattle.js_machine_engine.specs.Parts.{IsOpen}
use Rattle.js_machine_engine.specs.Settling.{Through, Comes, IsOpenPart, restaged, IsInnermost, kept_trees, looped, staged}
use Rattle.js_machine_nodes.proofs.TreeLemmas.{kids-some, kids-none, kids-end}
use Rattle.js_machine_engine.proofs.TreeLemmas.{open-tree}
use Rattle.js_machine_engine.proofs.SettleLemmas.{resettled-part, scopes-value, scope-value, value_form}
use Rattle.js_machine_engine.proofs.FinishLemmas.{loop-scope}

-- ---- places of kept parts

tail_of : List ℕ → List ℕ
tail_of [] = []
tail_of (k ∷ ks) = ks

-- ---- what comes, from the changes before

pub comes-through : (t : NodeTable) (old mid new : List Wide) (to from : List (List ℕ) → Term) (next : Next)
    → Through t old mid
    → ((ts : List (List ℕ)) → to ts ≡ from ts)
    → Comes t mid new from next
    → Comes t old new to next
comes-through t old mid new to from nexts.Row h e c = record {
  term = λ ts. e ts ∙ c.term ts;
  stands = c.stands;
  scoped = λ root s. c.scoped root (h.scoped root s);
}
comes-through t old mid new to from (nexts.Value v) h e c = record {
  term = λ ts. e ts ∙ c.term ts;
  stands = c.stands ∙ h.outer;
  scoped = λ root s. c.scoped root (h.scoped root s);
}
comes-through t old mid new to from (nexts.Part n) h e c = record {
  term = λ ts. e ts ∙ c.term ts;
  stands = record { form = c.stands.form; inner = λ root. c.stands.inner root ∙ h.inner root };
  scoped = λ root s. c.scoped root (h.scoped root s);
}

pub comes-row : (t : NodeTable) (old new : List Wide) (from : List (List ℕ) → Term)
    → Through t old new
    → IsAtRow new
    → ((ts : List (List ℕ)) → from ts ≡ row_term ts t new)
    → Comes t old new from nexts.Row
comes-row t old new from h r e = record { term = e; stands = r; scoped = h.scoped }

pub comes-part : (t : NodeTable) (old new : List Wide) (from : List (List ℕ) → Term) (n : ℕ)
    → Through t old new
    → IsOpen (slice_get t.nodes.items n)
    → ((ts : List (List ℕ)) → from ts ≡ plugged (gaps_of ts t new) (tree ts t n))
    → Comes t old new from (nexts.Part n)
comes-part t old new from n h o e =
    record { term = e; stands = record { form = o; inner = h.inner }; scoped = h.scoped }

pub outer_scopes : (t : NodeTable) (root : Addr) (ws : List Wide) → InScopes t root ws → InScopes t root (outer_of ws)
outer_scopes t root [] s = tt
outer_scopes t root (w ∷ ws) s = s.1

pub comes-value : (t : NodeTable) (old new : List Wide) (from : List (List ℕ) → Term) (v : Value)
    → new ≡ outer_of old
    → ((ts : List (List ℕ)) → from ts ≡ resettled (gaps_of ts t new) (done v))
    → Comes t old new from (nexts.Value v)
comes-value t old new from v o e =
    let P : List Wide → Type 0 = λ ws. (root : Addr) → InScopes t root old → InScopes t root ws in
    record { term = e; stands = o; scoped = subst P (sym o) (λ root s. outer_scopes t root old s) }

pub through-value : (t : NodeTable) (old new : List Wide) (v : Value) → new ≡ with_value v old → Through t old new
through-value t old new v e =
    let P : List Wide → Type 0 = Through t old in
    subst P (sym e)
    (record {
      outer = outer_value v old;
      inner = λ root. scope-value root v old;
      scoped = λ root s. scopes-value t root v old s;
    })
  where
    outer_value : (v : Value) (ws : List Wide) → outer_of (with_value v ws) ≡ outer_of ws
    outer_value v [] = refl
    outer_value v (w ∷ ws) = refl

pub through-refl : (t : NodeTable) (ws : List Wide) → Through t ws ws
through-refl t ws = record { outer = refl; inner = λ root. refl; scoped = λ root s. s }

-- ---- a kept part that is entered

pub enter-value : (t : NodeTable) (old new : List Wide) (x : List (List ℕ) → Term) (v : Value)
    → IsAtRow old
    → values_of old ≡ []
    → ((ts : List (List ℕ)) → x ts ≡ done v)
    → new ≡ with_value v old
    → Comes t old new (λ ts. staged ts t old (x ts)) nexts.Row
enter-value t [] new x v r n e s = absurd r
enter-value t (w ∷ ws) new x v r n e s =
    let P : List Wide → Type 0 = λ us. Comes t (w ∷ ws) us (λ ts. staged ts t (w ∷ ws) (x ts)) nexts.Row in
    subst P (sym s)
    (comes-row t (w ∷ ws) (with_value v (w ∷ ws)) (λ ts. staged ts t (w ∷ ws) (x ts))
    (through-value t (w ∷ ws) (with_value v (w ∷ ws)) v refl) r
    (λ ts. ap (λ y. plugged (gaps_of ts t ws) (part (task_form ts t w) (one y) (later_of ts t w))) (e ts)
    ∙ ap (λ f. plugged (gaps_of ts t ws) (part f (one (done v)) (later_of ts t w)))
    (sym (value_form ts t w (w.values ++ v ∷ [])))
    ∙ ap (λ vs. plugged (gaps_of ts t ws)
    (part (task_form ts t (record w { values = w.values ++ v ∷ [] })) (dones (vs ++ v ∷ [])) (later_of ts t w)))
    (sym n)))

-- ---- another stage of a loop

abbrev pub stage_of : Op → Stage
stage_of ops.LoopDoing = stages.Doing
stage_of ops.LoopTesting = stages.Testing
stage_of ops.LoopBody = stages.Body
stage_of ops.LoopUpdating = stages.Updating
stage_of op = stages.First

op_loop : (ts : List (List ℕ)) (t : NodeTable) (op : Op) (info : ℕ) (inner : Addr) (e : Option Extra)
    → is_loop op ≡ true
    → form_in ts t op info inner e ≡ loop (stage_of op) (turn_scope info inner)
op_loop ts t ops.LoopFirst info inner e l = refl
op_loop ts t ops.LoopDoing info inner e l = refl
op_loop ts t ops.LoopTesting info inner e l = refl
op_loop ts t ops.LoopBody info inner e l = refl
op_loop ts t ops.LoopUpdating info inner e l = refl
op_loop ts t op info inner e l = cc

restaged_form : (ts : List (List ℕ)) (t : NodeTable) (task : Task) (vs : List Value) (op : Op)
    → is_loop op ≡ true
    → task_form ts t (record (wide task vs None) { op = op; at = task.mid; values = [] }) ≡ loop (stage_of op)
    (turn_scope task.info task.inner)
unfolding task_form
restaged_form ts t task vs op l = op_loop ts t op task.info task.inner None l

through_at : (t : NodeTable) (task : Task) (vs : List Value) (ws : List Wide) (op : Op)
    → is_loop task.op ≡ true
    → is_loop op ≡ true
    → Through t (wide task vs None ∷ ws) (restaged op (wide task vs None ∷ ws))
through_at t task vs ws op k l =
    let w : Wide = wide task vs None in
    let u : Wide = record w { op = op; at = w.mid; values = [] } in
    record {
      outer = refl;
      inner = λ root. refl;
      scoped = λ root s. (λ ts. loop-scope ts t u w (scope_of root ws) l k refl refl ∙ s.0 ts, s.1);
    }

pub through-loop : (t : NodeTable) (old : List Wide) (task : Task) (op : Op)
    → IsInnermost task None old
    → is_loop task.op ≡ true
    → is_loop op ≡ true
    → Through t old (restaged op old)
through-loop t old task op i k l =
    let P : List Wide → Type 0 = λ ws. Through t ws (restaged op ws) in
    subst P (sym i) (through_at t task (values_of old) (outer_of old) op k l)

staged_at : (ts : List (List ℕ)) (t : NodeTable) (task : Task) (vs : List Value) (ws : List Wide) (op : Op) (x : Term)
    → is_loop op ≡ true
    → staged ts t (restaged op (wide task vs None ∷ ws)) x ≡ plugged (gaps_of ts t ws)
    (part (loop (stage_of op) (turn_scope task.info task.inner)) (one x) (kept_trees ts t task))
staged_at ts t task vs ws op x l =
    ap (λ f. plugged (gaps_of ts t ws) (part f (one x) (kept_trees ts t task))) (restaged_form ts t task vs op l)

-- a loop at this stage, with one part
pub loop-staged : (ts : List (List ℕ)) (t : NodeTable) (old : List Wide) (task : Task) (op : Op) (x : Term)
    → IsInnermost task None old
    → is_loop op ≡ true
    → resettled (gaps_of ts t (outer_of old))
    (part (loop (stage_of op) (turn_scope task.info task.inner)) (one x) (kept_trees ts t task)) ≡ staged ts t
    (restaged op old) x
loop-staged ts t old task op x i l =
    resettled-part (gaps_of ts t (outer_of old)) (loop (stage_of op) (turn_scope task.info task.inner)) (one x)
    (kept_trees ts t task)
    ∙ sym (staged_at ts t task (values_of old) (outer_of old) op x l)
    ∙ ap (λ ws. staged ts t (restaged op ws) x) (sym i)

-- a loop at this stage, without parts
row_at : (ts : List (List ℕ)) (t : NodeTable) (task : Task) (vs : List Value) (ws : List Wide) (op : Op)
    → is_loop op ≡ true
    → row_term ts t (restaged op (wide task vs None ∷ ws)) ≡ plugged (gaps_of ts t ws)
    (part (loop (stage_of op) (turn_scope task.info task.inner)) end (kept_trees ts t task))
row_at ts t task vs ws op l =
    ap (λ f. plugged (gaps_of ts t ws) (part f end (kept_trees ts t task))) (restaged_form ts t task vs op l)

pub loop-row : (ts : List (List ℕ)) (t : NodeTable) (old : List Wide) (task : Task) (op : Op)
    → IsInnermost task None old
    → is_loop op ≡ true
    → resettled (gaps_of ts t (outer_of old))
    (part (loop (stage_of op) (turn_scope task.info task.inner)) end (kept_trees ts t task)) ≡ row_term ts t
    (restaged op old)
loop-row ts t old task op i l =
    resettled-part (gaps_of ts t (outer_of old)) (loop (stage_of op) (turn_scope task.info task.inner)) end
    (kept_trees ts t task)
    ∙ sym (row_at ts t task (values_of old) (outer_of old) op l)
    ∙ ap (λ ws. row_term ts t (restaged op ws)) (sym i)

pub restaged-row : (old : List Wide) (task : Task) (op : Op) → IsInnermost task None old → IsAtRow (restaged op old)
restaged-row old task op i =
    let P : List Wide → Type 0 = λ ws. IsAtRow (restaged op ws) in
    subst P (sym i) refl

-- a node in the gap of a loop at this stage
part_gap : (ts : List (List ℕ)) (t : NodeTable) (w : Wide) (ws : List Wide) (n : ℕ)
    → w.values ≡ []
    → w.at ≡ w.mid
    → plugged (gaps_of ts t (w ∷ ws)) (tree ts t n) ≡ staged ts t (w ∷ ws) (tree ts t n)
part_gap ts t w ws n v a =
    ap (λ us. plugged (gaps_of ts t ws)
    (part (task_form ts t w) (joined (dones us) (more (tree ts t n) (trees ts t w.at w.mid))) (later_of ts t w)))
    v
    ∙ ap (λ ks. plugged (gaps_of ts t ws)
    (part (task_form ts t w) (more (tree ts t n) (terms (tree ts t) ks)) (later_of ts t w)))
    (kids-end t w.at w.mid (omega arith))

restaged_gap : (ts : List (List ℕ)) (t : NodeTable) (task : Task) (vs : List Value) (ws : List Wide) (op : Op) (n : ℕ)
    → plugged (gaps_of ts t (restaged op (wide task vs None ∷ ws))) (tree ts t n) ≡ staged ts t
    (restaged op (wide task vs None ∷ ws)) (tree ts t n)
restaged_gap ts t task vs ws op n =
    part_gap ts t (record (wide task vs None) { op = op; at = task.mid; values = [] }) ws n refl refl

pub loop-gap : (ts : List (List ℕ)) (t : NodeTable) (old : List Wide) (task : Task) (op : Op) (n : ℕ)
    → IsInnermost task None old
    → is_loop op ≡ true
    → resettled (gaps_of ts t (outer_of old))
    (part (loop (stage_of op) (turn_scope task.info task.inner)) (one (tree ts t n)) (kept_trees ts t task))
    ≡ plugged (gaps_of ts t (restaged op old)) (tree ts t n)
loop-gap ts t old task op n i l =
    let P : List Wide
    → Type 0 = λ ws. plugged (gaps_of ts t (restaged op ws)) (tree ts t n) ≡ staged ts t (restaged op ws) (tree ts t n)
    in
    let g : plugged (gaps_of ts t (restaged op old)) (tree ts t n) ≡ staged ts t (restaged op old) (tree ts t n)
    = subst P (sym i) (restaged_gap ts t task (values_of old) (outer_of old) op n) in
    loop-staged ts t old task op (tree ts t n) i l ∙ sym g

-- ---- what the stages come to

pub test-staged : (t : NodeTable) (old : List Wide) (task : Task)
    → IsInnermost task None old
    → (ts : List (List ℕ))
    → looped ts t old at_test task ≡ staged ts t (restaged ops.LoopTesting old) (test_of (trees ts t task.mid task.end))
test-staged t old task i ts = loop-staged ts t old task ops.LoopTesting (test_of (kept_trees ts t task)) i refl

pub test-comes : (t : NodeTable) (old mid new : List Wide) (task : Task) (next : Next)
    → IsInnermost task None old
    → is_loop task.op ≡ true
    → mid ≡ restaged ops.LoopTesting old
    → Comes t mid new (λ ts. staged ts t mid (test_of (trees ts t task.mid task.end))) next
    → Comes t old new (λ ts. looped ts t old at_test task) next
test-comes t old mid new task next i l e c =
    let P : List Wide → Type 0 = Through t old in
    comes-through t old mid new (λ ts. looped ts t old at_test task)
    (λ ts. staged ts t mid (test_of (trees ts t task.mid task.end))) next
    (subst P (sym e) (through-loop t old task ops.LoopTesting i l refl))
    (λ ts. test-staged t old task i ts ∙ ap (λ ws. staged ts t ws (test_of (trees ts t task.mid task.end))) (sym e))
    c

-- one stage is another
pub looped-same : (t : NodeTable) (old new : List Wide) (f g : Option Addr → Terms → Term) (task : Task) (next : Next)
    → ((ts : List (List ℕ))
    → f (turn_scope task.info task.inner) (kept_trees ts t task) ≡ g (turn_scope task.info task.inner)
    (kept_trees ts t task))
    → Comes t old new (λ ts. looped ts t old g task) next
    → Comes t old new (λ ts. looped ts t old f task) next
looped-same t old new f g task next e c =
    comes-through t old old new (λ ts. looped ts t old f task) (λ ts. looped ts t old g task) next (through-refl t old)
    (λ ts. ap (resettled (gaps_of ts t (outer_of old))) (e ts)) c

-- a stage goes on with a node
pub looped-part : (t : NodeTable) (old new : List Wide) (f : Option Addr → Terms → Term) (task : Task) (op : Op) (n : ℕ)
    → IsInnermost task None old
    → is_loop task.op ≡ true
    → is_loop op ≡ true
    → new ≡ restaged op old
    → IsOpen (slice_get t.nodes.items n)
    → ((ts : List (List ℕ))
    → f (turn_scope task.info task.inner) (kept_trees ts t task) ≡ part
    (loop (stage_of op) (turn_scope task.info task.inner)) (one (tree ts t n)) (kept_trees ts t task))
    → Comes t old new (λ ts. looped ts t old f task) (nexts.Part n)
looped-part t old new f task op n i k l e o h =
    let P : List Wide → Type 0 = λ ws. Comes t old ws (λ ts. looped ts t old f task) (nexts.Part n) in
    subst P (sym e)
    (comes-part t old (restaged op old) (λ ts. looped ts t old f task) n (through-loop t old task op i k l) o
    (λ ts. ap (resettled (gaps_of ts t (outer_of old))) (h ts) ∙ loop-gap ts t old task op n i l))

-- a stage waits for its row
pub looped-row : (t : NodeTable) (old new : List Wide) (f : Option Addr → Terms → Term) (task : Task) (op : Op)
    → IsInnermost task None old
    → is_loop task.op ≡ true
    → is_loop op ≡ true
    → new ≡ restaged op old
    → ((ts : List (List ℕ))
    → f (turn_scope task.info task.inner) (kept_trees ts t task) ≡ part
    (loop (stage_of op) (turn_scope task.info task.inner)) end (kept_trees ts t task))
    → Comes t old new (λ ts. looped ts t old f task) nexts.Row
looped-row t old new f task op i k l e h =
    let P : List Wide → Type 0 = λ ws. Comes t old ws (λ ts. looped ts t old f task) nexts.Row in
    subst P (sym e)
    (comes-row t old (restaged op old) (λ ts. looped ts t old f task) (through-loop t old task op i k l)
    (restaged-row old task op i)
    (λ ts. ap (resettled (gaps_of ts t (outer_of old))) (h ts) ∙ loop-row ts t old task op i l))

-- ---- the update and the body of a loop

get_none : {X : Type 0} (xs : List X) (at : ℕ) → slice_get xs at ≡ None → slice_get xs (suc at) ≡ None
get_none [] at e = refl
get_none (x ∷ xs) zero e = cc
get_none (x ∷ xs) (suc at) e = get_none xs at e

kids_tail_at : (t : NodeTable) (at mid : ℕ) (o : Option ℕ)
    → at < mid
    → slice_get t.kids.items at ≡ o
    → kids_between t (at + 1) mid ≡ tail_of (kids_between t at mid)
unfolding tail_of
kids_tail_at t at mid None h e =
    let s : at + 1 ≡ suc at = omega arith in
    ap (λ x. kids_between t x mid) s
    ∙ kids-none t (suc at) mid (get_none t.kids.items at e)
    ∙ ap tail_of (sym (kids-none t at mid e))
kids_tail_at t at mid (Some k) h e = ap tail_of (sym (kids-some t at mid k h e))

kids_tail_by : (t : NodeTable) (at mid : ℕ)
    → (at < mid) ⊎ (mid ≤ at)
    → kids_between t (at + 1) mid ≡ tail_of (kids_between t at mid)
unfolding tail_of
kids_tail_by t at mid (inl h) = kids_tail_at t at mid (slice_get t.kids.items at) h refl
kids_tail_by t at mid (inr h) = kids-end t (at + 1) mid (omega arith) ∙ ap tail_of (sym (kids-end t at mid h))

kids_tail : (t : NodeTable) (at mid : ℕ) → kids_between t (at + 1) mid ≡ tail_of (kids_between t at mid)
kids_tail t at mid = kids_tail_by t at mid (cases_lt at mid)

second_part : (at : ℕ → Term) (ks : List ℕ) → update_of (terms at ks) ≡ test_of (terms at (tail_of ks))
unfolding tail_of
second_part at [] = refl
second_part at (k ∷ []) = refl
second_part at (k ∷ l ∷ ks) = refl

third_part : (at : ℕ → Term) (ks : List ℕ) → body_of_loop (terms at ks) ≡ test_of (terms at (tail_of (tail_of ks)))
unfolding tail_of
third_part at [] = refl
third_part at (k ∷ []) = refl
third_part at (k ∷ l ∷ []) = refl
third_part at (k ∷ l ∷ m ∷ ks) = refl

pub update-part : (ts : List (List ℕ)) (t : NodeTable) (task : Task)
    → update_of (kept_trees ts t task) ≡ test_of (trees ts t (task.mid + 1) task.end)
update-part ts t task =
    second_part (tree ts t) (kids_between t task.mid task.end)
    ∙ ap (λ ks. test_of (terms (tree ts t) ks)) (sym (kids_tail t task.mid task.end))

pub body-part : (ts : List (List ℕ)) (t : NodeTable) (task : Task)
    → body_of_loop (kept_trees ts t task) ≡ test_of (trees ts t (task.mid + 2) task.end)
body-part ts t task =
    let s : task.mid + 1 + 1 ≡ task.mid + 2 = omega arith in
    third_part (tree ts t) (kids_between t task.mid task.end)
    ∙ ap (λ ks. test_of (terms (tree ts t) (tail_of ks))) (sym (kids_tail t task.mid task.end))
    ∙ ap (λ ks. test_of (terms (tree ts t) ks)) (sym (kids_tail t (task.mid + 1) task.end))
    ∙ ap (λ x. test_of (trees ts t x task.end)) s

pub update-value : (ts : List (List ℕ)) (t : NodeTable) (task : Task) (v : Value) (scope : Option Addr)
    → test_of (trees ts t (task.mid + 1) task.end) ≡ done v
    → at_update scope (kept_trees ts t task) ≡ at_test scope (kept_trees ts t task)
update-value ts t task v scope e =
    ap (λ x. if is_done x then at_test scope (kept_trees ts t task) else part (loop stages.Updating scope) (one x)
    (kept_trees ts t task))
    (update-part ts t task ∙ e)

pub update-open : (ts : List (List ℕ)) (t : NodeTable) (task : Task) (n : ℕ) (scope : Option Addr)
    → IsOpenPart t (task.mid + 1) task.end n
    → at_update scope (kept_trees ts t task) ≡ part (loop stages.Updating scope) (one (tree ts t n))
    (kept_trees ts t task)
update-open ts t task n scope o =
    ap (λ x. if is_done x then at_test scope (kept_trees ts t task) else part (loop stages.Updating scope) (one x)
    (kept_trees ts t task))
    (update-part ts t task ∙ o.part ts)
    ∙ ap (λ b. if b then at_test scope (kept_trees ts t task) else part (loop stages.Updating scope) (one (tree ts t n))
    (kept_trees ts t task))
    (open-tree ts t n o.form)

pub body-value : (ts : List (List ℕ)) (t : NodeTable) (task : Task) (v : Value) (scope : Option Addr)
    → test_of (trees ts t (task.mid + 2) task.end) ≡ done v
    → at_body scope (kept_trees ts t task) ≡ behind_body scope (kept_trees ts t task)
body-value ts t task v scope e =
    ap (λ x. if is_done x then behind_body scope (kept_trees ts t task) else part (loop stages.Body scope) (one x)
    (kept_trees ts t task))
    (body-part ts t task ∙ e)

pub body-open : (ts : List (List ℕ)) (t : NodeTable) (task : Task) (n : ℕ) (scope : Option Addr)
    → IsOpenPart t (task.mid + 2) task.end n
    → at_body scope (kept_trees ts t task) ≡ part (loop stages.Body scope) (one (tree ts t n)) (kept_trees ts t task)
body-open ts t task n scope o =
    ap (λ x. if is_done x then behind_body scope (kept_trees ts t task) else part (loop stages.Body scope) (one x)
    (kept_trees ts t task))
    (body-part ts t task ∙ o.part ts)
    ∙ ap (λ b. if b then behind_body scope (kept_trees ts t task) else part (loop stages.Body scope) (one (tree ts t n))
    (kept_trees ts t task))
    (open-tree ts t n o.form)

-- ---- loops with a scope for each turn, and others

own_by : (b : Bool) (inner : Addr) → (b ≡ true → ⊥) → (if b then None else Some inner) ≡ Some inner
own_by true inner h = absurd (h refl)
own_by false inner h = refl

pub own-scope : (info : ℕ) (inner : Addr) → (info ≡ 0 → ⊥) → turn_scope info inner ≡ Some inner
own-scope info inner h = own_by (nat_eq info 0) inner (λ e. h (eqb-true info 0 e))

pub with-scope : (info : ℕ) (inner : Addr) (later : Terms)
    → (info ≡ 0 → ⊥)
    → behind_body (turn_scope info inner) later ≡ part (loop stages.Body (turn_scope info inner)) end later
with-scope info inner later h =
    ap (λ s. behind_body s later) (own-scope info inner h)
    ∙ ap (λ s. part (loop stages.Body s) end later) (sym (own-scope info inner h))

pub first-with : (info : ℕ) (inner : Addr) (later : Terms)
    → (info ≡ 0 → ⊥)
    → behind_first (turn_scope info inner) later ≡ part (loop stages.First (turn_scope info inner)) end later
first-with info inner later h =
    ap (λ s. behind_first s later) (own-scope info inner h)
    ∙ ap (λ s. part (loop stages.First s) end later) (sym (own-scope info inner h))
