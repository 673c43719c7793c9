-- What a task comes to whose parts all have their values.
use Rattle.std.proofs.Common.{◌≡◌, ℕ, suc, ◌-◌, true, false, List, [], ◌∷◌, length, Option, None, Some, slice_get, refl, sym, ap, subst, ◌∙◌, arith}
use Rattle.std.specs.Prelude.{is_some}
use Rattle.js_heap.specs.declared.value.Addr.{Addr}
use Rattle.js_heap.specs.declared.value.Value.{Value}
use Rattle.js_heap.specs.declared.value.Value.TheVariants as values
use Rattle.js_semantics.specs.declared.form.Completion.{Completion}
use Rattle.js_semantics.specs.declared.form.Form.TheVariants.{Ending as ending}
use Rattle.js_semantics.specs.Terms.{Term, done, part, Terms, end, dones, last_value, at_test, at_body, behind_body, behind_first}
use Rattle.js_machine_nodes.specs.declared.op.Op.{Op}
use Rattle.js_machine_nodes.specs.declared.op.Op.TheVariants as ops
use Rattle.js_machine_nodes.specs.declared.node.ForOfEntry.{ForOfEntry}
use Rattle.js_machine_nodes.specs.declared.table.NodeTable.{NodeTable}
use Rattle.js_machine_nodes.specs.Forms.{turn_form, body_form}
use Rattle.js_machine_nodes.specs.Trees.{terms, tree, trees}
use Rattle.js_machine_engine.specs.declared.closing.Closing.{Closing}
use Rattle.js_machine_engine.specs.declared.closing.Closing.TheVariants as closings
use Rattle.js_machine_engine.specs.declared.closing.Next.{Next}
use Rattle.js_machine_engine.specs.declared.closing.Next.TheVariants as nexts
use Rattle.js_machine_engine.specs.declared.task.Extra.{Extra}
use Rattle.js_machine_engine.specs.declared.task.Task.{Task}
use Rattle.js_machine_engine.specs.Gaps.{plugged, resettled}
use Rattle.js_machine_engine.specs.Tasks.{Wide, index_of, kept_of, form_in, task_form, later_of, gaps_of, scope_of, InScopes}
use Rattle.js_machine_engine.specs.Points.{row_term, IsAtRow}
use Rattle.js_machine_engine.specs.Stacks.{op_of, has_extra, wide, values_of, extra_of, outer_of, without_values, changed, OwnsOnly}
use Rattle.js_machine_engine.specs.Parts.{IsNextPart}
use Rattle.js_machine_engine.specs.Settling.{closing_of, closed, next_turn_term, ended_term, settled_row, Through, Comes, restaged, IsInnermost, kept_trees, looped}
use Rattle.js_machine_nodes.proofs.TreeLemmas.{kids-end}
use Rattle.js_machine_engine.proofs.SettleLemmas.{resettled-part, parts-within, within_parts, scopes-next, scope-next, outer-next, row-next}
use Rattle.js_machine_engine.proofs.FinishLemmas.{closes, turn-scope, ending-scope}
use Rattle.js_machine_engine.proofs.StageLemmas.{comes-through, comes-row, comes-part, comes-value, through-refl}

-- ---- the class of the form

pub row-closes : (ts : List (List ℕ)) (t : NodeTable) (w : Wide) (ws : List Wide) (c : Closing)
    → closing_of w.op ≡ c
    → settled_row ts t (w ∷ ws) ≡ resettled (gaps_of ts t ws)
    (closed ts t w.op w.info w.inner w.extra (dones w.values) (later_of ts t w) c)
row-closes ts t w ws c e =
    ap (resettled (gaps_of ts t ws)) (closes ts t w (dones w.values) (later_of ts t w))
    ∙ ap (λ x. resettled (gaps_of ts t ws)
    (closed ts t w.op w.info w.inner w.extra (dones w.values) (later_of ts t w) x))
    e

-- the same of a stack whose innermost task has these fields
pub stack-closes : (ts : List (List ℕ)) (t : NodeTable) (old : List Wide) (task : Task) (e : Option Extra) (c : Closing)
    → IsInnermost task e old
    → closing_of task.op ≡ c
    → settled_row ts t old ≡ resettled (gaps_of ts t (outer_of old))
    (closed ts t task.op task.info task.inner e (dones (values_of old))
    (later_of ts t (wide task (values_of old) e)) c)
stack-closes ts t old task e c i h =
    ap (settled_row ts t) i ∙ row-closes ts t (wide task (values_of old) e) (outer_of old) c h

pub innermost-none : (old : List Wide) (task : Task)
    → IsInnermost task (extra_of old) old
    → OwnsOnly old
    → has_extra task.op task.info ≡ false
    → IsInnermost task None old
innermost-none old task i o h =
    let P : List Wide → Type 0 = OwnsOnly in
    let q : OwnsOnly (wide task (values_of old) (extra_of old) ∷ outer_of old) = subst P i o in
    i ∙ ap (λ e. wide task (values_of old) e ∷ outer_of old) (q h)

-- ---- a form that waits

form_row : (ts : List (List ℕ)) (t : NodeTable) (w : Wide) (ws : List Wide)
    → plugged (gaps_of ts t ws) (part (form_in ts t w.op w.info w.inner w.extra) (dones w.values) (later_of ts t w))
    ≡ row_term ts t (w ∷ ws)
unfolding task_form
form_row ts t w ws = refl

waits_at : (ts : List (List ℕ)) (t : NodeTable) (w : Wide) (ws : List Wide)
    → closing_of w.op ≡ closings.Waits
    → settled_row ts t (w ∷ ws) ≡ row_term ts t (w ∷ ws)
waits_at ts t w ws e =
    row-closes ts t w ws closings.Waits e
    ∙ resettled-part (gaps_of ts t ws) (form_in ts t w.op w.info w.inner w.extra) (dones w.values) (later_of ts t w)
    ∙ form_row ts t w ws

pub waits-term : (ts : List (List ℕ)) (t : NodeTable) (old : List Wide) (task : Task) (e : Option Extra)
    → IsInnermost task e old
    → closing_of task.op ≡ closings.Waits
    → settled_row ts t old ≡ row_term ts t old
waits-term ts t old task e i h =
    ap (settled_row ts t) i ∙ waits_at ts t (wide task (values_of old) e) (outer_of old) h ∙ ap (row_term ts t) (sym i)

pub waits-comes : (t : NodeTable) (old : List Wide) (task : Task) (e : Option Extra)
    → IsInnermost task e old
    → closing_of task.op ≡ closings.Waits
    → IsAtRow old
    → Comes t old old (λ ts. settled_row ts t old) nexts.Row
waits-comes t old task e i h r =
    comes-row t old old (λ ts. settled_row ts t old) (through-refl t old) r (λ ts. waits-term ts t old task e i h)

pub row-waits : (t : NodeTable) (old : List Wide)
    → closing_of (op_of old) ≡ closings.Waits
    → IsAtRow old
    → Comes t old old (λ ts. settled_row ts t old) nexts.Row
row-waits t [] h r = absurd r
row-waits t (w ∷ ws) h r =
    comes-row t (w ∷ ws) (w ∷ ws) (λ ts. settled_row ts t (w ∷ ws)) (through-refl t (w ∷ ws)) r
    (λ ts. waits_at ts t w ws h)

-- ---- a form that has a value

pub undefined-comes : (t : NodeTable) (old new : List Wide) (task : Task) (e : Option Extra)
    → IsInnermost task e old
    → closing_of task.op ≡ closings.Undefined
    → new ≡ outer_of old
    → Comes t old new (λ ts. settled_row ts t old) (nexts.Value values.Undefined)
undefined-comes t old new task e i h o =
    comes-value t old new (λ ts. settled_row ts t old) values.Undefined o
    (λ ts. stack-closes ts t old task e closings.Undefined i h
    ∙ ap (λ ws. resettled (gaps_of ts t ws) (done values.Undefined)) (sym o))

pub last-comes : (t : NodeTable) (old new : List Wide) (task : Task) (e : Option Extra) (v : Value)
    → IsInnermost task e old
    → closing_of task.op ≡ closings.Last
    → v ≡ last_value values.Undefined (dones (values_of old))
    → new ≡ outer_of old
    → Comes t old new (λ ts. settled_row ts t old) (nexts.Value v)
last-comes t old new task e v i h q o =
    comes-value t old new (λ ts. settled_row ts t old) v o
    (λ ts. stack-closes ts t old task e closings.Last i h
    ∙ ap (λ x. resettled (gaps_of ts t (outer_of old)) (done x)) (sym q)
    ∙ ap (λ ws. resettled (gaps_of ts t ws) (done v)) (sym o))

-- ---- loops

pub loop-comes : (t : NodeTable) (old new : List Wide) (task : Task) (next : Next) (f : Option Addr → Terms → Term)
    → ((ts : List (List ℕ)) → settled_row ts t old ≡ looped ts t old f task)
    → Comes t old new (λ ts. looped ts t old f task) next
    → Comes t old new (λ ts. settled_row ts t old) next
loop-comes t old new task next f e c =
    comes-through t old old new (λ ts. settled_row ts t old) (λ ts. looped ts t old f task) next (through-refl t old)
    e c

pub first-term : (t : NodeTable) (old : List Wide) (task : Task)
    → IsInnermost task None old
    → closing_of task.op ≡ closings.First
    → (ts : List (List ℕ))
    → settled_row ts t old ≡ looped ts t old behind_first task
first-term t old task i h ts = stack-closes ts t old task None closings.First i h

pub doing-term : (t : NodeTable) (old : List Wide) (task : Task)
    → IsInnermost task None old
    → closing_of task.op ≡ closings.Doing
    → (ts : List (List ℕ))
    → settled_row ts t old ≡ looped ts t old at_body task
doing-term t old task i h ts = stack-closes ts t old task None closings.Doing i h

pub body-term : (t : NodeTable) (old : List Wide) (task : Task)
    → IsInnermost task None old
    → closing_of task.op ≡ closings.Body
    → (ts : List (List ℕ))
    → settled_row ts t old ≡ looped ts t old behind_body task
body-term t old task i h ts = stack-closes ts t old task None closings.Body i h

pub updating-term : (t : NodeTable) (old : List Wide) (task : Task)
    → IsInnermost task None old
    → closing_of task.op ≡ closings.Updating
    → (ts : List (List ℕ))
    → settled_row ts t old ≡ looped ts t old at_test task
updating-term t old task i h ts = stack-closes ts t old task None closings.Updating i h

-- ---- a `for .. of` behind a turn

turn_scopes : (t : NodeTable) (root : Addr) (w : Wide) (ws : List Wide)
    → w.op ≡ ops.BodyOf
    → InScopes t root (w ∷ ws)
    → InScopes t root (restaged ops.TurnOf (w ∷ ws))
turn_scopes t root w ws e s = (
  λ ts. turn-scope ts t (record w { op = ops.TurnOf; at = w.mid; values = [] }) w (scope_of root ws) refl e
      ∙ s.0 ts,
  s.1,
)

turn_row : (ts : List (List ℕ)) (t : NodeTable) (w : Wide) (ws : List Wide)
    → row_term ts t (restaged ops.TurnOf (w ∷ ws)) ≡ plugged (gaps_of ts t ws)
    (part (turn_form ts (slice_get t.for_ofs.items w.info) (index_of w.extra)) end (later_of ts t w))
unfolding task_form
turn_row ts t w ws = refl

turn_some : (ts : List (List ℕ)) (o : Option ForOfEntry) (entry : ForOfEntry) (i : ℕ) (now later : Terms)
    → o ≡ Some entry
    → next_turn_term ts o i now later ≡ part (turn_form ts o i) end later
turn_some ts None entry i now later e = cc
turn_some ts (Some x) entry i now later e = refl

turn_none : (ts : List (List ℕ)) (o : Option ForOfEntry) (i : ℕ) (now later : Terms)
    → o ≡ None
    → next_turn_term ts o i now later ≡ part (body_form ts o i) now later
turn_none ts None i now later e = refl
turn_none ts (Some x) i now later e = cc

turn_at : (t : NodeTable) (w : Wide) (ws : List Wide) (entry : ForOfEntry)
    → w.op ≡ ops.BodyOf
    → slice_get t.for_ofs.items w.info ≡ Some entry
    → Comes t (w ∷ ws) (restaged ops.TurnOf (w ∷ ws)) (λ ts. settled_row ts t (w ∷ ws)) nexts.Row
turn_at t w ws entry o e =
    comes-row t (w ∷ ws) (restaged ops.TurnOf (w ∷ ws)) (λ ts. settled_row ts t (w ∷ ws))
    (record { outer = refl; inner = λ root. refl; scoped = λ root s. turn_scopes t root w ws o s })
    refl
    (λ ts. row-closes ts t w ws closings.Turn (ap closing_of o)
    ∙ ap (resettled (gaps_of ts t ws))
    (turn_some ts (slice_get t.for_ofs.items w.info) entry (index_of w.extra) (dones w.values) (later_of ts t w) e)
    ∙ resettled-part (gaps_of ts t ws) (turn_form ts (slice_get t.for_ofs.items w.info) (index_of w.extra)) end
    (later_of ts t w)
    ∙ sym (turn_row ts t w ws))

pub turn-comes : (t : NodeTable) (old new : List Wide) (task : Task) (e : Option Extra) (entry : ForOfEntry)
    → IsInnermost task e old
    → task.op ≡ ops.BodyOf
    → slice_get t.for_ofs.items task.info ≡ Some entry
    → new ≡ restaged ops.TurnOf old
    → Comes t old new (λ ts. settled_row ts t old) nexts.Row
turn-comes t old new task e entry i o g n =
    let P : List Wide → Type 0 = λ ws. Comes t ws (restaged ops.TurnOf ws) (λ ts. settled_row ts t ws) nexts.Row in
    let Q : List Wide → Type 0 = λ ws. Comes t old ws (λ ts. settled_row ts t old) nexts.Row in
    subst Q (sym n) (subst P (sym i) (turn_at t (wide task (values_of old) e) (outer_of old) entry o g))

body_row : (ts : List (List ℕ)) (t : NodeTable) (w : Wide) (ws : List Wide)
    → w.op ≡ ops.BodyOf
    → plugged (gaps_of ts t ws)
    (part (body_form ts (slice_get t.for_ofs.items w.info) (index_of w.extra)) (dones w.values) (later_of ts t w))
    ≡ row_term ts t (w ∷ ws)
unfolding task_form
body_row ts t w ws o =
    ap (λ op. plugged (gaps_of ts t ws)
    (part (form_in ts t op w.info w.inner w.extra) (dones w.values) (later_of ts t w)))
    (sym o)

no_turn_at : (ts : List (List ℕ)) (t : NodeTable) (w : Wide) (ws : List Wide)
    → w.op ≡ ops.BodyOf
    → slice_get t.for_ofs.items w.info ≡ None
    → settled_row ts t (w ∷ ws) ≡ row_term ts t (w ∷ ws)
no_turn_at ts t w ws o e =
    row-closes ts t w ws closings.Turn (ap closing_of o)
    ∙ ap (resettled (gaps_of ts t ws))
    (turn_none ts (slice_get t.for_ofs.items w.info) (index_of w.extra) (dones w.values) (later_of ts t w) e)
    ∙ resettled-part (gaps_of ts t ws) (body_form ts (slice_get t.for_ofs.items w.info) (index_of w.extra))
    (dones w.values) (later_of ts t w)
    ∙ body_row ts t w ws o

pub no-turn-comes : (t : NodeTable) (old : List Wide) (task : Task) (e : Option Extra)
    → IsInnermost task e old
    → task.op ≡ ops.BodyOf
    → slice_get t.for_ofs.items task.info ≡ None
    → IsAtRow old
    → Comes t old old (λ ts. settled_row ts t old) nexts.Row
no-turn-comes t old task e i o g r =
    comes-row t old old (λ ts. settled_row ts t old) (through-refl t old) r
    (λ ts. ap (settled_row ts t) i
    ∙ no_turn_at ts t (wide task (values_of old) e) (outer_of old) o g
    ∙ ap (row_term ts t) (sym i))

-- ---- a `finally` that ends

kept_some : (o : Option Completion) (now later : Terms)
    → is_some o ≡ true
    → ended_term o now later ≡ part (ending o) now later
kept_some None now later e = cc
kept_some (Some c) now later e = refl

kept_none : (o : Option Completion) (now later : Terms)
    → is_some o ≡ false
    → ended_term o now later ≡ done values.Undefined
kept_none None now later e = refl
kept_none (Some c) now later e = cc

ending_op : (op : Op) → closing_of op ≡ closings.Ending → op ≡ ops.Ending
ending_op ops.Ending e = refl
ending_op op e = cc

ending_row : (ts : List (List ℕ)) (t : NodeTable) (w : Wide) (ws : List Wide)
    → w.op ≡ ops.Ending
    → plugged (gaps_of ts t ws) (part (ending (kept_of w.extra)) (dones w.values) (later_of ts t w)) ≡ row_term ts t
    (w ∷ ws)
unfolding task_form
ending_row ts t w ws o =
    ap (λ op. plugged (gaps_of ts t ws)
    (part (form_in ts t op w.info w.inner w.extra) (dones w.values) (later_of ts t w)))
    (sym o)

kept_at : (ts : List (List ℕ)) (t : NodeTable) (w : Wide) (ws : List Wide)
    → closing_of w.op ≡ closings.Ending
    → is_some (kept_of w.extra) ≡ true
    → settled_row ts t (w ∷ ws) ≡ row_term ts t (w ∷ ws)
kept_at ts t w ws o k =
    row-closes ts t w ws closings.Ending o
    ∙ ap (resettled (gaps_of ts t ws)) (kept_some (kept_of w.extra) (dones w.values) (later_of ts t w) k)
    ∙ resettled-part (gaps_of ts t ws) (ending (kept_of w.extra)) (dones w.values) (later_of ts t w)
    ∙ ending_row ts t w ws (ending_op w.op o)

pub kept-comes : (t : NodeTable) (old : List Wide) (task : Task) (e : Option Extra)
    → IsInnermost task e old
    → closing_of task.op ≡ closings.Ending
    → is_some (kept_of e) ≡ true
    → IsAtRow old
    → Comes t old old (λ ts. settled_row ts t old) nexts.Row
kept-comes t old task e i o k r =
    comes-row t old old (λ ts. settled_row ts t old) (through-refl t old) r
    (λ ts. ap (settled_row ts t) i
    ∙ kept_at ts t (wide task (values_of old) e) (outer_of old) o k
    ∙ ap (row_term ts t) (sym i))

pub ended-comes : (t : NodeTable) (old new : List Wide) (task : Task) (e : Option Extra)
    → IsInnermost task e old
    → closing_of task.op ≡ closings.Ending
    → is_some (kept_of e) ≡ false
    → new ≡ outer_of old
    → Comes t old new (λ ts. settled_row ts t old) (nexts.Value values.Undefined)
ended-comes t old new task e i h k o =
    comes-value t old new (λ ts. settled_row ts t old) values.Undefined o
    (λ ts. stack-closes ts t old task e closings.Ending i h
    ∙ ap (resettled (gaps_of ts t (outer_of old)))
    (kept_none (kept_of e) (dones (values_of old)) (later_of ts t (wide task (values_of old) e)) k)
    ∙ ap (λ ws. resettled (gaps_of ts t ws) (done values.Undefined)) (sym o))

-- ---- a `finally` that begins

abbrev pub ended_by : ℕ → ℕ → List Wide → List Wide
ended_by mid stop ws = without_values (changed ops.Ending 0 mid stop ws)

finally_through : (t : NodeTable) (task : Task) (vs : List Value) (ws : List Wide)
    → task.op ≡ ops.Finishing
    → Through t (wide task vs None ∷ ws) (ended_by task.mid task.end (wide task vs None ∷ ws))
finally_through t task vs ws o =
    let w : Wide = wide task vs None in
    let u : Wide = record w { op = ops.Ending; info = 0; at = task.mid; mid = task.end; values = [] } in
    record {
      outer = refl;
      inner = λ root. refl;
      scoped = λ root s. (λ ts. ending-scope ts t u w (scope_of root ws) refl o ∙ s.0 ts, s.1);
    }

finally_form : (ts : List (List ℕ)) (t : NodeTable) (task : Task) (vs : List Value)
    → task_form ts t
    (record (wide task vs None) { op = ops.Ending; info = 0; at = task.mid; mid = task.end; values = [] })
    ≡ ending None
unfolding task_form
finally_form ts t task vs = refl

finally_term : (ts : List (List ℕ)) (t : NodeTable) (task : Task) (vs : List Value) (ws new : List Wide) (n : Option ℕ)
    → closing_of task.op ≡ closings.Finally
    → IsNextPart t (ended_by task.mid task.end (wide task vs None ∷ ws)) new n
    → settled_row ts t (wide task vs None ∷ ws) ≡ within_parts ts t new n
finally_term ts t task vs ws new n o i =
    let w : Wide = wide task vs None in
    let u : Wide = record w { op = ops.Ending; info = 0; at = task.mid; mid = task.end; values = [] } in
    row-closes ts t w ws closings.Finally o
    ∙ resettled-part (gaps_of ts t ws) (ending None) (kept_trees ts t task) end
    ∙ ap (λ ks. plugged (gaps_of ts t ws) (part (ending None) (kept_trees ts t task) (terms (tree ts t) ks)))
    (sym (kids-end t task.end task.end (omega arith)))
    ∙ ap (λ f. plugged (gaps_of ts t ws) (part f (kept_trees ts t task) (trees ts t task.end task.end)))
    (sym (finally_form ts t task vs))
    ∙ parts-within ts t u ws new n i

finally_row : (t : NodeTable) (task : Task) (vs : List Value) (ws new : List Wide)
    → task.op ≡ ops.Finishing
    → IsNextPart t (ended_by task.mid task.end (wide task vs None ∷ ws)) new None
    → Comes t (wide task vs None ∷ ws) new (λ ts. settled_row ts t (wide task vs None ∷ ws)) nexts.Row
finally_row t task vs ws new o i =
    let old : List Wide = wide task vs None ∷ ws in
    let m : List Wide = ended_by task.mid task.end old in
    let h : Through t old m = finally_through t task vs ws o in
    let u : Wide = record (wide task vs None)
    { op = ops.Ending; info = 0; at = task.mid; mid = task.end; values = [] } in
    comes-row t old new (λ ts. settled_row ts t old)
    (record {
      outer = outer-next t m new None i
          ∙ h.outer;
      inner = λ root. scope-next t root m new None i
          ∙ h.inner root;
      scoped = λ root s. scopes-next t root m new None i (h.scoped root s);
    })
    (row-next t u ws new i)
    (λ ts. finally_term ts t task vs ws new None (ap closing_of o) i)

finally_part : (t : NodeTable) (task : Task) (vs : List Value) (ws new : List Wide) (n : ℕ)
    → task.op ≡ ops.Finishing
    → IsNextPart t (ended_by task.mid task.end (wide task vs None ∷ ws)) new (Some n)
    → Comes t (wide task vs None ∷ ws) new (λ ts. settled_row ts t (wide task vs None ∷ ws)) (nexts.Part n)
finally_part t task vs ws new n o i =
    let old : List Wide = wide task vs None ∷ ws in
    let m : List Wide = ended_by task.mid task.end old in
    let h : Through t old m = finally_through t task vs ws o in
    comes-part t old new (λ ts. settled_row ts t old) n
    (record {
      outer = outer-next t m new (Some n) i
          ∙ h.outer;
      inner = λ root. scope-next t root m new (Some n) i
          ∙ h.inner root;
      scoped = λ root s. scopes-next t root m new (Some n) i (h.scoped root s);
    })
    i.part.form
    (λ ts. finally_term ts t task vs ws new (Some n) (ap closing_of o) i)

pub finally-row : (t : NodeTable) (old mid new : List Wide) (task : Task)
    → IsInnermost task None old
    → task.op ≡ ops.Finishing
    → mid ≡ ended_by task.mid task.end old
    → IsNextPart t mid new None
    → Comes t old new (λ ts. settled_row ts t old) nexts.Row
finally-row t old mid new task i o e n =
    let P : List Wide
    → Type 0 = λ ws. IsNextPart t (ended_by task.mid task.end ws) new None
    → Comes t ws new (λ ts. settled_row ts t ws) nexts.Row in
    let Q : List Wide → Type 0 = λ ws. IsNextPart t ws new None in
    subst P (sym i) (finally_row t task (values_of old) (outer_of old) new o) (subst Q e n)

pub finally-part : (t : NodeTable) (old mid new : List Wide) (task : Task) (n : ℕ)
    → IsInnermost task None old
    → task.op ≡ ops.Finishing
    → mid ≡ ended_by task.mid task.end old
    → IsNextPart t mid new (Some n)
    → Comes t old new (λ ts. settled_row ts t old) (nexts.Part n)
finally-part t old mid new task n i o e p =
    let P : List Wide
    → Type 0 = λ ws. IsNextPart t (ended_by task.mid task.end ws) new (Some n)
    → Comes t ws new (λ ts. settled_row ts t ws) (nexts.Part n) in
    let Q : List Wide → Type 0 = λ ws. IsNextPart t ws new (Some n) in
    subst P (sym i) (finally_part t task (values_of old) (outer_of old) new n o) (subst Q e p)

-- ---- the last value

last_get : (u : Value) (v : Value) (vs : List Value) (x : Value)
    → Some x ≡ slice_get (v ∷ vs) (length vs)
    → x ≡ last_value u (dones (v ∷ vs))
last_get u v [] x e = cc
last_get u v (w ∷ vs) x e = last_get v w vs x e

pub last-some : (vs : List Value) (x : Value)
    → Some x ≡ slice_get vs (length vs - 1)
    → x ≡ last_value values.Undefined (dones vs)
last-some [] x e = cc
last-some (v ∷ vs) x e =
    let n : suc (length vs) - 1 ≡ length vs = omega arith in
    last_get values.Undefined v vs x (e ∙ ap (λ k. slice_get (v ∷ vs) k) n)
