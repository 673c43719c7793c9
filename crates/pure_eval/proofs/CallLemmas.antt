-- The steps of a call: those of its callee, and then its own.
use Rattle.std.proofs.Common.{◌≡◌, ℕ, zero, suc, ◌+◌, ◌-◌, ◌<◌, ◌≤◌, Bool, true, false, if◌then◌else◌, List, [], ◌∷◌, ◌++◌, length, drop, get_or, None, Some, Err, Result, refl, sym, ap, subst, ◌∙◌, arith, append-nil, append_assoc}
use Rattle.std.specs.Prelude.{slice_get}
use Rattle.std.proofs.lemmas.List.{drop_all}
use Rattle.js_heap.specs.declared.value.Addr.{Addr}
use Rattle.js_heap.specs.declared.value.Value.{Value}
use Rattle.js_heap.specs.declared.value.Value.TheVariants as values
use Rattle.js_heap.specs.BuiltIns.{script_scope}
use Rattle.js_heap.specs.World.{World, Tried, fine}
use Rattle.js_heap.specs.Worlds.{Keeps}
use Rattle.js_heap.proofs.KeepLemmas.{keeps-trans}
use Rattle.js_semantics.specs.declared.form.Form.{Form}
use Rattle.js_semantics.specs.declared.form.Form.TheVariants.{Call as call}
use Rattle.js_semantics.specs.declared.form.Mark.TheVariants.{Beginning as beginning}
use Rattle.js_semantics.specs.Terms.{Term, done, part, end as no_terms, dones, is_done, all_done, settled}
use Rattle.js_semantics.specs.State.{State, StepTold, Move, goes, travels, has_effect, is_full, went, raised, printed_values}
use Rattle.js_semantics.specs.Functions.{Program}
use Rattle.js_semantics.specs.Next.{next, scope_in}
use Rattle.js_semantics.specs.Run.{Finish as AnyFinish, Run, over, by_effect, by_full, run_after, run_of, steps_in}
use Rattle.js_semantics.specs.Evaluation.{Argument, answer_of, answered, after_try, budget, call_with_values, evaluated, evaluation_state, make_arguments}
use Rattle.js_machine_actions.specs.Contexts.{Context, state_of, bare_context}
use Rattle.js_machine_actions.specs.Flow.{performed}
use Rattle.js_heap_memory.specs.declared.world.Refused.{Refused}
use Rattle.js_heap_memory.specs.declared.world.Refused.TheVariants.{Effect, Full, Memory}
use Rattle.js_heap_memory.specs.Calls.{Tries}
use Rattle.js_machine_nodes.specs.Lists.{Items}
use Rattle.js_machine_nodes.specs.declared.node.CallEntry.{CallEntry}
use Rattle.js_machine_nodes.specs.declared.op.Op.TheVariants as ops
use Rattle.js_machine_nodes.specs.declared.table.NodeTable.{NodeTable}
use Rattle.js_machine_nodes.specs.Forms.{call_form, form_of}
use Rattle.js_machine_nodes.specs.Trees.{program_of}
use Rattle.js_machine_compiler.specs.Grown.{Extends}
use Rattle.js_machine_compiler.proofs.GrownLemmas.{begins_same, same_nodes, same_places}
use Rattle.js_machine_engine.specs.declared.stepped.Finish.{Finish}
use Rattle.js_machine_engine.specs.declared.stepped.Stepped.{Stepped}
use Rattle.js_machine_engine.specs.declared.stepped.Stepped.TheVariants as steppeds
use Rattle.js_machine_engine.specs.declared.task.Point.{Point}
use Rattle.js_machine_engine.specs.declared.task.Point.TheVariants as points
use Rattle.js_machine_engine.specs.Gaps.{Gap, gap_parts, risen, resettled}
use Rattle.js_machine_engine.specs.Points.{term_at, IsAt}
use Rattle.js_machine_engine.specs.Stacks.{begun, with_value}
use Rattle.js_machine_engine.specs.Stepping.{finish_of, EndsSo, Tells, IfGoesOn, IsGoing, StandsIn}
use Rattle.js_machine_engine.specs.Tasks.{Wide, task_form, gaps_of}
use Rattle.js_machine_engine.proofs.GapLemmas.{next-within}
use Rattle.js_machine_engine.proofs.RunLemmas.{at-open, done_at}
use Rattle.pure_eval.specs.declared.calling.Callee.TheVariants as callees
use Rattle.pure_eval.specs.declared.evaluated.Evaluated.{Evaluated}
use Rattle.pure_eval.specs.declared.evaluated.Evaluated.TheVariants as ends
use Rattle.pure_eval.specs.Answering.{Answers, EndsIn, finished}
use Rattle.pure_eval.specs.Calling.{called, KeepsTo, HasCall, IsCallAdded, end_with, ComesTo, with_values}
use Rattle.pure_eval.specs.Leaving.{refused_end}
use Rattle.pure_eval.specs.Whole.{IsWhole}
use Rattle.pure_eval.proofs.EvaluatedLemmas.{over_answers, over_ends, answer_over, finished_ends, node-answers, node-world}
use Rattle.pure_eval.proofs.LeavingLemmas.{world_keeps}
use Rattle.pure_eval.proofs.StayLemmas.{finds-stay, sources-stay}
use Rattle.pure_eval.proofs.WholeLemmas.{closed-more, placed-more, within-more, closed-end, placed-end}
use Rattle.cdp_text.proofs.ListLemmas.{from-here, last_there}

-- ---- the entry of a call

abbrev with_calls : NodeTable → Items CallEntry → NodeTable
with_calls t cs = record t { calls = cs }

call_extends : (t : NodeTable) (cs : Items CallEntry) (e : CallEntry)
    → cs.items ≡ t.calls.items ++ e ∷ []
    → Extends t (with_calls t cs)
call_extends t cs e is = record {
  nodes = begins_same t.nodes.items;
  kids = begins_same t.kids.items;
  constants = begins_same t.constants.items;
  blocks = begins_same t.blocks.items;
  scripts = begins_same t.scripts.items;
  fors = begins_same t.fors.items;
  for_ofs = begins_same t.for_ofs.items;
  functions = begins_same t.functions.items;
  objects = begins_same t.objects.items;
  calls = record { rest = e ∷ []; is = is };
}

call_whole : (t : NodeTable) (cs : Items CallEntry) (e : CallEntry)
    → cs.items ≡ t.calls.items ++ e ∷ []
    → IsWhole t
    → IsWhole (with_calls t cs)
call_whole t cs e is h =
    let u : NodeTable = with_calls t cs in
    let x : Extends t u = call_extends t cs e is in
    record {
      table = same_nodes t u refl refl h.table;
      places = same_places t u refl (begins_same t.functions.items) h.places;
      functions =
          record {
            finds = λ ts i s g n. finds-stay t u s h.table h.closed h.placed x (h.sources i s g)
                (λ us m. h.functions.finds us i s g m) ts n;
          };
      closed = closed-more t u h.closed x (closed-end u (length t.nodes.items) (omega arith));
      placed = placed-more t u h.placed x (placed-end u (length t.functions.items) (omega arith));
      sources = λ i s g. within-more t u s x (h.sources i s g);
    }

pub call-added : (t : NodeTable) (cs : Items CallEntry) (e : CallEntry) (n : ℕ)
    → cs.items ≡ t.calls.items ++ e ∷ []
    → n ≡ length t.calls.items
    → call_form (Some e) ≡ call beginning 0
    → IsCallAdded t (with_calls t cs) n
call-added t cs e n is at form = record {
  whole = call_whole t cs e is;
  program =
      λ h ts. sources-stay ts t (with_calls t cs) t.sources.items h.table h.closed (call_extends t cs e is) h.sources;
  there =
      ap (λ m. call_form (slice_get cs.items m)) at
      ∙ ap (λ xs. call_form (slice_get xs (length t.calls.items))) is
      ∙ ap call_form (last_there t.calls.items e)
      ∙ form;
}

-- ---- a step of the callee is one of the call

abbrev call_gap : Value → List Value → Gap
call_gap receiver args =
    record { form = call beginning 0; before = receiver ∷ []; after = dones args; later = no_terms }

abbrev under : Addr → Value → List Value → Move Term → Move Term
under root receiver args m = risen root (call_gap receiver args) m

same_if : {A : Type 0} (b : Bool) (x : A) → (if b then x else x) ≡ x
same_if true x = refl
same_if false x = refl

call_waits : (receiver : Value) (t : Term) (args : List Value)
    → settled (call beginning 0) (gap_parts (call_gap receiver args) t) no_terms ≡ call_with_values receiver t args
call_waits receiver t args =
    same_if (all_done (gap_parts (call_gap receiver args) t)) (call_with_values receiver t args)

call_next : (p : Program) (root : Addr) (receiver : Value) (t : Term) (args : List Value) (s : State)
    → is_done t ≡ false
    → next p root (call_with_values receiver t args) s ≡ under root receiver args (next p root t s)
call_next p root receiver t args s h = next-within p root (call_gap receiver args ∷ []) t s h

goes_on : (root : Addr) (receiver : Value) (args : List Value) (m : Move Term) (t : Term) (s : State) (told : StepTold)
    → m ≡ goes t s told
    → run_after (under root receiver args m) ≡ run_of (call_with_values receiver t args) s
goes_on root receiver args m t s told e =
    ap (λ x. run_after (under root receiver args x)) e ∙ ap (λ x. run_of x s) (call_waits receiver t args)

went_on : (root : Addr) (receiver : Value) (args : List Value) (m : Move Term) (stepped : Stepped) (t : Term)
    (s : State)
    → Tells m stepped t s
    → end_with stepped ≡ None
    → run_after (under root receiver args m) ≡ run_of (call_with_values receiver t args) s
went_on root receiver args m steppeds.Went t s h e = goes_on root receiver args m t s went h
went_on root receiver args m steppeds.Raised t s h e = goes_on root receiver args m t s raised h
went_on root receiver args m (steppeds.Printed vs) t s h e =
    goes_on root receiver args m t s (printed_values vs.items) h
went_on root receiver args m (steppeds.Over f) t s h e = absurd cc
went_on root receiver args m steppeds.Effect t s h e = absurd cc
went_on root receiver args m (steppeds.Full what) t s h e = absurd cc
went_on root receiver args m steppeds.Memory t s h e = absurd cc

travels_on : (root : Addr) (receiver : Value) (args : List Value) (m : Move Term) (f : Finish) (s : State)
    → EndsSo m f s
    → run_after (under root receiver args m) ≡ over (finish_of f) s
unfolding performed
travels_on root receiver args (travels c u) f s h = ap (λ z. over z u) h.0 ∙ ap (over (finish_of f)) h.1
travels_on root receiver args (goes t u told) f s h = absurd h
travels_on root receiver args (has_effect u) f s h = absurd h
travels_on root receiver args (is_full what u) f s h = absurd h

-- the evaluation ends so, with the world of a state
abbrev EndsSoFar : Run → Evaluated → State → Type 0
EndsSoFar r e s = Answers (answer_of r) e s.world × EndsIn r e s.world

over_so_far : (left : ℕ) (p : Program) (root : Addr) (r : Run) (f : AnyFinish) (s : State) (e : Evaluated)
    → 1 ≤ left
    → steps_in 1 p root r ≡ over f s
    → EndsSoFar (over f s) e s
    → EndsSoFar (steps_in left p root r) e s
over_so_far left p root r f s e l o h =
    (over_answers 1 left p root r f s e l o h.0, over_ends 1 left p root r f s e l o h.1)

call_ends : (left : ℕ) (p : Program) (root : Addr) (receiver : Value) (args : List Value) (x : Term) (u : State)
    (m : Move Term) (stepped : Stepped) (t : Term) (s : State) (e : Evaluated)
    → 1 ≤ left
    → next p root (call_with_values receiver x args) u ≡ under root receiver args m
    → Tells m stepped t s
    → end_with stepped ≡ Some e
    → EndsSoFar (steps_in left p root (run_of (call_with_values receiver x args) u)) e s
call_ends left p root receiver args x u m (steppeds.Over f) t s e l n h g =
    let q : finished f ≡ e = cc in
    let r : Run = run_of (call_with_values receiver x args) u in
    let P : Evaluated → Type 0 = λ z. EndsSoFar (steps_in left p root r) z s in
    subst P q
    (over_so_far left p root r (finish_of f) s (finished f) l
    (ap run_after n ∙ travels_on root receiver args m f s h) (answer_over f s, finished_ends f s))
call_ends left p root receiver args x u m steppeds.Effect t s e l n h g =
    let q : ends.Effect ≡ e = cc in
    let r : Run = run_of (call_with_values receiver x args) u in
    let P : Evaluated → Type 0 = λ z. EndsSoFar (steps_in left p root r) z s in
    subst P q
    (over_so_far left p root r by_effect s ends.Effect l
    (ap run_after n ∙ ap (λ z. run_after (under root receiver args z)) h) (refl, refl))
call_ends left p root receiver args x u m (steppeds.Full what) t s e l n h g =
    let q : ends.Full what ≡ e = cc in
    let r : Run = run_of (call_with_values receiver x args) u in
    let P : Evaluated → Type 0 = λ z. EndsSoFar (steps_in left p root r) z s in
    subst P q
    (over_so_far left p root r (by_full what) s (ends.Full what) l
    (ap run_after n ∙ ap (λ z. run_after (under root receiver args z)) h) (refl, refl))
call_ends left p root receiver args x u m steppeds.Memory t s e l n h g =
    let q : ends.Memory ≡ e = cc in
    let r : Run = run_of (call_with_values receiver x args) u in
    let P : Evaluated → Type 0 = λ z. EndsSoFar (steps_in left p root r) z s in
    subst P q (tt, tt)
call_ends left p root receiver args x u m steppeds.Went t s e l n h g = absurd cc
call_ends left p root receiver args x u m steppeds.Raised t s e l n h g = absurd cc
call_ends left p root receiver args x u m (steppeds.Printed vs) t s e l n h g = absurd cc

one_left : (left : ℕ) (p : Program) (root : Addr) (receiver : Value) (args : List Value) (x : Term) (u : State)
    (r : Run)
    → 0 < left
    → run_after (next p root (call_with_values receiver x args) u) ≡ r
    → steps_in left p root (run_of (call_with_values receiver x args) u) ≡ steps_in (left - 1) p root r
one_left left p root receiver args x u r l e =
    let f : left ≡ suc (left - 1) = omega arith in
    ap (λ n. steps_in n p root (run_of (call_with_values receiver x args) u)) f ∙ ap (steps_in (left - 1) p root) e

-- ---- the loop

-- the steps that are left lead from here where all lead from the beginning
pub record CalleeOn (ts : List (List ℕ)) (t : NodeTable) (root : Addr) (ws : List Wide) (p : Point) (w : World)
    (c : Context) (most left : ℕ) (vs : List Wide) (q : Point) (v : World) (d : Context) : Type 0 where
  pub runs : (taken : List (List ℕ)) (receiver : Value) (args : List Value)
      → steps_in left (program_of ts t) root
      (run_of (call_with_values receiver (term_at ts t vs q) args) (state_of v d taken)) ≡ steps_in most
      (program_of ts t) root (run_of (call_with_values receiver (term_at ts t ws p) args) (state_of w c taken))
  pub stands : StandsIn t root vs q

pub callee-first : (ts : List (List ℕ)) (t : NodeTable) (root : Addr) (ws : List Wide) (p : Point) (w : World)
    (c : Context) (most : ℕ)
    → StandsIn t root ws p
    → CalleeOn ts t root ws p w c most most ws p w c
callee-first ts t root ws p w c most s = record { runs = λ taken receiver args. refl; stands = s }

stands_on : (stepped : Stepped) (P : Type 0) → end_with stepped ≡ None → IfGoesOn stepped P → P
stands_on steppeds.Went P e h = h
stands_on steppeds.Raised P e h = h
stands_on (steppeds.Printed vs) P e h = h
stands_on (steppeds.Over f) P e h = absurd cc
stands_on steppeds.Effect P e h = absurd cc
stands_on (steppeds.Full what) P e h = absurd cc
stands_on steppeds.Memory P e h = absurd cc

pub callee-next : (ts : List (List ℕ)) (t : NodeTable) (root : Addr) (ws vs us : List Wide) (p q o : Point)
    (w v x : World) (c d e : Context) (most left : ℕ) (stepped : Stepped)
    → CalleeOn ts t root ws p w c most left vs q v d
    → 0 < left
    → IsGoing q
    → ((taken : List (List ℕ))
    → Tells (next (program_of ts t) root (term_at ts t vs q) (state_of v d taken)) stepped (term_at ts t us o)
    (state_of x e taken))
    → IfGoesOn stepped (StandsIn t root us o)
    → end_with stepped ≡ None
    → CalleeOn ts t root ws p w c most (left - 1) us o x e
callee-next ts t root ws vs us p q o w v x c d e most left stepped i l g told s n = record {
  runs = λ taken receiver args.
      sym (one_left left (program_of ts t) root receiver args (term_at ts t vs q) (state_of v d taken)
      (run_of (call_with_values receiver (term_at ts t us o) args) (state_of x e taken)) l
      (ap run_after
      (call_next (program_of ts t) root receiver (term_at ts t vs q) args (state_of v d taken)
      (at-open ts t vs q i.stands.at g))
      ∙ went_on root receiver args (next (program_of ts t) root (term_at ts t vs q) (state_of v d taken)) stepped
      (term_at ts t us o) (state_of x e taken) (told taken) n))
      ∙ i.runs taken receiver args;
  stands = stands_on stepped (StandsIn t root us o) n s;
}

pub callee-ends : (ts : List (List ℕ)) (t : NodeTable) (root : Addr) (ws vs us : List Wide) (p q o : Point)
    (w v x : World) (c d e : Context) (most left : ℕ) (stepped : Stepped) (how : Evaluated)
    → CalleeOn ts t root ws p w c most left vs q v d
    → 0 < left
    → IsGoing q
    → ((taken : List (List ℕ))
    → Tells (next (program_of ts t) root (term_at ts t vs q) (state_of v d taken)) stepped (term_at ts t us o)
    (state_of x e taken))
    → end_with stepped ≡ Some how
    → (taken : List (List ℕ)) (receiver : Value) (args : List Value)
    → ComesTo (program_of ts t) root most
    (run_of (call_with_values receiver (term_at ts t ws p) args) (state_of w c taken)) receiver args
    (callees.Ended how) (state_of x e taken)
callee-ends ts t root ws vs us p q o w v x c d e most left stepped how i l g told n = λ taken receiver args.
    let P : Run → Type 0 = λ r. EndsSoFar r how (state_of x e taken) in
    subst P (i.runs taken receiver args)
    (call_ends left (program_of ts t) root receiver args (term_at ts t vs q) (state_of v d taken)
    (next (program_of ts t) root (term_at ts t vs q) (state_of v d taken)) stepped (term_at ts t us o)
    (state_of x e taken) how (omega (arith, l))
    (call_next (program_of ts t) root receiver (term_at ts t vs q) args (state_of v d taken)
    (at-open ts t vs q i.stands.at g))
    (told taken) n)

pub callee-spent : (ts : List (List ℕ)) (t : NodeTable) (root : Addr) (ws vs : List Wide) (p q : Point) (w v : World)
    (c d : Context) (most left : ℕ)
    → CalleeOn ts t root ws p w c most left vs q v d
    → left ≡ 0
    → (taken : List (List ℕ)) (receiver : Value) (args : List Value)
    → ComesTo (program_of ts t) root most
    (run_of (call_with_values receiver (term_at ts t ws p) args) (state_of w c taken)) receiver args
    (callees.Ended ends.Spent) (state_of v d taken)
callee-spent ts t root ws vs p q w v c d most left i z = λ taken receiver args.
    let P : Run → Type 0 = λ r. EndsSoFar r ends.Spent (state_of v d taken) in
    let e : run_of (call_with_values receiver (term_at ts t vs q) args) (state_of v d taken) ≡ steps_in left
    (program_of ts t) root (run_of (call_with_values receiver (term_at ts t vs q) args) (state_of v d taken)) =
    ap (λ n. steps_in n (program_of ts t) root
    (run_of (call_with_values receiver (term_at ts t vs q) args) (state_of v d taken)))
    (sym z) in
    subst P (e ∙ i.runs taken receiver args) (refl, refl)

done_there : (ts : List (List ℕ)) (t : NodeTable) (vs : List Wide) (q : Point) (value : Value)
    → q ≡ points.Done value
    → IsAt t vs q
    → term_at ts t vs q ≡ done value
done_there ts t vs q value e h =
    let P : Point → Type 0 = λ o. IsAt t vs o in
    let k : vs ≡ [] = subst P e h in
    ap (term_at ts t vs) e ∙ ap (λ xs. term_at ts t xs (points.Done value)) k ∙ done_at ts t value

pub callee-reduced : (ts : List (List ℕ)) (t : NodeTable) (root : Addr) (ws vs : List Wide) (p q : Point) (w v : World)
    (c d : Context) (most left : ℕ) (value : Value)
    → CalleeOn ts t root ws p w c most left vs q v d
    → q ≡ points.Done value
    → (taken : List (List ℕ)) (receiver : Value) (args : List Value)
    → ComesTo (program_of ts t) root most
    (run_of (call_with_values receiver (term_at ts t ws p) args) (state_of w c taken)) receiver args
    (callees.Reduced value left) (state_of v d taken)
callee-reduced ts t root ws vs p q w v c d most left value i e = λ taken receiver args.
    sym (i.runs taken receiver args)
    ∙ ap (λ x. steps_in left (program_of ts t) root (run_of (call_with_values receiver x args) (state_of v d taken)))
    (done_there ts t vs q value e i.stands.at)

-- ---- the call's own step

one_pushed : (x : Value) (rest : List Value) (ws : List Wide)
    → with_values (x ∷ rest) ws ≡ with_values rest (with_value x ws)
one_pushed x rest [] = refl
one_pushed x rest (w ∷ ws) =
    let F : List Value → List Wide = λ vs. record w { values = vs } ∷ ws in
    ap F (sym (append_assoc w.values (x ∷ []) rest))

none_pushed : (ws : List Wide) → with_values [] ws ≡ ws
none_pushed [] = refl
none_pushed (w ∷ ws) =
    let F : List Value → List Wide = λ vs. record w { values = vs } ∷ ws in
    ap F (append-nil w.values)

get_same : (xs : List Value) (i : ℕ) (d e : Value) → i < length xs → get_or xs i d ≡ get_or xs i e
get_same [] i d e h = absurd (omega arith)
get_same (x ∷ xs) zero d e h = refl
get_same (x ∷ xs) (suc i) d e h = get_same xs i d e (omega arith)

pub values-next : (vs : List Value) (i : ℕ) (d : Value) (first old new : List Wide)
    → with_values (drop i vs) old ≡ with_values vs first
    → i < length vs
    → new ≡ with_value (get_or vs i d) old
    → with_values (drop (i + 1) vs) new ≡ with_values vs first
values-next vs i d first old new h l pushed =
    let x : Value = get_or vs i d in
    ap (with_values (drop (i + 1) vs)) pushed
    ∙ sym (one_pushed x (drop (i + 1) vs) old)
    ∙ ap (λ xs. with_values xs old) (sym (from-here vs i x l (get_same vs i d x l)))
    ∙ h

pub values-all : (vs : List Value) (i : ℕ) (first old : List Wide)
    → with_values (drop i vs) old ≡ with_values vs first
    → length vs ≤ i
    → old ≡ with_values vs first
values-all vs i first old h l = sym (none_pushed old) ∙ ap (λ xs. with_values xs old) (sym (drop_all i vs l)) ∙ h

abbrev call_task : ℕ → Addr → List Value → Wide
call_task n root vs = record (begun ops.Call n 0 0 0 root None) { values = vs }

call_at : (ts : List (List ℕ)) (t : NodeTable) (n : ℕ) (root : Addr) (receiver v : Value) (args : List Value)
    → HasCall t n
    → term_at ts t (call_task n root (receiver ∷ v ∷ args) ∷ []) points.Row ≡ call_with_values receiver (done v) args
unfolding term_at task_form form_of
call_at ts t n root receiver v args h =
    let F : Form → Term = λ f. part f (dones (receiver ∷ v ∷ args)) no_terms in
    ap F h

call_stands : (t : NodeTable) (n : ℕ) (root : Addr) (vs : List Value)
    → HasCall t n
    → StandsIn t root (call_task n root vs ∷ []) points.Row
unfolding task_form form_of
call_stands t n root vs h = record { at = refl; scoped = (λ ts. ap (λ f. scope_in f root) h, tt) }

begun_call : (n : ℕ) (root : Addr) (receiver v : Value) (args : List Value) (none first second third last : List Wide)
    → none ≡ []
    → first ≡ begun ops.Call n 0 0 0 root None ∷ none
    → second ≡ with_value receiver first
    → third ≡ with_value v second
    → last ≡ with_values args third
    → last ≡ call_task n root (receiver ∷ v ∷ args) ∷ []
begun_call n root receiver v args none first second third last e f g h i =
    i
    ∙ ap (with_values args)
    (h ∙ ap (with_value v) (g ∙ ap (with_value receiver) (f ∙ ap (λ ws. begun ops.Call n 0 0 0 root None ∷ ws) e)))

pub begun-term : (t : NodeTable) (n : ℕ) (root : Addr) (receiver v : Value) (args : List Value)
    (none first second third last : List Wide)
    → HasCall t n
    → none ≡ []
    → first ≡ begun ops.Call n 0 0 0 root None ∷ none
    → second ≡ with_value receiver first
    → third ≡ with_value v second
    → last ≡ with_values args third
    → (ts : List (List ℕ))
    → term_at ts t last points.Row ≡ call_with_values receiver (done v) args
begun-term t n root receiver v args none first second third last has e f g h i = λ ts.
    ap (λ ws. term_at ts t ws points.Row) (begun_call n root receiver v args none first second third last e f g h i)
    ∙ call_at ts t n root receiver v args has

pub begun-stands : (t : NodeTable) (n : ℕ) (root : Addr) (receiver v : Value) (args : List Value)
    (none first second third last : List Wide)
    → HasCall t n
    → none ≡ []
    → first ≡ begun ops.Call n 0 0 0 root None ∷ none
    → second ≡ with_value receiver first
    → third ≡ with_value v second
    → last ≡ with_values args third
    → StandsIn t root last points.Row
begun-stands t n root receiver v args none first second third last has e f g h i =
    let P : List Wide → Type 0 = λ ws. StandsIn t root ws points.Row in
    subst P (sym (begun_call n root receiver v args none first second third last e f g h i))
    (call_stands t n root (receiver ∷ v ∷ args) has)

-- ---- from a node on

pub reduced-answers : (n left : ℕ) (p : Program) (root : Addr) (first : Run) (receiver v : Value) (args : List Value)
    (s : State) (e : Evaluated) (w : World)
    → ComesTo p root n first receiver args (callees.Reduced v left) s
    → Answers (answer_of (steps_in left p root (run_of (call_with_values receiver (done v) args) s))) e w
    → Answers (answer_of (steps_in n p root first)) e w
reduced-answers n left p root first receiver v args s e w h k =
    let P : Run → Type 0 = λ r. Answers (answer_of r) e w in subst P (sym h) k

pub reduced-ends : (n left : ℕ) (p : Program) (root : Addr) (first : Run) (receiver v : Value) (args : List Value)
    (s : State) (e : Evaluated) (w : World)
    → ComesTo p root n first receiver args (callees.Reduced v left) s
    → EndsIn (steps_in left p root (run_of (call_with_values receiver (done v) args) s)) e w
    → EndsIn (steps_in n p root first) e w
reduced-ends n left p root first receiver v args s e w h k =
    let P : Run → Type 0 = λ r. EndsIn r e w in subst P (sym h) k

same_term : (ts : List (List ℕ)) (t : NodeTable) (old : List Wide) (x y : Term)
    → old ≡ []
    → resettled (gaps_of ts t old) x ≡ y
    → x ≡ y
same_term ts t old x y e f =
    let P : List Wide → Type 0 = λ ws. resettled (gaps_of ts t ws) x ≡ y in let k : P [] = subst P e f in k

pub call-answers : (p : Program) (a : Addr) (ts : List (List ℕ)) (t : NodeTable) (old : List Wide) (x y : Term)
    (args : List Value) (c : Context) (outer receiver : Value) (w v : World) (r : Evaluated)
    → old ≡ []
    → resettled (gaps_of ts t old) x ≡ y
    → c ≡ bare_context outer
    → Answers (answer_of (steps_in budget p a (run_of (call_with_values receiver y args) (state_of w c [])))) r v
    → Answers (evaluated p a outer w (call_with_values receiver x args)) r v
call-answers p a ts t old x y args c outer receiver w v r e f g h =
    node-answers p a ts t [] (call_with_values receiver x args) (call_with_values receiver y args) c outer w v r refl
    (ap (λ z. call_with_values receiver z args) (same_term ts t old x y e f)) g h

pub call-world : (p : Program) (a : Addr) (ts : List (List ℕ)) (t : NodeTable) (old : List Wide) (x y : Term)
    (args : List Value) (c : Context) (outer receiver : Value) (w v : World) (r : Evaluated)
    → old ≡ []
    → resettled (gaps_of ts t old) x ≡ y
    → c ≡ bare_context outer
    → EndsIn (steps_in budget p a (run_of (call_with_values receiver y args) (state_of w c []))) r v
    → EndsIn (steps_in budget p a (run_of (call_with_values receiver x args) (evaluation_state w outer))) r v
call-world p a ts t old x y args c outer receiver w v r e f g h =
    node-world p a ts t [] (call_with_values receiver x args) (call_with_values receiver y args) c outer w v r refl
    (ap (λ z. call_with_values receiver z args) (same_term ts t old x y e f)) g h

-- ---- with arguments

pub called-fine : (p : Program) (receiver : Value) (as_given : List Argument) (w v u : World) (callee : Term)
    (vs : List Value) (e : Evaluated)
    → make_arguments w as_given ≡ fine vs v
    → Answers (evaluated p script_scope values.Undefined v (call_with_values receiver callee vs)) e u
    → Answers (called p receiver as_given w callee) e u
called-fine p receiver as_given w v u callee vs e h k =
    let P : Tried (List Value)
    → Type 0 = λ t. Answers
    (answered (after_try t (λ xs z. fine (call_with_values receiver callee xs) z))
    (evaluated p script_scope values.Undefined))
    e u in
    subst P (sym h) k

pub called-refused : (p : Program) (receiver : Value) (as_given : List Argument) (w u : World) (callee : Term)
    (r : Refused)
    → (let s : Result (List Value) Refused = Err r in Tries (make_arguments w as_given) s u)
    → Answers (called p receiver as_given w callee) (refused_end r) u
called-refused p receiver as_given w u callee Effect h =
    ap (λ t. answered (after_try t (λ xs z. fine (call_with_values receiver callee xs) z))
    (evaluated p script_scope values.Undefined))
    h
called-refused p receiver as_given w u callee (Full what) h =
    ap (λ t. answered (after_try t (λ xs z. fine (call_with_values receiver callee xs) z))
    (evaluated p script_scope values.Undefined))
    h
called-refused p receiver as_given w u callee Memory h = tt

-- ---- what stays

pub keeps-to : (e : Evaluated) (w v : World) → Keeps w v → KeepsTo e w v
keeps-to (ends.Value v) w u k = k
keeps-to (ends.Thrown v) w u k = k
keeps-to ends.Effect w u k = k
keeps-to (ends.Full what) w u k = k
keeps-to ends.Spent w u k = k
keeps-to ends.Memory w u k = tt

ends_keep : (n : ℕ) (p : Program) (a : Addr) (t : Term) (w v : World) (receiver : Value) (e : Evaluated)
    → EndsIn (steps_in n p a (run_of t (evaluation_state w receiver))) e v
    → KeepsTo e w v
ends_keep n p a t w v receiver (ends.Value u) h = world_keeps n p a t (evaluation_state w receiver) v h
ends_keep n p a t w v receiver (ends.Thrown u) h = world_keeps n p a t (evaluation_state w receiver) v h
ends_keep n p a t w v receiver ends.Effect h = world_keeps n p a t (evaluation_state w receiver) v h
ends_keep n p a t w v receiver (ends.Full what) h = world_keeps n p a t (evaluation_state w receiver) v h
ends_keep n p a t w v receiver ends.Spent h = world_keeps n p a t (evaluation_state w receiver) v h
ends_keep n p a t w v receiver ends.Memory h = tt

pub ends-keep : (p : Program) (a : Addr) (t : Term) (w v : World) (receiver : Value) (e : Evaluated)
    → EndsIn (steps_in budget p a (run_of t (evaluation_state w receiver))) e v
    → KeepsTo e w v
ends-keep p a t w v receiver e h = ends_keep budget p a t w v receiver e h

pub keeps-behind : (e : Evaluated) (w v u : World) → Keeps w v → KeepsTo e v u → KeepsTo e w u
keeps-behind (ends.Value x) w v u k h = keeps-trans w v u k h
keeps-behind (ends.Thrown x) w v u k h = keeps-trans w v u k h
keeps-behind ends.Effect w v u k h = keeps-trans w v u k h
keeps-behind (ends.Full what) w v u k h = keeps-trans w v u k h
keeps-behind ends.Spent w v u k h = keeps-trans w v u k h
keeps-behind ends.Memory w v u k h = tt
