-- The steps of an evaluation, one run after another.
use Rattle.std.proofs.Common.{◌≡◌, ℕ, zero, suc, ◌+◌, ◌-◌, ◌≤◌, false, List, [], Option, None, Some, refl, sym, ap, subst, ◌∙◌, arith}
use Rattle.js_heap.specs.declared.value.Addr.{Addr}
use Rattle.js_heap.specs.declared.value.Value.{Value}
use Rattle.js_heap.specs.World.{World}
use Rattle.js_semantics.specs.Terms.{Term, done, standing, part, is_done}
use Rattle.js_semantics.specs.State.{State}
use Rattle.js_semantics.specs.Functions.{Program}
use Rattle.js_semantics.specs.Evaluation.{answer_of, budget, evaluation_state, evaluated}
use Rattle.js_semantics.specs.Run.{Finish as AnyFinish, Run, over, run_of, steps_in}
use Rattle.js_machine_actions.specs.Contexts.{Context, state_of, bare_context}
use Rattle.js_machine_nodes.specs.declared.table.NodeTable.{NodeTable}
use Rattle.js_machine_nodes.specs.Trees.{program_of}
use Rattle.js_machine_engine.specs.declared.run.Why.{Why}
use Rattle.js_machine_engine.specs.declared.run.Why.TheVariants as whys
use Rattle.js_machine_engine.specs.declared.stepped.Finish.{Finish}
use Rattle.js_machine_engine.specs.declared.stepped.Finish.TheVariants as finishes
use Rattle.js_machine_engine.specs.declared.task.Point.{Point}
use Rattle.js_machine_engine.specs.declared.task.Point.TheVariants as points
use Rattle.js_machine_engine.specs.Gaps.{resettled}
use Rattle.js_machine_engine.specs.Tasks.{Wide, gaps_of}
use Rattle.js_machine_engine.specs.Points.{term_at, IsAt}
use Rattle.js_machine_engine.specs.Running.{RunsTo, IfGoes}
use Rattle.js_machine_engine.specs.Stepping.{finish_of, StandsIn}
use Rattle.js_machine_engine.proofs.RunLemmas.{at-open, done_at}
use Rattle.pure_eval.specs.declared.evaluated.Evaluated.{Evaluated}
use Rattle.pure_eval.specs.declared.evaluated.Evaluated.TheVariants as ends
use Rattle.pure_eval.specs.Answering.{Answers, EndsIn, finished, end_of, end_at}
use Rattle.js_semantics.proofs.FollowLemmas.{steps-more}

-- ---- runs one after another

over_stays : (k : ℕ) (p : Program) (a : Addr) (f : AnyFinish) (s : State) → steps_in k p a (over f s) ≡ over f s
over_stays zero p a f s = refl
over_stays (suc k) p a f s = over_stays k p a f s

-- so many steps of those that are left
then_left : (j k m : ℕ) (p : Program) (a : Addr) (r s : Run)
    → j ≤ k
    → m ≡ k - j
    → steps_in j p a r ≡ s
    → steps_in k p a r ≡ steps_in m p a s
then_left j k m p a r s h e f =
    let g : k ≡ j + m = omega arith in
    ap (λ n. steps_in n p a r) g ∙ steps-more j m p a r ∙ ap (steps_in m p a) f

-- ---- ends

pub answer_over : (f : Finish) (s : State) → Answers (answer_of (over (finish_of f) s)) (finished f) s.world
answer_over (finishes.Ended v) s = refl
answer_over (finishes.Threw v place) s = refl

pub over_answers : (j k : ℕ) (p : Program) (a : Addr) (r : Run) (f : AnyFinish) (s : State) (e : Evaluated)
    → j ≤ k
    → steps_in j p a r ≡ over f s
    → Answers (answer_of (over f s)) e s.world
    → Answers (answer_of (steps_in k p a r)) e s.world
over_answers j k p a r f s e h g i =
    let P : Run → Type 0 = λ x. Answers (answer_of x) e s.world in
    subst P (sym (then_left j k (k - j) p a r (over f s) h refl g ∙ over_stays (k - j) p a f s)) i

end_answers : (j k : ℕ) (p : Program) (a : Addr) (r : Run) (why : Why) (t : Term) (s : State) (e : Evaluated)
    → j ≤ k
    → RunsTo (steps_in j p a r) why t s
    → end_of why ≡ Some e
    → Answers (answer_of (steps_in k p a r)) e s.world
end_answers j k p a r (whys.Over f) t s e h g i =
    let q : finished f ≡ e = cc in
    let P : Evaluated → Type 0 = λ x. Answers (answer_of (steps_in k p a r)) x s.world in
    subst P q (over_answers j k p a r (finish_of f) s (finished f) h g (answer_over f s))
end_answers j k p a r whys.Effect t s e h g i =
    let q : ends.Effect ≡ e = cc in
    let P : Evaluated → Type 0 = λ x. Answers (answer_of (steps_in k p a r)) x s.world in
    subst P q (over_answers j k p a r _ s ends.Effect h g refl)
end_answers j k p a r (whys.Full what) t s e h g i =
    let q : ends.Full what ≡ e = cc in
    let P : Evaluated → Type 0 = λ x. Answers (answer_of (steps_in k p a r)) x s.world in
    subst P q (over_answers j k p a r _ s (ends.Full what) h g refl)
end_answers j k p a r whys.Memory t s e h g i =
    let q : ends.Memory ≡ e = cc in
    let P : Evaluated → Type 0 = λ x. Answers (answer_of (steps_in k p a r)) x s.world in
    subst P q tt
end_answers j k p a r whys.Asked t s e h g i = absurd cc
end_answers j k p a r whys.Spent t s e h g i = absurd cc
end_answers j k p a r whys.Raised t s e h g i = absurd cc
end_answers j k p a r (whys.Printed vs) t s e h g i = absurd cc

-- where it ends on the way
pub end-answers : (j left most : ℕ) (p : Program) (a : Addr) (r first : Run) (why : Why) (t : Term) (s : State)
    (e : Evaluated)
    → steps_in left p a r ≡ steps_in most p a first
    → j ≤ left
    → RunsTo (steps_in j p a r) why t s
    → end_of why ≡ Some e
    → Answers (answer_of (steps_in most p a first)) e s.world
end-answers j left most p a r first why t s e inv h g i =
    let P : Run → Type 0 = λ x. Answers (answer_of x) e s.world in
    subst P inv (end_answers j left p a r why t s e h g i)

-- ---- the world behind it

pub over_ends : (j k : ℕ) (p : Program) (a : Addr) (r : Run) (f : AnyFinish) (s : State) (e : Evaluated)
    → j ≤ k
    → steps_in j p a r ≡ over f s
    → EndsIn (over f s) e s.world
    → EndsIn (steps_in k p a r) e s.world
over_ends j k p a r f s e h g i =
    let P : Run → Type 0 = λ x. EndsIn x e s.world in
    subst P (sym (then_left j k (k - j) p a r (over f s) h refl g ∙ over_stays (k - j) p a f s)) i

pub finished_ends : (f : Finish) (s : State) → EndsIn (over (finish_of f) s) (finished f) s.world
finished_ends (finishes.Ended v) s = refl
finished_ends (finishes.Threw v place) s = refl

end_ends : (j k : ℕ) (p : Program) (a : Addr) (r : Run) (why : Why) (t : Term) (s : State) (e : Evaluated)
    → j ≤ k
    → RunsTo (steps_in j p a r) why t s
    → end_of why ≡ Some e
    → EndsIn (steps_in k p a r) e s.world
end_ends j k p a r (whys.Over f) t s e h g i =
    let q : finished f ≡ e = cc in
    let P : Evaluated → Type 0 = λ x. EndsIn (steps_in k p a r) x s.world in
    subst P q (over_ends j k p a r (finish_of f) s (finished f) h g (finished_ends f s))
end_ends j k p a r whys.Effect t s e h g i =
    let q : ends.Effect ≡ e = cc in
    let P : Evaluated → Type 0 = λ x. EndsIn (steps_in k p a r) x s.world in
    subst P q (over_ends j k p a r _ s ends.Effect h g refl)
end_ends j k p a r (whys.Full what) t s e h g i =
    let q : ends.Full what ≡ e = cc in
    let P : Evaluated → Type 0 = λ x. EndsIn (steps_in k p a r) x s.world in
    subst P q (over_ends j k p a r _ s (ends.Full what) h g refl)
end_ends j k p a r whys.Memory t s e h g i =
    let q : ends.Memory ≡ e = cc in
    let P : Evaluated → Type 0 = λ x. EndsIn (steps_in k p a r) x s.world in
    subst P q tt
end_ends j k p a r whys.Asked t s e h g i = absurd cc
end_ends j k p a r whys.Spent t s e h g i = absurd cc
end_ends j k p a r whys.Raised t s e h g i = absurd cc
end_ends j k p a r (whys.Printed vs) t s e h g i = absurd cc

pub end-ends : (j left most : ℕ) (p : Program) (a : Addr) (r first : Run) (why : Why) (t : Term) (s : State)
    (e : Evaluated)
    → steps_in left p a r ≡ steps_in most p a first
    → j ≤ left
    → RunsTo (steps_in j p a r) why t s
    → end_of why ≡ Some e
    → EndsIn (steps_in most p a first) e s.world
end-ends j left most p a r first why t s e inv h g i =
    let P : Run → Type 0 = λ x. EndsIn x e s.world in
    subst P inv (end_ends j left p a r why t s e h g i)

-- ---- going on

goes_to : (r : Run) (why : Why) (t : Term) (s : State) → RunsTo r why t s → end_of why ≡ None → r ≡ run_of t s
goes_to r (whys.Over f) t s h e = absurd cc
goes_to r whys.Effect t s h e = absurd cc
goes_to r (whys.Full what) t s h e = absurd cc
goes_to r whys.Memory t s h e = absurd cc
goes_to r whys.Asked t s h e = h
goes_to r whys.Spent t s h e = h
goes_to r whys.Raised t s h e = h
goes_to r (whys.Printed vs) t s h e = h

pub goes-on : (j left most : ℕ) (p : Program) (a : Addr) (r first : Run) (why : Why) (t : Term) (s : State)
    → steps_in left p a r ≡ steps_in most p a first
    → j ≤ left
    → RunsTo (steps_in j p a r) why t s
    → end_of why ≡ None
    → steps_in (left - j) p a (run_of t s) ≡ steps_in most p a first
goes-on j left most p a r first why t s inv h g e =
    sym (then_left j left (left - j) p a r (run_of t s) h refl (goes_to (steps_in j p a r) why t s g e)) ∙ inv

pub stands-on : (why : Why) (P : Type 0) → end_of why ≡ None → IfGoes why P → P
stands-on (whys.Over f) P e h = absurd cc
stands-on whys.Effect P e h = absurd cc
stands-on (whys.Full what) P e h = absurd cc
stands-on whys.Memory P e h = absurd cc
stands-on whys.Asked P e h = h
stands-on whys.Spent P e h = h
stands-on whys.Raised P e h = h
stands-on (whys.Printed vs) P e h = h

-- ---- all steps are made

open_spent : (t : Term) (s : State) (w : _) → is_done t ≡ false → Answers (answer_of (run_of t s)) ends.Spent w
open_spent (done v) s w h = absurd cc
open_spent (standing v place) s w h = refl
open_spent (part f now later) s w h = refl

at_end : (ts : List (List ℕ)) (t : NodeTable) (ws : List Wide) (q : Point) (s : State)
    → IsAt t ws q
    → Answers (answer_of (run_of (term_at ts t ws q) s)) (end_at q) s.world
at_end ts t ws points.Row s h = open_spent (term_at ts t ws points.Row) s s.world (at-open ts t ws points.Row h tt)
at_end ts t ws (points.Leaf n) s h =
    open_spent (term_at ts t ws (points.Leaf n)) s s.world (at-open ts t ws (points.Leaf n) h tt)
at_end ts t ws (points.Stands v place) s h =
    open_spent (term_at ts t ws (points.Stands v place)) s s.world (at-open ts t ws (points.Stands v place) h tt)
at_end ts t ws (points.Done v) s h =
    let P : Term → Type 0 = λ x. Answers (answer_of (run_of x s)) (ends.Value v) s.world in
    let Q : List Wide
    → Type 0 = λ xs. Answers (answer_of (run_of (term_at ts t xs (points.Done v)) s)) (ends.Value v) s.world in
    subst Q (sym h) (subst P (sym (done_at ts t v)) refl)

pub spent-answers : (left most : ℕ) (p : Program) (a : Addr) (first : Run) (ts : List (List ℕ)) (t : NodeTable)
    (ws : List Wide) (q : Point) (s : State) (end : Evaluated)
    → steps_in left p a (run_of (term_at ts t ws q) s) ≡ steps_in most p a first
    → left ≡ 0
    → IsAt t ws q
    → end ≡ end_at q
    → Answers (answer_of (steps_in most p a first)) end s.world
spent-answers left most p a first ts t ws q s end inv z h k =
    let r : Run = run_of (term_at ts t ws q) s in
    let P : Run → Type 0 = λ x. Answers (answer_of x) (end_at q) s.world in
    let Q : Evaluated → Type 0 = λ x. Answers (answer_of (steps_in most p a first)) x s.world in
    let e : r ≡ steps_in left p a r = ap (λ n. steps_in n p a r) (sym z) in
    subst Q (sym k) (subst P (e ∙ inv) (at_end ts t ws q s h))

run_world : (t : Term) (s : State) (q : Point) → EndsIn (run_of t s) (end_at q) s.world
run_world (done v) s points.Row = refl
run_world (done v) s (points.Leaf n) = refl
run_world (done v) s (points.Stands u place) = refl
run_world (done v) s (points.Done u) = refl
run_world (standing v place) s points.Row = refl
run_world (standing v place) s (points.Leaf n) = refl
run_world (standing v place) s (points.Stands u spot) = refl
run_world (standing v place) s (points.Done u) = refl
run_world (part f now later) s points.Row = refl
run_world (part f now later) s (points.Leaf n) = refl
run_world (part f now later) s (points.Stands u place) = refl
run_world (part f now later) s (points.Done u) = refl

pub spent-ends : (left most : ℕ) (p : Program) (a : Addr) (first : Run) (t : Term) (q : Point) (s : State)
    (end : Evaluated)
    → steps_in left p a (run_of t s) ≡ steps_in most p a first
    → left ≡ 0
    → end ≡ end_at q
    → EndsIn (steps_in most p a first) end s.world
spent-ends left most p a first t q s end inv z k =
    let r : Run = run_of t s in
    let P : Run → Type 0 = λ x. EndsIn x (end_at q) s.world in
    let Q : Evaluated → Type 0 = λ x. EndsIn (steps_in most p a first) x s.world in
    let e : r ≡ steps_in left p a r = ap (λ n. steps_in n p a r) (sym z) in
    subst Q (sym k) (subst P (e ∙ inv) (run_world t s q))

pub no-end : (o : Option Evaluated) → ((e : Evaluated) → o ≡ Some e → ⊥) → o ≡ None
no-end None h = refl
no-end (Some e) h = absurd (h e refl)

-- ---- the loop

-- the steps that are left lead from here where all lead from the beginning
pub record RunsOn (ts : List (List ℕ)) (t : NodeTable) (root : Addr) (ws : List Wide) (p : Point) (w : World)
    (c : Context) (most left : ℕ) (vs : List Wide) (q : Point) (v : World) (d : Context) : Type 0 where
  pub runs : (taken : List (List ℕ))
      → steps_in left (program_of ts t) root (run_of (term_at ts t vs q) (state_of v d taken)) ≡ steps_in most
      (program_of ts t) root (run_of (term_at ts t ws p) (state_of w c taken))
  pub stands : StandsIn t root vs q

-- the loop goes on
pub runs-on : (ts : List (List ℕ)) (t : NodeTable) (root : Addr) (ws vs us : List Wide) (p q o : Point) (w v x : World)
    (c d e : Context) (most left j : ℕ) (why : Why)
    → RunsOn ts t root ws p w c most left vs q v d
    → j ≤ left
    → ((taken : List (List ℕ))
    → RunsTo (steps_in j (program_of ts t) root (run_of (term_at ts t vs q) (state_of v d taken))) why
    (term_at ts t us o) (state_of x e taken))
    → IfGoes why (StandsIn t root us o)
    → end_of why ≡ None
    → RunsOn ts t root ws p w c most (left - j) us o x e
runs-on ts t root ws vs us p q o w v x c d e most left j why i h told s n = record {
  runs =
      λ taken. goes-on j left most (program_of ts t) root (run_of (term_at ts t vs q) (state_of v d taken))
      (run_of (term_at ts t ws p) (state_of w c taken)) why (term_at ts t us o) (state_of x e taken) (i.runs taken)
      h (told taken) n;
  stands = stands-on why (StandsIn t root us o) n s;
}

-- ---- from a node on

steps_from : (n : ℕ) (p : Program) (a : Addr) (ts : List (List ℕ)) (t : NodeTable) (old : List Wide) (x y : Term)
    (c : Context) (receiver : Value) (w v : World) (r : Evaluated)
    → old ≡ []
    → resettled (gaps_of ts t old) x ≡ y
    → c ≡ bare_context receiver
    → Answers (answer_of (steps_in n p a (run_of y (state_of w c [])))) r v
    → Answers (answer_of (steps_in n p a (run_of x (evaluation_state w receiver)))) r v
steps_from n p a ts t old x y c receiver w v r e f g h =
    let P : Context → Type 0 = λ d. Answers (answer_of (steps_in n p a (run_of y (state_of w d [])))) r v in
    let Q : List Wide → Type 0 = λ ws. resettled (gaps_of ts t ws) x ≡ y in
    let k : x ≡ y = (let k' : resettled (gaps_of ts t []) x ≡ y = subst Q e f in k') in
    let R : Term → Type 0 = λ z. Answers (answer_of (steps_in n p a (run_of z (evaluation_state w receiver)))) r v in
    let m : R y = subst P g h in
    subst R (sym k) m

pub node-answers : (p : Program) (a : Addr) (ts : List (List ℕ)) (t : NodeTable) (old : List Wide) (x y : Term)
    (c : Context) (receiver : Value) (w v : World) (r : Evaluated)
    → old ≡ []
    → resettled (gaps_of ts t old) x ≡ y
    → c ≡ bare_context receiver
    → Answers (answer_of (steps_in budget p a (run_of y (state_of w c [])))) r v
    → Answers (evaluated p a receiver w x) r v
node-answers p a ts t old x y c receiver w v r e f g h = steps_from budget p a ts t old x y c receiver w v r e f g h

world_from : (n : ℕ) (p : Program) (a : Addr) (ts : List (List ℕ)) (t : NodeTable) (old : List Wide) (x y : Term)
    (c : Context) (receiver : Value) (w v : World) (r : Evaluated)
    → old ≡ []
    → resettled (gaps_of ts t old) x ≡ y
    → c ≡ bare_context receiver
    → EndsIn (steps_in n p a (run_of y (state_of w c []))) r v
    → EndsIn (steps_in n p a (run_of x (evaluation_state w receiver))) r v
world_from n p a ts t old x y c receiver w v r e f g h =
    let P : Context → Type 0 = λ d. EndsIn (steps_in n p a (run_of y (state_of w d []))) r v in
    let Q : List Wide → Type 0 = λ ws. resettled (gaps_of ts t ws) x ≡ y in
    let k : x ≡ y = (let k' : resettled (gaps_of ts t []) x ≡ y = subst Q e f in k') in
    let R : Term → Type 0 = λ z. EndsIn (steps_in n p a (run_of z (evaluation_state w receiver))) r v in
    let m : R y = subst P g h in
    subst R (sym k) m

pub node-world : (p : Program) (a : Addr) (ts : List (List ℕ)) (t : NodeTable) (old : List Wide) (x y : Term)
    (c : Context) (receiver : Value) (w v : World) (r : Evaluated)
    → old ≡ []
    → resettled (gaps_of ts t old) x ≡ y
    → c ≡ bare_context receiver
    → EndsIn (steps_in budget p a (run_of y (state_of w c []))) r v
    → EndsIn (steps_in budget p a (run_of x (evaluation_state w receiver))) r v
node-world p a ts t old x y c receiver w v r e f g h = world_from budget p a ts t old x y c receiver w v r e f g h
