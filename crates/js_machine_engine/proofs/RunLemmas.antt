-- Steps one after another.
use Rattle.std.proofs.Common.{◌≡◌, ℕ, zero, suc, ◌+◌, ◌-◌, ◌<◌, Bool, true, false, List, [], ◌∷◌, Option, None, Some, slice_get, refl, sym, ap, subst, ◌∙◌, add-one, arith, below_more}
use Rattle.std.specs.Prelude.{is_some}
use Rattle.js_heap.specs.declared.value.Addr.{Addr}
use Rattle.js_heap.specs.declared.value.Value.{Value}
use Rattle.js_heap.specs.World.{World}
use Rattle.js_semantics.specs.Terms.{Term, done, standing, part, is_done}
use Rattle.js_semantics.specs.State.{Frame, State, Move, goes, travels, has_effect, is_full}
use Rattle.js_semantics.specs.Functions.{Program}
use Rattle.js_semantics.specs.Next.{next}
use Rattle.js_semantics.specs.Run.{Run, over, run_of, run_after, step_in, steps_in}
use Rattle.js_machine_actions.specs.Contexts.{Context, state_of}
use Rattle.js_machine_nodes.specs.declared.node.Node.{Node}
use Rattle.js_machine_nodes.specs.declared.table.NodeTable.{NodeTable}
use Rattle.js_machine_nodes.specs.Trees.{tree, program_of}
use Rattle.js_machine_engine.specs.declared.run.Why.{Why}
use Rattle.js_machine_engine.specs.declared.stepped.Finish.{Finish}
use Rattle.js_machine_engine.specs.declared.stepped.Finish.TheVariants as finishes
use Rattle.js_machine_engine.specs.declared.stepped.Stepped.{Stepped}
use Rattle.js_machine_engine.specs.declared.stepped.Stepped.TheVariants as steppeds
use Rattle.js_machine_engine.specs.declared.task.Point.{Point}
use Rattle.js_machine_engine.specs.declared.task.Point.TheVariants as points
use Rattle.js_machine_engine.specs.Gaps.{Gap, filled, plugged}
use Rattle.js_machine_engine.specs.Tasks.{Wide, gaps_of, redex_of}
use Rattle.js_machine_engine.specs.Points.{term_at, IsAt, IsLeafAt}
use Rattle.js_machine_engine.specs.Parts.{IsOpen}
use Rattle.js_machine_engine.specs.Running.{why_of, RunsTo, IsRunning, RunsFor, CountsAs, asks_at, HasPassed, IsAsked, passed_steps, IfGoes, HasRun}
use Rattle.js_machine_engine.specs.Stepping.{Tells, told_by, EndsSo, finish_of, IfGoesOn, StandsIn, IsGoing}
use Rattle.js_machine_engine.proofs.TreeLemmas.{open-tree}
use Rattle.js_semantics.proofs.FollowLemmas.{steps-suc}

-- ---- one step more

one_more : (k : ℕ) (p : Program) (a : Addr) (r : Run) → steps_in (k + 1) p a r ≡ step_in p a (steps_in k p a r)
one_more k p a r = rw add-one (steps-suc k p a r)

-- ---- where something is left to reduce, the run isn't over

plugged_open : (gs : List Gap) (t : Term) → is_done t ≡ false → is_done (plugged gs t) ≡ false
plugged_open [] t h = h
plugged_open (g ∷ gs) t h = plugged_open gs (filled g t) refl

leaf_open : (o : Option Node) → IsLeafAt o → IsOpen o
leaf_open None h = h
leaf_open (Some node) h = h.value

pub at-open : (ts : List (List ℕ)) (t : NodeTable) (ws : List Wide) (p : Point)
    → IsAt t ws p
    → IsGoing p
    → is_done (term_at ts t ws p) ≡ false
unfolding term_at
at-open ts t [] points.Row h g = absurd h
at-open ts t (w ∷ ws) points.Row h g = plugged_open (gaps_of ts t ws) (redex_of ts t w) refl
at-open ts t ws (points.Leaf n) h g =
    plugged_open (gaps_of ts t ws) (tree ts t n) (open-tree ts t n (leaf_open (slice_get t.nodes.items n) h))
at-open ts t ws (points.Stands v place) h g = plugged_open (gaps_of ts t ws) (standing v place) refl
at-open ts t ws (points.Done v) h g = absurd g

pub step-of : (p : Program) (a : Addr) (t : Term) (s : State)
    → is_done t ≡ false
    → step_in p a (run_of t s) ≡ run_after (next p a t s)
step-of p a (done v) s h = cc
step-of p a (standing v place) s h = refl
step-of p a (part f now later) s h = refl

pub open_runs : (t : Term) (s : State) → is_done t ≡ false → IsRunning (run_of t s)
open_runs (done v) s h = absurd cc
open_runs (standing v place) s h = tt
open_runs (part f now later) s h = tt

left_more : (k : ℕ) (p : Program) (a : Addr) (r : Run)
    → RunsFor k p a r
    → IsRunning (steps_in k p a r)
    → RunsFor (suc k) p a r
left_more zero p a r h i = (i, tt)
left_more (suc k) p a r h i = (h.0, left_more k p a (step_in p a r) h.1 i)

pub going : (p : Point) → ((v : Value) → p ≡ points.Done v → ⊥) → IsGoing p
going points.Row h = tt
going (points.Leaf n) h = tt
going (points.Stands v place) h = tt
going (points.Done v) h = h v refl

-- ---- what a step tells

abbrev pub RunsBy : Run → Option Why → Term → State → Type 0
RunsBy r None t s = r ≡ run_of t s
RunsBy r (Some why) t s = RunsTo r why t s

ends_run : (m : Move Term) (f : Finish) (s : State) → EndsSo m f s → run_after m ≡ over (finish_of f) s
ends_run (travels c u) f s h = ap (λ x. over x u) h.0 ∙ ap (over (finish_of f)) h.1
ends_run (goes t u told) f s h = absurd h
ends_run (has_effect u) f s h = absurd h
ends_run (is_full what u) f s h = absurd h

pub told-runs : (m : Move Term) (stepped : Stepped) (t : Term) (s : State)
    → Tells m stepped t s
    → RunsBy (run_after m) (why_of stepped) t s
told-runs m steppeds.Went t s h = ap run_after h
told-runs m steppeds.Raised t s h = ap run_after h
told-runs m (steppeds.Printed vs) t s h = ap run_after h
told-runs m (steppeds.Over f) t s h = ends_run m f s h
told-runs m steppeds.Effect t s h = ap run_after h
told-runs m (steppeds.Full what) t s h = ap run_after h
told-runs m steppeds.Memory t s h = tt

-- ---- the loop

pub runs-init : (ts : List (List ℕ)) (t : NodeTable) (root : Addr) (ws : List Wide) (p : Point) (w : World)
    (c : Context)
    → StandsIn t root ws p
    → HasRun ts t root ws p w c 0 ws p w c
runs-init ts t root ws p w c h = record { runs = λ taken. refl; left = λ taken. tt; stands = h }

runs_by : (ts : List (List ℕ)) (t : NodeTable) (root : Addr) (ws : List Wide) (p : Point) (w : World) (c : Context)
    (k : ℕ) (vs us : List Wide) (q o : Point) (v x : World) (d e : Context) (stepped : Stepped) (b : Option Why)
    → HasRun ts t root ws p w c k vs q v d
    → IsGoing q
    → why_of stepped ≡ b
    → (taken : List (List ℕ))
    → Tells (next (program_of ts t) root (term_at ts t vs q) (state_of v d taken)) stepped (term_at ts t us o)
    (state_of x e taken)
    → RunsBy (steps_in (k + 1) (program_of ts t) root (run_of (term_at ts t ws p) (state_of w c taken))) b
    (term_at ts t us o) (state_of x e taken)
runs_by ts t root ws p w c k vs us q o v x d e stepped b h g y taken told =
    let P : Option Why
    → Type 0 = λ z. RunsBy (steps_in (k + 1) (program_of ts t) root (run_of (term_at ts t ws p) (state_of w c taken))) z
    (term_at ts t us o) (state_of x e taken) in
    let Q : Run → Type 0 = λ r. RunsBy r (why_of stepped) (term_at ts t us o) (state_of x e taken) in
    let f = one_more k (program_of ts t) root (run_of (term_at ts t ws p) (state_of w c taken))
    ∙ ap (step_in (program_of ts t) root) (h.runs taken)
    ∙ step-of (program_of ts t) root (term_at ts t vs q) (state_of v d taken) (at-open ts t vs q h.stands.at g) in
    subst P y
    (subst Q (sym f)
    (told-runs (next (program_of ts t) root (term_at ts t vs q) (state_of v d taken)) stepped
    (term_at ts t us o) (state_of x e taken) told))

-- one more step of a run that isn't over
pub more-left : (ts : List (List ℕ)) (t : NodeTable) (root : Addr) (ws : List Wide) (p : Point) (w : World)
    (c : Context) (k : ℕ) (vs : List Wide) (q : Point) (v : World) (d : Context)
    → HasRun ts t root ws p w c k vs q v d
    → IsGoing q
    → (taken : List (List ℕ))
    → RunsFor (k + 1) (program_of ts t) root (run_of (term_at ts t ws p) (state_of w c taken))
more-left ts t root ws p w c k vs q v d h g taken =
    let r : Run = run_of (term_at ts t ws p) (state_of w c taken) in
    let P : Run → Type 0 = IsRunning in
    let Q : ℕ → Type 0 = λ n. RunsFor n (program_of ts t) root r in
    let i = subst P (sym (h.runs taken))
    (open_runs (term_at ts t vs q) (state_of v d taken) (at-open ts t vs q h.stands.at g)) in
    let e : suc k ≡ k + 1 = omega arith in
    subst Q e (left_more k (program_of ts t) root r (h.left taken) i)

-- a step after which it stops
pub stop-runs : (ts : List (List ℕ)) (t : NodeTable) (root : Addr) (ws : List Wide) (p : Point) (w : World)
    (c : Context) (k : ℕ) (vs us : List Wide) (q o : Point) (v x : World) (d e : Context) (stepped : Stepped)
    (why : Why)
    → HasRun ts t root ws p w c k vs q v d
    → IsGoing q
    → why_of stepped ≡ Some why
    → (taken : List (List ℕ))
    → Tells (next (program_of ts t) root (term_at ts t vs q) (state_of v d taken)) stepped (term_at ts t us o)
    (state_of x e taken)
    → RunsTo (steps_in (k + 1) (program_of ts t) root (run_of (term_at ts t ws p) (state_of w c taken))) why
    (term_at ts t us o) (state_of x e taken)
stop-runs ts t root ws p w c k vs us q o v x d e stepped why h g y taken told =
    runs_by ts t root ws p w c k vs us q o v x d e stepped (Some why) h g y taken told

-- where it stops, the step told it
pub stopped-told : (went : Bool) (told : Stepped)
    → is_some (why_of (told_by went told)) ≡ true
    → told_by went told ≡ told
stopped-told true told e = cc
stopped-told false told e = refl

none_at : (o : Option Why) → is_some o ≡ false → o ≡ None
none_at None e = refl
none_at (Some why) e = cc

pub goes-none : (stepped : Stepped) → is_some (why_of stepped) ≡ false → why_of stepped ≡ None
goes-none stepped e = none_at (why_of stepped) e

went_stands : (stepped : Stepped) (P : Type 0) → why_of stepped ≡ None → IfGoesOn stepped P → P
went_stands steppeds.Went P e h = h
went_stands steppeds.Raised P e h = h
went_stands (steppeds.Printed vs) P e h = h
went_stands (steppeds.Over f) P e h = cc
went_stands steppeds.Effect P e h = cc
went_stands (steppeds.Full what) P e h = cc
went_stands steppeds.Memory P e h = cc

-- a step after which it goes on
pub next-runs : (ts : List (List ℕ)) (t : NodeTable) (root : Addr) (ws : List Wide) (p : Point) (w : World)
    (c : Context) (k : ℕ) (vs us : List Wide) (q o : Point) (v x : World) (d e : Context) (stepped : Stepped)
    → HasRun ts t root ws p w c k vs q v d
    → IsGoing q
    → why_of stepped ≡ None
    → ((taken : List (List ℕ))
    → Tells (next (program_of ts t) root (term_at ts t vs q) (state_of v d taken)) stepped (term_at ts t us o)
    (state_of x e taken))
    → IfGoesOn stepped (StandsIn t root us o)
    → HasRun ts t root ws p w c (k + 1) us o x e
next-runs ts t root ws p w c k vs us q o v x d e stepped h g y told s = record {
  runs = λ taken. runs_by ts t root ws p w c k vs us q o v x d e stepped None h g y taken (told taken);
  left = more-left ts t root ws p w c k vs q v d h g;
  stands = went_stands stepped (StandsIn t root us o) y s;
}

abbrev IfGoesBy : Option Why → Type 0 → Type 0
IfGoesBy None P = Unit {0}
IfGoesBy (Some why) P = IfGoes why P

goes_by : (stepped : Stepped) (P : Type 0) → IfGoesOn stepped P → IfGoesBy (why_of stepped) P
goes_by steppeds.Went P h = tt
goes_by steppeds.Raised P h = h
goes_by (steppeds.Printed vs) P h = h
goes_by (steppeds.Over f) P h = tt
goes_by steppeds.Effect P h = tt
goes_by (steppeds.Full what) P h = tt
goes_by steppeds.Memory P h = tt

pub stop-stands : (t : NodeTable) (root : Addr) (ws : List Wide) (p : Point) (stepped : Stepped) (why : Why)
    → why_of stepped ≡ Some why
    → IfGoesOn stepped (StandsIn t root ws p)
    → IfGoes why (StandsIn t root ws p)
stop-stands t root ws p stepped why e h =
    let Q : Option Why → Type 0 = λ x. IfGoesBy x (StandsIn t root ws p) in
    subst Q e (goes_by stepped (StandsIn t root ws p) h)

pub done_at : (ts : List (List ℕ)) (t : NodeTable) (v : Value) → term_at ts t [] (points.Done v) ≡ done v
unfolding term_at
done_at ts t v = refl

-- nothing is left to reduce
pub done-runs : (ts : List (List ℕ)) (t : NodeTable) (root : Addr) (ws : List Wide) (p : Point) (w : World)
    (c : Context) (k : ℕ) (vs : List Wide) (q : Point) (v : World) (d : Context) (value : Value)
    → HasRun ts t root ws p w c k vs q v d
    → q ≡ points.Done value
    → (taken : List (List ℕ))
    → steps_in k (program_of ts t) root (run_of (term_at ts t ws p) (state_of w c taken)) ≡ over
    (finish_of (finishes.Ended value)) (state_of v d taken)
done-runs ts t root ws p w c k vs q v d value h e taken =
    let P : Point → Type 0 = IsAt t vs in
    h.runs taken
    ∙ ap (λ x. run_of (term_at ts t vs x) (state_of v d taken)) e
    ∙ ap (λ x. run_of (term_at ts t x (points.Done value)) (state_of v d taken)) (subst P e h.stands.at)
    ∙ ap (λ x. run_of x (state_of v d taken)) (done_at ts t value)

-- ---- the host's question

pub none-passed : (f : Term → List Frame → Bool) (p : Program) (a : Addr) (r : Run) → HasPassed f 0 p a r
none-passed f p a r = record { none = λ j lo hi. absurd (omega arith) }

pub more-passed : (f : Term → List Frame → Bool) (k : ℕ) (p : Program) (a : Addr) (r : Run)
    → HasPassed f k p a r
    → asks_at f (steps_in (k + 1) p a r) ≡ false
    → HasPassed f (k + 1) p a r
more-passed f k p a r h e =
    let P : ℕ → Type 0 = λ j. 0 < j → asks_at f (steps_in j p a r) ≡ false in
    let below : (j : ℕ) → j < k + 1 → P j = λ (j : ℕ) (hi : j < k + 1) (lo : 0 < j). h.none j lo (omega arith) in
    record { none = λ j lo hi. below_more P (k + 1) below (λ (lo : 0 < k + 1). e) j (omega arith) lo }

pub first-passed : (f : Term → List Frame → Bool) (k : ℕ) (p : Program) (a : Addr) (r : Run)
    → HasPassed f k p a r
    → HasPassed f (k - 1) p a r
first-passed f k p a r h = record { none = λ j lo hi. h.none j lo (omega arith) }

pub passed-but-last : (f : Term → List Frame → Bool) (k : ℕ) (p : Program) (a : Addr) (r : Run)
    → HasPassed f k p a r
    → HasPassed f (k + 1 - 1) p a r
passed-but-last f k p a r h = record { none = λ j lo hi. h.none j lo (omega arith) }

pub asked-so : (f : Term → List Frame → Bool) (r q : Run) (b : Bool)
    → r ≡ q
    → b ≡ asks_at f q
    → {c : Bool}
    → b ≡ c
    → asks_at f r ≡ c
asked-so f r q b e h i = ap (asks_at f) e ∙ sym h ∙ i

-- a step after which it stops

abbrev CountsBy : Option Why → ℕ → ℕ → Type 0
CountsBy None k most = Unit {0}
CountsBy (Some why) k most = CountsAs why k most

counts_by : (stepped : Stepped) (k most : ℕ) → CountsBy (why_of stepped) (k + 1) most
counts_by steppeds.Went k most = tt
counts_by steppeds.Raised k most = omega arith
counts_by (steppeds.Printed vs) k most = omega arith
counts_by (steppeds.Over f) k most = tt
counts_by steppeds.Effect k most = omega arith
counts_by (steppeds.Full what) k most = omega arith
counts_by steppeds.Memory k most = omega arith

pub stop-counted : (stepped : Stepped) (why : Why) (k most : ℕ) → why_of stepped ≡ Some why → CountsAs why (k + 1) most
stop-counted stepped why k most e =
    let P : Option Why → Type 0 = λ x. CountsBy x (k + 1) most in subst P e (counts_by stepped k most)

abbrev AsksBy : (Term → List Frame → Bool) → Option Why → Run → Type 0
AsksBy f None r = Unit {0}
AsksBy f (Some why) r = IsAsked f why r

asks_by : (f : Term → List Frame → Bool) (stepped : Stepped) (r : Run) → AsksBy f (why_of stepped) r
asks_by f steppeds.Went r = tt
asks_by f steppeds.Raised r = tt
asks_by f (steppeds.Printed vs) r = tt
asks_by f (steppeds.Over e) r = tt
asks_by f steppeds.Effect r = tt
asks_by f (steppeds.Full what) r = tt
asks_by f steppeds.Memory r = tt

pub stop-asked : (f : Term → List Frame → Bool) (stepped : Stepped) (why : Why) (r : Run)
    → why_of stepped ≡ Some why
    → IsAsked f why r
stop-asked f stepped why r e = let P : Option Why → Type 0 = λ x. AsksBy f x r in subst P e (asks_by f stepped r)

abbrev passed_by : Option Why → ℕ → ℕ
passed_by None k = k - 1
passed_by (Some why) k = passed_steps why k

one_less : (stepped : Stepped) (k : ℕ) → passed_by (why_of stepped) k ≡ k - 1
one_less steppeds.Went k = refl
one_less steppeds.Raised k = refl
one_less (steppeds.Printed vs) k = refl
one_less (steppeds.Over f) k = refl
one_less steppeds.Effect k = refl
one_less (steppeds.Full what) k = refl
one_less steppeds.Memory k = refl

pub stop-passed : (f : Term → List Frame → Bool) (stepped : Stepped) (why : Why) (k : ℕ) (p : Program) (a : Addr)
    (r : Run)
    → why_of stepped ≡ Some why
    → HasPassed f k p a r
    → HasPassed f (passed_steps why (k + 1)) p a r
stop-passed f stepped why k p a r e h =
    let P : ℕ → Type 0 = λ n. HasPassed f n p a r in
    let same : k + 1 - 1 ≡ passed_steps why (k + 1) = sym (one_less stepped (k + 1))
    ∙ ap (λ o. passed_by o (k + 1)) e in
    subst P same (passed-but-last f k p a r h)

-- ---- the question where the machine stands

pub done-asks : (f : Term → List Frame → Bool) (ts : List (List ℕ)) (t : NodeTable) (ws : List Wide) (p : Point)
    (v : Value) (s : State)
    → p ≡ points.Done v
    → IsAt t ws p
    → false ≡ asks_at f (run_of (term_at ts t ws p) s)
done-asks f ts t ws p v s e at =
    let P : Point → Type 0 = IsAt t ws in
    sym (ap (λ x. asks_at f (run_of (term_at ts t ws x) s)) e
    ∙ ap (λ x. asks_at f (run_of (term_at ts t x (points.Done v)) s)) (subst P e at)
    ∙ ap (λ x. asks_at f (run_of x s)) (done_at ts t v))

open_asks : (f : Term → List Frame → Bool) (t : Term) (s : State)
    → is_done t ≡ false
    → f t s.frames ≡ asks_at f (run_of t s)
open_asks f (done v) s h = absurd cc
open_asks f (standing v place) s h = refl
open_asks f (part g now later) s h = refl

pub going-asks : (f : Term → List Frame → Bool) (ts : List (List ℕ)) (t : NodeTable) (ws : List Wide) (p : Point)
    (s : State)
    → IsAt t ws p
    → IsGoing p
    → f (term_at ts t ws p) s.frames ≡ asks_at f (run_of (term_at ts t ws p) s)
going-asks f ts t ws p s at g = open_asks f (term_at ts t ws p) s (at-open ts t ws p at g)
