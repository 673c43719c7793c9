-- What the steps of a run print.
use Rattle.std.proofs.Common.{◌≡◌, ℕ, zero, suc, ◌+◌, ◌-◌, false, List, Option, None, Some, refl, sym, ap, subst, ◌∙◌, add-one, arith, below_more}
use Rattle.js_heap.specs.declared.value.Addr.{Addr}
use Rattle.js_heap.specs.declared.value.Value.{Value}
use Rattle.js_heap.specs.World.{World}
use Rattle.js_semantics.specs.Terms.{Term, done, standing, part, is_done}
use Rattle.js_semantics.specs.State.{State, Move, goes, travels, has_effect, is_full}
use Rattle.js_semantics.specs.Functions.{Program}
use Rattle.js_semantics.specs.Next.{next}
use Rattle.js_semantics.specs.Run.{Run, run_of, steps_in}
use Rattle.js_machine_actions.specs.Contexts.{Context, state_of}
use Rattle.js_machine_nodes.specs.declared.table.NodeTable.{NodeTable}
use Rattle.js_machine_nodes.specs.Trees.{program_of}
use Rattle.js_machine_engine.specs.declared.run.Why.{Why}
use Rattle.js_machine_engine.specs.declared.stepped.Finish.{Finish}
use Rattle.js_machine_engine.specs.declared.stepped.Stepped.{Stepped}
use Rattle.js_machine_engine.specs.declared.stepped.Stepped.TheVariants as steppeds
use Rattle.js_machine_engine.specs.declared.task.Point.{Point}
use Rattle.js_machine_engine.specs.Tasks.{Wide}
use Rattle.js_machine_engine.specs.Points.{term_at}
use Rattle.js_machine_engine.specs.Running.{why_of, HasRun}
use Rattle.js_machine_engine.specs.Stepping.{Tells, EndsSo, IsGoing}
use Rattle.js_machine_engine.specs.Prints.{values_moved, values_printed, last_printed, IsSilent, PrintsAs}
use Rattle.js_machine_engine.proofs.RunLemmas.{at-open}

-- ---- what a step tells

abbrev PrintsBy : Option Why → Option (List Value) → Type 0
PrintsBy None o = o ≡ None
PrintsBy (Some why) o = PrintsAs why o

ends_silent : (m : Move Term) (f : Finish) (s : State) → EndsSo m f s → values_moved m ≡ None
ends_silent (travels c u) f s h = refl
ends_silent (goes t u told) f s h = absurd h
ends_silent (has_effect u) f s h = absurd h
ends_silent (is_full what u) f s h = absurd h

told_prints : (m : Move Term) (stepped : Stepped) (t : Term) (s : State)
    → Tells m stepped t s
    → PrintsBy (why_of stepped) (values_moved m)
told_prints m steppeds.Went t s h = ap values_moved h
told_prints m steppeds.Raised t s h = ap values_moved h
told_prints m (steppeds.Printed vs) t s h = ap values_moved h
told_prints m (steppeds.Over f) t s h = ends_silent m f s h
told_prints m steppeds.Effect t s h = ap values_moved h
told_prints m (steppeds.Full what) t s h = ap values_moved h
told_prints m steppeds.Memory t s h = tt

printed_of : (p : Program) (a : Addr) (t : Term) (s : State)
    → is_done t ≡ false
    → values_printed p a (run_of t s) ≡ values_moved (next p a t s)
printed_of p a (done v) s h = cc
printed_of p a (standing v place) s h = refl
printed_of p a (part f now later) s h = refl

-- ---- the last step

last_more : (k : ℕ) (p : Program) (a : Addr) (r : Run)
    → last_printed (k + 1) p a r ≡ values_printed p a (steps_in k p a r)
last_more k p a r = ap (λ n. last_printed n p a r) (add-one k)

prints_by : (ts : List (List ℕ)) (t : NodeTable) (root : Addr) (ws : List Wide) (p : Point) (w : World) (c : Context)
    (k : ℕ) (vs us : List Wide) (q o : Point) (v x : World) (d e : Context) (stepped : Stepped) (b : Option Why)
    → HasRun ts t root ws p w c k vs q v d
    → IsGoing q
    → why_of stepped ≡ b
    → (taken : List (List ℕ))
    → Tells (next (program_of ts t) root (term_at ts t vs q) (state_of v d taken)) stepped (term_at ts t us o)
    (state_of x e taken)
    → PrintsBy b (last_printed (k + 1) (program_of ts t) root (run_of (term_at ts t ws p) (state_of w c taken)))
prints_by ts t root ws p w c k vs us q o v x d e stepped b h g y taken told =
    let f =
    last_more k (program_of ts t) root (run_of (term_at ts t ws p) (state_of w c taken))
    ∙ ap (values_printed (program_of ts t) root) (h.runs taken)
    ∙ printed_of (program_of ts t) root (term_at ts t vs q) (state_of v d taken) (at-open ts t vs q h.stands.at g) in
    let P : Option (List Value) → Type 0 = PrintsBy (why_of stepped) in
    let Q : Option Why
    → Type 0 = λ z. PrintsBy z
    (last_printed (k + 1) (program_of ts t) root (run_of (term_at ts t ws p) (state_of w c taken))) in
    subst Q y
    (subst P (sym f)
    (told_prints (next (program_of ts t) root (term_at ts t vs q) (state_of v d taken)) stepped
    (term_at ts t us o) (state_of x e taken) told))

-- a step after which it stops
pub stop-prints : (ts : List (List ℕ)) (t : NodeTable) (root : Addr) (ws : List Wide) (p : Point) (w : World)
    (c : Context) (k : ℕ) (vs us : List Wide) (q o : Point) (v x : World) (d e : Context) (stepped : Stepped)
    (why : Why)
    → HasRun ts t root ws p w c k vs q v d
    → IsGoing q
    → why_of stepped ≡ Some why
    → (taken : List (List ℕ))
    → Tells (next (program_of ts t) root (term_at ts t vs q) (state_of v d taken)) stepped (term_at ts t us o)
    (state_of x e taken)
    → PrintsAs why (last_printed (k + 1) (program_of ts t) root (run_of (term_at ts t ws p) (state_of w c taken)))
stop-prints ts t root ws p w c k vs us q o v x d e stepped why h g y taken told =
    prints_by ts t root ws p w c k vs us q o v x d e stepped (Some why) h g y taken told

-- a step after which it goes on
pub next-silent : (ts : List (List ℕ)) (t : NodeTable) (root : Addr) (ws : List Wide) (p : Point) (w : World)
    (c : Context) (k : ℕ) (vs us : List Wide) (q o : Point) (v x : World) (d e : Context) (stepped : Stepped)
    → HasRun ts t root ws p w c k vs q v d
    → IsGoing q
    → why_of stepped ≡ None
    → (taken : List (List ℕ))
    → Tells (next (program_of ts t) root (term_at ts t vs q) (state_of v d taken)) stepped (term_at ts t us o)
    (state_of x e taken)
    → last_printed (k + 1) (program_of ts t) root (run_of (term_at ts t ws p) (state_of w c taken)) ≡ None
next-silent ts t root ws p w c k vs us q o v x d e stepped h g y taken told =
    prints_by ts t root ws p w c k vs us q o v x d e stepped None h g y taken told

-- ---- the steps before it

pub none-silent : (p : Program) (a : Addr) (r : Run) → IsSilent 0 p a r
none-silent p a r = record { none = λ j below. absurd (omega arith) }

pub more-silent : (k : ℕ) (p : Program) (a : Addr) (r : Run)
    → IsSilent k p a r
    → last_printed (k + 1) p a r ≡ None
    → IsSilent (k + 1) p a r
more-silent k p a r h e =
    let P : ℕ → Type 0 = λ j. values_printed p a (steps_in j p a r) ≡ None in
    record { none = λ j below. below_more P k h.none (sym (last_more k p a r) ∙ e) j below }

pub last-silent : (k : ℕ) (p : Program) (a : Addr) (r : Run) → IsSilent k p a r → last_printed k p a r ≡ None
last-silent zero p a r h = refl
last-silent (suc k) p a r h = h.none k (omega arith)

pub first-silent : (k : ℕ) (p : Program) (a : Addr) (r : Run) → IsSilent k p a r → IsSilent (k - 1) p a r
first-silent k p a r h = record { none = λ j below. h.none j (omega arith) }

pub silent-but-last : (k : ℕ) (p : Program) (a : Addr) (r : Run) → IsSilent k p a r → IsSilent (k + 1 - 1) p a r
silent-but-last k p a r h = record { none = λ j below. h.none j (omega arith) }
