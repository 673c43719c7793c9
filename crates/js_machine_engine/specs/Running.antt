-- What a run of steps tells.
use Rattle.std.specs.Prelude.{◌≡◌, ℕ, zero, suc, ◌-◌, ◌<◌, ◌≤◌, Bool, true, false, List, Option, Some, None}
use Rattle.js_heap.specs.declared.value.Addr.{Addr}
use Rattle.js_heap.specs.World.{World}
use Rattle.js_semantics.specs.Terms.{Term}
use Rattle.js_semantics.specs.State.{Frame, State}
use Rattle.js_semantics.specs.Functions.{Program}
use Rattle.js_semantics.specs.Run.{Run, running, over, by_effect, by_full, run_of, step_in, steps_in}
use Rattle.js_machine_actions.specs.Contexts.{Context, state_of}
use Rattle.js_machine_nodes.specs.declared.table.NodeTable.{NodeTable}
use Rattle.js_machine_nodes.specs.Trees.{program_of}
use Rattle.js_machine_engine.specs.declared.run.Why.{Why}
use Rattle.js_machine_engine.specs.declared.run.Why.TheVariants as whys
use Rattle.js_machine_engine.specs.declared.stepped.Stepped.{Stepped}
use Rattle.js_machine_engine.specs.declared.stepped.Stepped.TheVariants as steppeds
use Rattle.js_machine_engine.specs.declared.task.Point.{Point}
use Rattle.js_machine_engine.specs.Tasks.{Wide}
use Rattle.js_machine_engine.specs.Points.{term_at}
use Rattle.js_machine_engine.specs.Stepping.{finish_of, StandsIn}

-- why a run stops behind a step
abbrev pub why_of : Stepped → Option Why
why_of steppeds.Went = None
why_of steppeds.Raised = Some whys.Raised
why_of (steppeds.Printed vs) = Some (whys.Printed vs)
why_of (steppeds.Over f) = Some (whys.Over f)
why_of steppeds.Effect = Some whys.Effect
why_of (steppeds.Full what) = Some (whys.Full what)
why_of steppeds.Memory = Some whys.Memory

-- the run that it has come to, where it stops for this reason with that term and state; want of memory says nothing
abbrev pub RunsTo : Run → Why → Term → State → Type 0
RunsTo r whys.Memory t s = Unit {0}
RunsTo r (whys.Over f) t s = r ≡ over (finish_of f) s
RunsTo r whys.Effect t s = r ≡ over by_effect s
RunsTo r (whys.Full what) t s = r ≡ over (by_full what) s
RunsTo r why t s = r ≡ run_of t s

-- this holds where it may go on
abbrev pub IfGoes : Why → Type 0 → Type 0
IfGoes whys.Memory P = Unit {0}
IfGoes (whys.Over f) P = Unit {0}
IfGoes whys.Effect P = Unit {0}
IfGoes (whys.Full what) P = Unit {0}
IfGoes why P = P

-- ---- how many steps

-- where it stops because all steps are made, these are all; a step was made where a step is the reason
abbrev pub CountsAs : Why → ℕ → ℕ → Type 0
CountsAs whys.Spent k most = k ≡ most
CountsAs (whys.Over f) k most = Unit {0}
CountsAs why k most = 0 < k

-- the run isn't over
abbrev pub IsRunning : Run → Type 0
IsRunning (running t s) = Unit {0}
IsRunning (over f s) = ⊥

-- the run isn't over before each of so many steps
abbrev pub RunsFor : ℕ → Program → Addr → Run → Type 0
RunsFor zero p scope r = Unit {0}
RunsFor (suc k) p scope r = IsRunning r × RunsFor k p scope (step_in p scope r)

-- ---- the host's question

-- whether a stop is asked for where the run is
abbrev pub asks_at : (Term → List Frame → Bool) → Run → Bool
asks_at f (running t s) = f t s.frames
asks_at f (over e s) = false

-- behind none of so many steps a stop was asked for
pub record HasPassed (f : Term → List Frame → Bool) (k : ℕ) (p : Program) (scope : Addr) (r : Run) : Type 0 where
  pub none : (j : ℕ) → 0 < j → j ≤ k → asks_at f (steps_in j p scope r) ≡ false

-- one was asked for behind the last step where that is why it stops
abbrev pub IsAsked : (Term → List Frame → Bool) → Why → Run → Type 0
IsAsked f whys.Asked r = asks_at f r ≡ true
IsAsked f why r = Unit {0}

-- how many steps passed that are followed by others, or by none because all are made
abbrev pub passed_steps : Why → ℕ → ℕ
passed_steps whys.Spent k = k
passed_steps why k = k - 1

-- ---- the loop

-- after so many steps a machine stands so
pub record HasRun (ts : List (List ℕ)) (t : NodeTable) (root : Addr) (ws : List Wide) (p : Point) (w : World)
    (c : Context) (k : ℕ) (vs : List Wide) (q : Point) (v : World) (d : Context) : Type 0 where
  pub runs : (taken : List (List ℕ))
      → steps_in k (program_of ts t) root (run_of (term_at ts t ws p) (state_of w c taken)) ≡ run_of (term_at ts t vs q)
      (state_of v d taken)
  pub left : (taken : List (List ℕ))
      → RunsFor k (program_of ts t) root (run_of (term_at ts t ws p) (state_of w c taken))
  pub stands : StandsIn t root vs q
