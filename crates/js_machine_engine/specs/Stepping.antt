-- What a step tells of its move.
use Rattle.std.specs.Prelude.{◌≡◌, ℕ, Bool, true, false, List, drop, Result, Ok, Err}
use Rattle.std.specs.declared.alloc.AllocError.{AllocError}
use Rattle.js_heap.specs.declared.value.Addr.{Addr}
use Rattle.js_heap.specs.declared.value.Value.{Value}
use Rattle.js_heap.specs.declared.value.Value.TheVariants as values
use Rattle.js_semantics.specs.declared.form.Completion.{Completion}
use Rattle.js_semantics.specs.declared.form.Completion.TheVariants.{Throws as throws, Returns as returns, Breaks as breaks, Continues as continues}
use Rattle.js_semantics.specs.Terms.{Term, done, standing}
use Rattle.js_semantics.specs.State.{State, Move, goes, travels, has_effect, is_full, went, raised, printed_values, spot_of, top_spot}
use Rattle.js_semantics.specs.Next.{next}
use Rattle.js_semantics.specs.Run.{Finish as AnyFinish, ended, threw, outermost}
use Rattle.js_machine_actions.specs.Contexts.{Context}
use Rattle.js_machine_nodes.specs.declared.table.NodeTable.{NodeTable}
use Rattle.js_machine_nodes.specs.Trees.{program_of}
use Rattle.js_machine_engine.specs.declared.reduced.Reduced.{Reduced}
use Rattle.js_machine_engine.specs.declared.reduced.Reduced.TheVariants as reduced
use Rattle.js_machine_engine.specs.declared.stepped.Finish.{Finish}
use Rattle.js_machine_engine.specs.declared.stepped.Finish.TheVariants as finishes
use Rattle.js_machine_engine.specs.declared.stepped.Stepped.{Stepped}
use Rattle.js_machine_engine.specs.declared.stepped.Stepped.TheVariants as steppeds
use Rattle.js_machine_engine.specs.declared.answer.Demand.{Demand}
use Rattle.js_machine_engine.specs.declared.answer.Demand.TheVariants as kinds
use Rattle.js_machine_engine.specs.declared.task.Point.{Point}
use Rattle.js_machine_engine.specs.declared.task.Point.TheVariants as points
use Rattle.js_machine_engine.specs.Gaps.{all_risen}
use Rattle.js_machine_engine.specs.Tasks.{Wide, kept_of, gaps_of, InScopes}
use Rattle.js_machine_engine.specs.Points.{term_at, IsAt}
use Rattle.js_machine_engine.specs.Answers.{resumed, reduced_term}

-- ---- ends

-- how a run ended, as the definition of runs names it
abbrev pub finish_of : Finish → AnyFinish
finish_of (finishes.Ended v) = ended v
finish_of (finishes.Threw v place) = threw v place

-- how a completion ends the run that nothing takes
abbrev pub finished_by : Completion → Finish
finished_by (throws v place) = finishes.Threw v place
finished_by (returns v) = finishes.Ended v
finished_by breaks = finishes.Ended values.Undefined
finished_by continues = finishes.Ended values.Undefined

-- the move is a completion that ends the run so, in that state
abbrev pub EndsSo : Move Term → Finish → State → Type 0
EndsSo (travels c u) f s = (outermost c ≡ finish_of f) × (u ≡ s)
EndsSo m f s = ⊥

-- ---- steps

-- the move that a step tells of, to that term and state; want of memory says nothing
abbrev pub Tells : Move Term → Stepped → Term → State → Type 0
Tells m steppeds.Went t s = m ≡ goes t s went
Tells m steppeds.Raised t s = m ≡ goes t s raised
Tells m (steppeds.Printed vs) t s = m ≡ goes t s (printed_values vs.items)
Tells m (steppeds.Over f) t s = EndsSo m f s
Tells m steppeds.Effect t s = m ≡ has_effect s
Tells m (steppeds.Full what) t s = m ≡ is_full what s
Tells m steppeds.Memory t s = Unit {0}

-- what a step tells that went or told this
abbrev pub told_by : Bool → Stepped → Stepped
told_by true told = steppeds.Went
told_by false told = told

-- this holds where the run goes on
abbrev pub IfGoesOn : Stepped → Type 0 → Type 0
IfGoesOn steppeds.Went P = P
IfGoesOn steppeds.Raised P = P
IfGoesOn (steppeds.Printed vs) P = P
IfGoesOn (steppeds.Over f) P = Unit {0}
IfGoesOn steppeds.Effect P = Unit {0}
IfGoesOn (steppeds.Full what) P = Unit {0}
IfGoesOn steppeds.Memory P = Unit {0}

-- what holds of a machine between its steps: where it stands, and that its tasks are in their scopes
pub record StandsIn (t : NodeTable) (root : Addr) (ws : List Wide) (p : Point) : Type 0 where
  pub at : IsAt t ws p
  pub scoped : InScopes t root ws

-- something is left to reduce
abbrev pub IsGoing : Point → Type 0
IsGoing (points.Done v) = ⊥
IsGoing p = Unit {0}

-- ---- what a row's answer asks for

-- what an answer asks of the machine; all that isn't told of here goes on with a term
abbrev pub demand_of : Reduced → Demand
demand_of (reduced.Raises v) = kinds.Raises v
demand_of (reduced.Returns v) = kinds.Travels (returns v)
demand_of reduced.Breaks = kinds.Travels breaks
demand_of reduced.Continues = kinds.Travels continues
demand_of reduced.Resumes = kinds.Resumes
demand_of reduced.Prints = kinds.Prints
demand_of reduced.Effect = kinds.Effect
demand_of (reduced.Full what) = kinds.Full what
demand_of reduced.Memory = kinds.Memory
demand_of r = kinds.Follows

-- what it says of the move
abbrev pub Says : List (List ℕ) → NodeTable → Wide → Move Term → Reduced → Demand → State → Type 0
Says ts t w m r kinds.Follows s = m ≡ goes (reduced_term ts t w r) s went
Says ts t w m r (kinds.Raises v) s = m ≡ goes (standing v (spot_of s)) s raised
Says ts t w m r (kinds.Travels c) s = m ≡ travels c s
Says ts t w m r kinds.Resumes s = m ≡ resumed (kept_of w.extra) s
Says ts t w m r kinds.Prints s = m ≡ goes (done values.Undefined) s (printed_values (drop 2 w.values))
Says ts t w m r kinds.Effect s = m ≡ has_effect s
Says ts t w m r (kinds.Full what) s = m ≡ is_full what s
Says ts t w m r kinds.Memory s = Unit {0}

-- ---- calls that go on

-- what a step tells that goes on if there is memory
abbrev pub went_of : Result (Unit {0}) AllocError → Stepped
went_of (Ok u) = steppeds.Went
went_of (Err e) = steppeds.Memory

-- a throw stands, at the place of the top frame
abbrev pub Raises : Value → Context → Stepped → Point → Type 0
Raises v c stepped p = (stepped ≡ steppeds.Raised) × (p ≡ points.Stands v (top_spot c.frames))

-- the step tells of a move of the part in the innermost gap
abbrev pub TellsWithin : List (List ℕ)
    → NodeTable
    → Addr
    → List Wide
    → Move Term
    → Stepped
    → List Wide
    → Point
    → State
    → Type 0
TellsWithin ts t root old m stepped new p s = Tells (all_risen root (gaps_of ts t old) m) stepped (term_at ts t new p) s

-- the step tells of the definition's step, from one machine's tasks and point to another's
abbrev pub Steps : List (List ℕ)
    → NodeTable
    → Addr
    → List Wide
    → Point
    → State
    → Stepped
    → List Wide
    → Point
    → State
    → Type 0
Steps ts t root old q s stepped new p u =
    Tells (next (program_of ts t) root (term_at ts t old q) s) stepped (term_at ts t new p) u
