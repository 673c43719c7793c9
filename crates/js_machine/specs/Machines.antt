-- Machines, and the runs that they are with a world.
use Rattle.std.specs.Prelude.{◌≡◌, ℕ, List, Option, Some, None}
use Rattle.js_heap.specs.World.{World}
use Rattle.js_heap.specs.BuiltIns.{script_scope}
use Rattle.js_semantics.specs.Terms.{Term}
use Rattle.js_semantics.specs.State.{State}
use Rattle.js_semantics.specs.Functions.{Program}
use Rattle.js_semantics.specs.Run.{Run, over, by_effect, by_full, run_of, steps_in}
use Rattle.js_machine_actions.specs.Contexts as contexts
use Rattle.js_machine_actions.specs.Contexts.{Context}
use Rattle.js_machine_nodes.specs.declared.table.NodeTable.{NodeTable}
use Rattle.js_machine_nodes.specs.Codes.{HasFunctions}
use Rattle.js_machine_nodes.specs.Trees as trees
use Rattle.js_machine_nodes.specs.Trees.{IsTable}
use Rattle.js_machine_compiler.specs.Grown.{HasPlaces}
use Rattle.js_machine_compiler.specs.Scripts.{IsOfScripts}
use Rattle.js_machine_engine.specs.declared.run.Why.{Why}
use Rattle.js_machine_engine.specs.declared.run.Why.TheVariants as whys
use Rattle.js_machine_engine.specs.declared.stepped.Finish.{Finish}
use Rattle.js_machine_engine.specs.declared.stepped.Finish.TheVariants as finishes
use Rattle.js_machine_engine.specs.declared.stepped.Stepped.{Stepped}
use Rattle.js_machine_engine.specs.declared.stepped.Stepped.TheVariants as steppeds
use Rattle.js_machine_engine.specs.declared.task.Point.{Point}
use Rattle.js_machine_engine.specs.declared.task.Point.TheVariants as points
use Rattle.js_machine_engine.specs.Tasks.{Wide}
use Rattle.js_machine_engine.specs.Points.{term_at}
use Rattle.js_machine_engine.specs.Stepping.{finish_of, StandsIn}
use Rattle.js_machine.specs.declared.end.End.{End}
use Rattle.js_machine.specs.declared.end.End.TheVariants as ends

-- the code with its names, what a step threads beside the world, the tasks from the innermost one, where it stands, and
-- how it ended
pub record Machine : Type 0 where
  pub table : NodeTable
  pub names : List (List ℕ)
  pub context : Context
  pub tasks : List Wide
  pub point : Point
  pub ended : Option End

-- ---- what it is of a run

-- the sources in which the code of functions is looked up
abbrev pub program_of : Machine → Program
program_of m = trees.program_of m.names m.table

-- what is left to reduce
abbrev pub term_of : Machine → Term
term_of m = term_at m.names m.table m.tasks m.point

-- the state of a machine with a world, after the texts that were taken
abbrev pub state_of : Machine → World → List (List ℕ) → State
state_of m w taken = contexts.state_of w m.context taken

-- a run that ended so, or one with this term left; of a machine that was given up it says nothing
abbrev pub run_by : Option End → Term → State → Run
run_by None t s = run_of t s
run_by (Some (ends.Finished f)) t s = over (finish_of f) s
run_by (Some ends.Effect) t s = over by_effect s
run_by (Some (ends.Full what)) t s = over (by_full what) s
run_by (Some ends.Lost) t s = run_of t s

-- the run: a term with its state, or the end with its state
abbrev pub run_at : Machine → World → List (List ℕ) → Run
run_at m w taken = run_by m.ended (term_of m) (state_of m w taken)

-- the run over cells that are seen so with the names of the code
abbrev pub run_with : {S : Type 0} → (List (List ℕ) → S → World) → Machine → S → List (List ℕ) → Run
run_with see m cells taken = run_at m (see m.names cells) taken

-- and where so many steps lead from there
abbrev pub run_after : {S : Type 0} → ℕ → (List (List ℕ) → S → World) → Machine → S → List (List ℕ) → Run
run_after k see m cells taken = steps_in k (program_of m) script_scope (run_with see m cells taken)

-- ---- ends

-- something is left to reduce
abbrev pub IsLeft : Option End → Point → Type 0
IsLeft (Some e) p = ⊥
IsLeft None (points.Done v) = ⊥
IsLeft None p = Unit {0}

-- the machine has something left to reduce
abbrev pub IsGoing : Machine → Type 0
IsGoing m = IsLeft m.ended m.point

-- the machine was not given up
abbrev pub IsKept : Option End → Type 0
IsKept (Some ends.Lost) = ⊥
IsKept e = Unit {0}

-- the end, where all is reduced
abbrev pub finish_at : Option End → Point → Option Finish
finish_at (Some (ends.Finished f)) p = Some f
finish_at (Some ends.Effect) p = None
finish_at (Some (ends.Full what)) p = None
finish_at (Some ends.Lost) p = None
finish_at None (points.Done v) = Some (finishes.Ended v)
finish_at None p = None

-- how a step ends the run
abbrev pub end_of : Stepped → Option End
end_of steppeds.Went = None
end_of steppeds.Raised = None
end_of (steppeds.Printed vs) = None
end_of (steppeds.Over f) = Some (ends.Finished f)
end_of steppeds.Effect = Some ends.Effect
end_of (steppeds.Full what) = Some (ends.Full what)
end_of steppeds.Memory = Some ends.Lost

-- how many steps end it
abbrev pub end_of_run : Why → Option End
end_of_run whys.Asked = None
end_of_run whys.Spent = None
end_of_run whys.Raised = None
end_of_run (whys.Printed vs) = None
end_of_run (whys.Over f) = Some (ends.Finished f)
end_of_run whys.Effect = Some ends.Effect
end_of_run (whys.Full what) = Some (ends.Full what)
end_of_run whys.Memory = Some ends.Lost

-- ---- what holds of every machine

-- until its end a machine stands at its point, with its tasks in their scopes
abbrev pub StandsUntilEnd : NodeTable → List Wide → Point → Option End → Type 0
StandsUntilEnd t ws p None = StandsIn t script_scope ws p
StandsUntilEnd t ws p (Some e) = Unit {0}

-- what holds of each machine: its code is that of scripts and sound, and until its end it stands in its scopes
pub record IsSound (t : NodeTable) (ts : List (List ℕ)) (ws : List Wide) (p : Point) (e : Option End) : Type 0 where
  pub table : IsTable t
  pub places : HasPlaces t
  pub functions : HasFunctions t
  pub scripts : IsOfScripts ts t
  pub stands : StandsUntilEnd t ws p e

-- the code stays
pub record HasSameCode (m n : Machine) : Type 0 where
  pub table : n.table ≡ m.table
  pub names : n.names ≡ m.names
