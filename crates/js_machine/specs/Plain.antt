-- Plain runs: what a machine and its cells have come to.
use Rattle.std.specs.Prelude.{◌≡◌, ℕ, List}
use Rattle.js_heap.specs.BuiltIns.{script_scope}
use Rattle.js_heap.specs.World.{World}
use Rattle.js_semantics.specs.Run.{steps_in, steps_taken}
use Rattle.js_machine_engine.specs.Running.{RunsFor}
use Rattle.js_machine.specs.Machines.{Machine, program_of, run_at, IsKept, HasSameCode}

-- a machine that was one thing with a world is another with another world, so many steps further, each of them one of a
-- run that isn't over
pub record HasMadeSteps (m : Machine) (v : World) (n : Machine) (w : World) (k : ℕ) : Type 0 where
  pub code : HasSameCode m n
  pub kept : IsKept n.ended
  pub runs : (taken : List (List ℕ)) → run_at n w taken ≡ steps_in k (program_of m) script_scope (run_at m v taken)
  pub left : (taken : List (List ℕ)) → RunsFor k (program_of m) script_scope (run_at m v taken)

-- within so many steps at most, it is where as many steps of the definition lead, after the steps that those take
pub record HasRunWithin (m : Machine) (v : World) (n : Machine) (w : World) (most k : ℕ) : Type 0 where
  pub code : HasSameCode m n
  pub reached : (taken : List (List ℕ))
      → run_at n w taken ≡ steps_in most (program_of m) script_scope (run_at m v taken)
  pub counted : (taken : List (List ℕ)) → k ≡ steps_taken most (program_of m) (run_at m v taken)
