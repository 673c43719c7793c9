use Rattle.std.proofs.Common.{ℕ, List}
use Rattle.js_semantics.specs.Run.{run_of}
use Rattle.js_machine_actions.specs.Contexts.{state_of}
use Rattle.js_machine_nodes.specs.Trees.{program_of}
use Rattle.js_machine_engine.specs.Points.{term_at}
use Rattle.js_machine_engine.specs.Running.{HasRun, HasPassed}
use Rattle.js_machine_engine.specs.Prints.{IsSilent}
use Rattle.js_machine_engine.proofs.run.run_on.Given as goal

abbrev pub invariant-loop-steps : goal.invariant-loop-steps
invariant-loop-steps g l = record {
  run : HasRun l.code.names.now l.code.table.now l.code.root l.fn.stack l.fn.point
      (g.W.World.world l.code.names.now l.fn.world)
      l.fn.context l.steps l.stack l.point (g.W.World.world l.code.names.now l.world) l.context;
  passed : (taken : List (List ℕ))
      → HasPassed (g.H.StopTest.stops l.host) l.steps (program_of l.code.names.now l.code.table.now) l.code.root
      (run_of (term_at l.code.names.now l.code.table.now l.fn.stack l.fn.point)
      (state_of (g.W.World.world l.code.names.now l.fn.world) l.fn.context taken));
  silent : (taken : List (List ℕ))
      → IsSilent l.steps (program_of l.code.names.now l.code.table.now) l.code.root
      (run_of (term_at l.code.names.now l.code.table.now l.fn.stack l.fn.point)
      (state_of (g.W.World.world l.code.names.now l.fn.world) l.fn.context taken));
}
