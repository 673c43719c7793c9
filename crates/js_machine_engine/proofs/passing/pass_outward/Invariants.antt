use Rattle.std.proofs.Common.{length}
use Rattle.js_machine_engine.specs.Passing.{HasPassedTasks}
use Rattle.js_machine_engine.proofs.passing.pass_outward.Given as goal

abbrev pub invariant-loop-task : goal.invariant-loop-task
invariant-loop-task l = HasPassedTasks l.table l.completion l.fn.stack l.fn.context l.stack l.context

abbrev pub decreases-loop-task : goal.decreases-loop-task
decreases-loop-task l = length l.stack
