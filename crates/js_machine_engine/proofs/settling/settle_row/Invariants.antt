use Rattle.std.proofs.Common.{length}
use Rattle.js_machine_engine.specs.Settling.{IsOnWayOut}
use Rattle.js_machine_engine.proofs.settling.settle_row.Given as goal

abbrev pub invariant-loop-stack : goal.invariant-loop-stack
invariant-loop-stack l = IsOnWayOut l.table l.fn.stack l.stack

abbrev pub decreases-loop-stack : goal.decreases-loop-stack
decreases-loop-stack l = length l.stack
