use Rattle.std.proofs.Common.{◌-◌, ◌≤◌}
use Rattle.js_machine.specs.Plain.{HasMadeSteps}
use Rattle.js_machine.proofs.plain.run_on.Given as goal

abbrev pub invariant-loop-left : goal.invariant-loop-left
invariant-loop-left g l = record {
  made : HasMadeSteps l.fn.machine (g.W.World.world l.fn.machine.names l.fn.world) l.machine
      (g.W.World.world l.machine.names l.world) (l.most - l.left);
  within : l.left ≤ l.most;
}

abbrev pub decreases-loop-left : goal.decreases-loop-left
decreases-loop-left g l = l.left
