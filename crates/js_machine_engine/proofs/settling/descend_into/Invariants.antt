use Rattle.js_machine_engine.specs.Settling.{IsOnWay}
use Rattle.js_machine_engine.proofs.settling.descend_into.Given as goal

abbrev pub invariant-loop : goal.invariant-loop
invariant-loop l = IsOnWay l.table l.fn.stack l.fn.node l.inner l.stack l.n

abbrev pub decreases-loop : goal.decreases-loop
decreases-loop l = l.n
