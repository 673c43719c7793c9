use Rattle.js_machine_engine.specs.Parts.{IsTaken}
use Rattle.js_machine_engine.proofs.parts.next_part.Given as goal

abbrev pub invariant-loop-at : goal.invariant-loop-at
invariant-loop-at l = IsTaken l.table l.fn.stack l.stack l.at
