use Rattle.std.proofs.Common.{◌≡◌, drop}
use Rattle.js_machine_inspection.specs.Catchers.{catches}
use Rattle.js_machine_inspection.proofs.throws.catches.Given as goal

-- no task up to this one catches
abbrev pub invariant-loop-i : goal.invariant-loop-i
invariant-loop-i l = catches l.stack ≡ catches (drop l.i l.stack)
