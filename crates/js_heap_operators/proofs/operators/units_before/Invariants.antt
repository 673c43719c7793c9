use Rattle.std.proofs.Common.{◌≡◌, drop}
use Rattle.js_heap.specs.Operators.{units_before}
use Rattle.js_heap_operators.proofs.operators.units_before.Given as goal

abbrev pub invariant-loop-i : goal.invariant-loop-i
invariant-loop-i l = units_before l.a l.b ≡ units_before (drop l.i l.a) (drop l.i l.b)
