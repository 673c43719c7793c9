use Rattle.std.proofs.Common.{◌≡◌, drop}
use Rattle.js_heap.specs.Keys.{same_units}
use Rattle.js_heap_operators.proofs.text.is_ascii.Given as goal

abbrev pub invariant-loop-i : goal.invariant-loop-i
invariant-loop-i l = same_units l.units l.bytes ≡ same_units (drop l.i l.units) (drop l.i l.bytes)
