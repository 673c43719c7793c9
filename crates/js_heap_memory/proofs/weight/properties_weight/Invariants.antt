use Rattle.std.proofs.Common.{◌≡◌, ◌+◌, ◌-◌, ◌^◌, ◌<◌, min, drop}
use Rattle.js_heap.specs.Cells.{properties_weight}
use Rattle.js_heap_memory.proofs.weight.properties_weight.Given as goal

abbrev pub invariant-loop-i : goal.invariant-loop-i
invariant-loop-i l =
    (l.total < 2 ^ 64)
    × (min (l.total + properties_weight (drop l.i l.properties)) (2 ^ 64 - 1) ≡ min (properties_weight l.properties)
    (2 ^ 64 - 1))
