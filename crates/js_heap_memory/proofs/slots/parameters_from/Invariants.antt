use Rattle.std.proofs.Common.{◌≡◌, ◌++◌, drop}
use Rattle.js_heap_memory.specs.Cells.{slots_from}
use Rattle.js_heap_memory.proofs.slots.parameters_from.Given as goal

abbrev pub invariant-loop-i : goal.invariant-loop-i
invariant-loop-i l =
    l.slots.items ++ slots_from l.i (drop l.i l.parameters) l.arguments ≡ slots_from 0 l.parameters l.arguments
