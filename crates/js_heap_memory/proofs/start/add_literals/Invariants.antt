use Rattle.std.proofs.Common.{ℕ, List, take}
use Rattle.js_heap.specs.BuiltIns.{literal_cells}
use Rattle.js_heap_memory.specs.Start.{GainsCells}
use Rattle.js_heap_memory.proofs.start.add_literals.Given as goal

abbrev pub invariant-loop-i : goal.invariant-loop-i
invariant-loop-i l =
    (names : List (List ℕ)) → GainsCells names l.initial.cells.items l.cells.items (literal_cells (take l.i l.literals))
