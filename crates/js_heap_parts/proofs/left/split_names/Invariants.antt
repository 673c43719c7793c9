use Rattle.std.proofs.Common.{◌≡◌, length}
use Rattle.js_heap_memory.specs.Cells.{bindings}
use Rattle.js_heap_parts.specs.Parts.{names_parts}
use Rattle.js_heap_parts.proofs.left.split_names.Given as goal

abbrev pub invariant-loop-slot : goal.invariant-loop-slot
invariant-loop-slot l = names_parts (bindings l.names l.left) ≡ names_parts (bindings l.names l.slots)

abbrev pub decreases-loop-slot : goal.decreases-loop-slot
decreases-loop-slot l = length l.left
