use Rattle.std.proofs.Common.{◌≡◌, drop}
use Rattle.js_heap_memory.specs.Heaps.{all_below}
use Rattle.js_heap_memory.proofs.heap.all_below.Given as goal

abbrev pub invariant-loop-slot : goal.invariant-loop-slot
invariant-loop-slot l = all_below l.slots l.end ≡ all_below (drop l.slot-index l.slots) l.end
