use Rattle.std.proofs.Common.{◌≡◌, ◌+◌, drop}
use Rattle.js_heap_memory.specs.Places.{slot_place}
use Rattle.js_heap_memory.proofs.slot_list.slot_place.Given as goal

abbrev pub invariant-loop-i : goal.invariant-loop-i
invariant-loop-i l = slot_place l.slots l.name.number ≡ l.i + slot_place (drop l.i l.slots) l.name.number
