use Rattle.std.proofs.Common.{take}
use Rattle.js_heap_memory.specs.Places.{IsPlaceIndex}
use Rattle.js_heap_memory.proofs.wide.places_of.Given as goal

abbrev pub invariant-loop-i : goal.invariant-loop-i
invariant-loop-i l = IsPlaceIndex (take l.i l.slots) l.places
