use Rattle.std.proofs.Common.{◌≡◌, ◌+◌, drop}
use Rattle.js_heap.specs.Places.{new_place}
use Rattle.js_heap.proofs.properties.new_place.Given as goal

abbrev pub invariant-loop-i : goal.invariant-loop-i
invariant-loop-i l = new_place l.properties l.index ≡ l.i + new_place (drop l.i l.properties) l.index
