use Rattle.std.proofs.Common.{◌≡◌, ◌+◌, drop}
use Rattle.js_heap.specs.Places.{key_place}
use Rattle.js_heap.proofs.properties.key_place.Given as goal

abbrev pub invariant-loop-i : goal.invariant-loop-i
invariant-loop-i l = key_place l.properties l.key ≡ l.i + key_place (drop l.i l.properties) l.key
