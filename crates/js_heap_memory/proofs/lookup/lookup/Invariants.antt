use Rattle.std.proofs.Common.{◌≡◌, ◌-◌}
use Rattle.js_heap.specs.Scopes.{found_within}
use Rattle.js_heap_memory.specs.Names.{name_of}
use Rattle.js_heap_memory.specs.Calls.{kept_found}
use Rattle.js_heap_memory.proofs.lookup.lookup.Given as goal

abbrev pub invariant-loop-i : goal.invariant-loop-i
invariant-loop-i g l =
    kept_found (found_within (l.count - l._i) (g.W.World.world l.names l.world) (name_of l.names l.name.number) l.at)
    ≡ kept_found
    (found_within l.count (g.W.World.world l.names l.world) (name_of l.names l.name.number) l.fn.scope)
