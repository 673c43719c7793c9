use Rattle.std.proofs.Common.{◌≡◌}
use Rattle.js_heap.specs.Keys.{placed}
use Rattle.js_heap.proofs.PlaceLemmas.{placed_place}
use Rattle.js_heap_memory.proofs.PropertyOrderLemmas.{order-placed}
use Rattle.js_heap_memory.proofs.properties.few.FewProperties.add.Goals as goal

pub invariant_of-self-2 : goal.invariant_of-self-2
invariant_of-self-2 c =
    let e : c.insert.new.self.items ≡ placed c.self.inside.items.items c.args.property = cc
    (placed_place c.self.inside.items.items c.args.property, c.in_ok-insert.ensures.items) in
    let f = rw (← c.self.view_is) at c.requires in
    rw e (order-placed c.self.inside.items.items c.args.property c.self.invariant f)
