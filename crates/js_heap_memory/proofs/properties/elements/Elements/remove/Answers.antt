use Rattle.std.proofs.Common.{arith}
use Rattle.js_heap_memory.proofs.PropertyKeyLemmas.{zip-remove, zip-length}
use Rattle.js_heap_memory.proofs.PropertyIndexLemmas.{ascend-remove}
use Rattle.js_heap_memory.proofs.properties.elements.Elements.remove.Goals as goal

pub remove-requires : goal.remove-requires
remove-requires c =
    let e = zip-length _ c.self.inside.indices.items c.self.inside.items.items c.self.invariant.0 in grind arith

pub invariant_of-self : goal.invariant_of-self
invariant_of-self c =
    rw (c.remove.ensures.items, c.remove-2.ensures.items) (
      zip-remove _ c.self.inside.indices.items c.self.inside.items.items c.args.place c.self.invariant.0,
      ascend-remove c.self.inside.indices.items c.args.place c.self.invariant.1,
    )
