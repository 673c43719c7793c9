use Rattle.js_heap_memory.proofs.PropertyKeyLemmas.{zip-remove}
use Rattle.js_heap_memory.proofs.properties.named.NamedProperties.remove.Goals as goal

pub invariant_of-self : goal.invariant_of-self
invariant_of-self c =
    rw (c.shift_remove_index.ensures.keys, c.remove.ensures.items)
    (zip-remove _ c.self.inside.keys.keys c.self.inside.items.items c.args.place c.self.invariant)
