use Rattle.js_heap_memory.proofs.PropertyOrderLemmas.{order-remove}
use Rattle.js_heap_memory.proofs.properties.few.FewProperties.remove.Goals as goal

pub invariant_of-self : goal.invariant_of-self
invariant_of-self c = rw c.remove.ensures.items (order-remove c.self.inside.items.items c.args.place c.self.invariant)
