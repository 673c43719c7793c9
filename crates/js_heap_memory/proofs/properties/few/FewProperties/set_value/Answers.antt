use Rattle.js_heap_memory.proofs.PropertyOrderLemmas.{order-value}
use Rattle.js_heap_memory.proofs.properties.few.FewProperties.set_value.Goals as goal

pub invariant_of-self : goal.invariant_of-self
invariant_of-self c =
    rw c.set_value.ensures (order-value c.self.inside.items.items c.args.place c.args.value c.self.invariant)
