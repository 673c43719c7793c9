use Rattle.js_heap_memory.proofs.PropertyKeyLemmas.{zip-value}
use Rattle.js_heap_memory.proofs.properties.named.NamedProperties.set_value.Goals as goal

pub invariant_of-self : goal.invariant_of-self
invariant_of-self c =
    rw c.set_value.ensures
    (zip-value _ (λ x p v r. r)
    c.self.inside.keys.keys c.self.inside.items.items c.args.place c.args.value c.self.invariant)
