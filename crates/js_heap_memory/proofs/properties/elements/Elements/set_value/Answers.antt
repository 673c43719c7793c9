use Rattle.js_heap_memory.proofs.PropertyKeyLemmas.{zip-value}
use Rattle.js_heap_memory.proofs.properties.elements.Elements.set_value.Goals as goal

pub invariant_of-self : goal.invariant_of-self
invariant_of-self c =
    rw c.set_value.ensures (
      zip-value _ (λ x p v r. r)
          c.self.inside.indices.items c.self.inside.items.items c.args.place c.args.value c.self.invariant.0,
      c.self.invariant.1,
    )
