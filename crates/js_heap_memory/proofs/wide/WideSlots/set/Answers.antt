use Rattle.js_heap_memory.proofs.PlaceIndexLemmas.{index-value}
use Rattle.js_heap_memory.proofs.wide.WideSlots.set.Goals as goal

pub invariant_of-self : goal.invariant_of-self
invariant_of-self c =
    rw c.set_value.ensures
    (index-value c.self.inside.items.items c.self.inside.places c.args.place c.args.value c.self.invariant)
