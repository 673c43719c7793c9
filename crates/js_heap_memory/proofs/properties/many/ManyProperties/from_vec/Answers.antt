use Rattle.js_heap_memory.proofs.PropertyOrderLemmas.{order-take, order-drop}
use Rattle.js_heap_memory.proofs.properties.many.ManyProperties.from_vec.Goals as goal

pub names_of-requires : goal.names_of-requires
names_of-requires c =
    rw c.deref.ensures.value (order-take _ _ (order-drop c.args.items.now.items c.len.result c.requires))
