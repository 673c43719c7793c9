use Rattle.js_heap_memory.proofs.PropertyKeyLemmas.{set-value}
use Rattle.js_heap_memory.proofs.properties.list.set_value.Goals as goal

pub returns : goal.returns
returns c =
    set-value c.args.items.now.items c.args.place c.args.value c.index_mut.result.now c.index_mut.ensures.value
    c.requires
