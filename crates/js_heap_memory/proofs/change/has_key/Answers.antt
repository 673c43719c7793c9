use Rattle.js_heap_memory.proofs.WeightLemmas.{has-found}
use Rattle.js_heap_memory.proofs.change.has_key.Goals as goal

pub returns : goal.returns
returns c =
    has-found c.find.result c.args.properties.now c.args.key.now c.is_some.result c.find.ensures c.is_some.ensures
