use Rattle.std.proofs.lemmas.List.Sorted.{searched}
use Rattle.js_heap_memory.proofs.PropertyIndexLemmas.{ascend-le}
use Rattle.js_heap_memory.proofs.properties.elements.search.Goals as goal

pub returns : goal.returns
returns c =
    searched c.args.indices.now c.args.index c.binary_search.result c.binary_search.ensures.position
    (λ i j l m. ascend-le c.args.indices.now i j c.requires l m)
