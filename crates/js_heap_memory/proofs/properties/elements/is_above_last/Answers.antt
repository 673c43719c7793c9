use Rattle.std.proofs.lemmas.Bool.{ltb-true}
use Rattle.js_heap_memory.proofs.PropertyIndexLemmas.{search-past}
use Rattle.js_heap_memory.proofs.properties.elements.is_above_last.Goals as goal

pub returns-in-Some : goal.returns-in-Some
returns-in-Some c =
    λ t k h. search-past c.args.indices.now c.in-Some.last.now c.args.index c.requires c.in-Some.ensures.value
    (ltb-true c.in-Some.last.now c.args.index t) k h
