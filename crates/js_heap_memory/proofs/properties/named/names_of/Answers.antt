use Rattle.std.proofs.Common.{take, ◌∙◌, arith}
use Rattle.std.proofs.lemmas.List.{take_more}
use Rattle.js_heap_memory.proofs.PropertyKeyLemmas.{keys-push}
use Rattle.js_heap_memory.proofs.PropertyOrderLemmas.{order-fresh}
use Rattle.js_heap_memory.proofs.properties.named.names_of.Goals as goal

pub loop-property-preserved : goal.loop-property-preserved
loop-property-preserved c =
    let n = c.loop-property.property-index in
    let p = c.property-item.result in
    let text = c.in_ok-key.ensures.items ∙ c.as_slice.ensures in
    let fresh = rw (← c.property-item.is) at (order-fresh c.args.properties.now n p c.requires (omega arith)) in
    rw (take_more c.args.properties.now n p (omega arith), ← c.property-item.is)
    (keys-push c.loop-property.keys.keys c.insert_full.new.self.keys (take n c.args.properties.now)
    c.in_ok-key.key p c.loop-property.invariant text fresh c.in_ok-insert_full.ensures.keys)
