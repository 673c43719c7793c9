use Rattle.std.proofs.Common.{take, sym, arith}
use Rattle.std.proofs.lemmas.List.{take_more}
use Rattle.js_heap_memory.proofs.PropertyKeyLemmas.{zip-push}
use Rattle.js_heap_memory.proofs.PropertyOrderLemmas.{order-names, order-leading, order-end}
use Rattle.js_heap_memory.proofs.properties.elements.leading_indices.Goals as goal

pub returns-in_default : goal.returns-in_default
returns-in_default c =
    let ps = c.args.properties.now in
    let n = c.loop-property.property-index in
    let none = sym (rw c.as_slice.ensures at c.in_default.ensures) in
    let names = order-names ps n c.property-item.result c.requires (omega arith) c.property-item.is none in
    order-leading c.loop-property.indices.items ps n c.requires (omega arith) c.loop-property.invariant names

pub loop-property-preserved : goal.loop-property-preserved
loop-property-preserved c =
    let is = c.loop-property.indices.items in
    let n = c.loop-property.property-index in
    let p = c.property-item.result in
    let key = sym (rw c.as_slice.ensures at c.in-Some.ensures) in
    rw (c.in_ok-push.ensures.items, take_more c.args.properties.now n p (omega arith), ← c.property-item.is)
    (zip-push _ is (take n c.args.properties.now) c.in-Some.index p c.loop-property.invariant key)

pub returns : goal.returns
returns c =
    order-end c.loop-property.indices.items c.args.properties.now c.loop-property.property-index c.requires
    (omega arith) c.loop-property.invariant
