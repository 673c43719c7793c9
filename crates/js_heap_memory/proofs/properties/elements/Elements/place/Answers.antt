use Rattle.std.proofs.Common.{◌≡◌, Some, None, sym, arith}
use Rattle.js_heap.specs.Keys.{index_of_key}
use Rattle.js_heap_memory.proofs.PropertyKeyLemmas.{place-le}
use Rattle.js_heap_memory.proofs.PropertyIndexLemmas.{indices-other, search-found, search-absent}
use Rattle.js_heap_memory.proofs.properties.elements.Elements.place.Goals as goal

pub returns-in_default : goal.returns-in_default
returns-in_default c =
    let k : index_of_key c.args.key.now ≡ None = sym c.in_default.ensures in
    let e = indices-other c.self.inside.indices.items c.self.inside.items.items c.args.key.now c.self.invariant.0 k in
    let low = place-le c.self.inside.items.items c.args.key.now in
    rw (← c.self.view_is) (record { place = grind (arith, e); small = grind arith })

pub returns-in-Ok : goal.returns-in-Ok
returns-in-Ok c =
    let k : index_of_key c.args.key.now ≡ Some c.in-Some.index = sym c.in-Some.ensures in
    let s = rw c.as_slice.ensures.value at c.search.ensures in
    let e = search-found c.self.inside.indices.items c.self.inside.items.items c.args.key.now c.in-Some.index
    c.in-Ok.place c.search.result c.self.invariant.0 c.self.invariant.1 k s c.in-Ok.is in
    let low = place-le c.self.inside.items.items c.args.key.now in
    rw (← c.self.view_is) (record { place = sym e; small = grind (arith, e) })

pub returns-in-Err : goal.returns-in-Err
returns-in-Err c =
    let k : index_of_key c.args.key.now ≡ Some c.in-Some.index = sym c.in-Some.ensures in
    let s = rw c.as_slice.ensures.value at c.search.ensures in
    let e = search-absent c.self.inside.indices.items c.self.inside.items.items c.args.key.now c.in-Some.index
    c.in-Err.field-0 c.search.result c.self.invariant.0 k s c.in-Err.is in
    let low = place-le c.self.inside.items.items c.args.key.now in
    rw (← c.self.view_is) (record { place = grind (arith, e); small = grind arith })
