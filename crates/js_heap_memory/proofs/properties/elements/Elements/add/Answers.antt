use Rattle.std.proofs.Common.{◌∙◌, sym, ap, arith}
use Rattle.js_heap.proofs.PlaceLemmas.{placed_place}
use Rattle.js_heap.specs.Places.{new_place}
use Rattle.std.specs.Prelude.{insert}
use Rattle.js_heap_memory.proofs.PropertyKeyLemmas.{zip-insert}
use Rattle.js_heap_memory.proofs.PropertyIndexLemmas.{search-fresh, search-place, search-ascend, search-within}
use Rattle.js_heap_memory.proofs.properties.elements.Elements.add.Goals as goal

pub unreachable-requires : goal.unreachable-requires
unreachable-requires c =
    let s = rw c.as_slice.ensures.value at c.search.ensures in
    let f = rw (← c.self.view_is) at c.requires.fresh in
    search-fresh c.self.inside.indices.items c.self.inside.items.items c.args.property.key c.args.index
    c.in_default.field-0 c.search.result c.self.invariant.0 c.self.invariant.1 c.requires.index f s c.in_default.is

pub insert-requires-2 : goal.insert-requires-2
insert-requires-2 c =
    let s = rw c.as_slice.ensures.value at c.search.ensures in
    let low = search-within c.self.inside.indices.items c.self.inside.items.items c.args.index c.in-Err.place
    c.search.result c.self.invariant.0 s c.in-Err.is in
    let e = c.reserve.ensures.len in
    grind arith

pub invariant_of-self-2 : goal.invariant_of-self-2
invariant_of-self-2 c =
    let s = rw c.as_slice.ensures.value at c.search.ensures in
    let e = rw (c.unwrap.ensures, c.reserve.ensures.items) at c.insert-2.ensures.items in
    rw (c.in_ok-insert.ensures.items, e) (
      zip-insert _ c.self.inside.indices.items c.self.inside.items.items c.in-Err.place c.args.index c.args.property
          c.self.invariant.0 c.requires.index,
      search-ascend c.self.inside.indices.items c.args.index c.in-Err.place c.search.result c.self.invariant.1 s
          c.in-Err.is,
    )

pub returns-clause-value : goal.returns-clause-value
returns-clause-value c =
    let s = rw c.as_slice.ensures.value at c.search.ensures in
    let e = rw (c.unwrap.ensures, c.reserve.ensures.items) at c.insert-2.ensures.items in
    let at = search-place c.self.inside.indices.items c.self.inside.items.items c.args.index c.in-Err.place
    c.search.result c.self.invariant.0 s c.in-Err.is in
    let place = ap (new_place c.self.inside.items.items) c.requires.index ∙ at in
    rw (← c.self.view_is)
    (e
    ∙ sym (placed_place c.self.inside.items.items c.args.property
    ∙ ap (λ i. insert c.self.inside.items.items i c.args.property) place))
