use Rattle.std.proofs.Common.{◌∙◌, ap, arith, length}
use Rattle.js_heap_memory.proofs.JoinedLemmas.{stands, counted, part-stands, part-is}
use Rattle.js_heap_memory.proofs.joined.JoinedTexts.text.Goals as goal

pub start-requires : goal.start-requires
start-requires c =
    let units = c.self.inside.units.items in
    let ends = c.self.inside.ends.items in
    let all = counted units ends c.args.self.now c.self.view_is in
    let lent = ap length c.as_slice-ends.ensures.value in
    omega (arith, c.requires, all, lent)

pub overflow_add-at : goal.overflow_add-at
overflow_add-at c =
    let units = c.self.inside.units.items in
    let ends = c.self.inside.ends.items in
    let all = counted units ends c.args.self.now c.self.view_is in
    let lent = ap length c.as_slice-ends.ensures.value in
    grind (arith, c.requires, all, lent)

pub start-requires-2 : goal.start-requires-2
start-requires-2 c =
    let units = c.self.inside.units.items in
    let ends = c.self.inside.ends.items in
    let all = counted units ends c.args.self.now c.self.view_is in
    let lent = ap length c.as_slice-ends.ensures.value in
    omega (arith, c.requires, all, lent)

pub offset_bounds-deref-start : goal.offset_bounds-deref-start
offset_bounds-deref-start c =
    let units = c.self.inside.units.items in
    let ends = c.self.inside.ends.items in
    let j = stands units ends c.args.self.now c.self.view_is c.self.invariant in
    let e = c.as_slice-ends.ensures.value ∙ j.ends in
    let from = c.start.ensures c.args.self.now e in
    let to = c.start-2.ensures c.args.self.now e in
    let p = part-stands units ends c.args.self.now c.args.at c.start.result c.start-2.result j from to in
    let a = p.0 in
    let b = p.1 in
    let lent = ap length c.deref.ensures.value in
    grind (arith, a, b, lent)

pub slice_bounds-result-count : goal.slice_bounds-result-count
slice_bounds-result-count c =
    let units = c.self.inside.units.items in
    let ends = c.self.inside.ends.items in
    let j = stands units ends c.args.self.now c.self.view_is c.self.invariant in
    let e = c.as_slice-ends.ensures.value ∙ j.ends in
    let from = c.start.ensures c.args.self.now e in
    let to = c.start-2.ensures c.args.self.now e in
    let p = part-stands units ends c.args.self.now c.args.at c.start.result c.start-2.result j from to in
    let a = p.0 in
    let b = p.1 in
    let lent = ap length c.deref.ensures.value in
    grind (arith, a, b, lent)

pub slice_bounds-result-start : goal.slice_bounds-result-start
slice_bounds-result-start c =
    let units = c.self.inside.units.items in
    let ends = c.self.inside.ends.items in
    let j = stands units ends c.args.self.now c.self.view_is c.self.invariant in
    let e = c.as_slice-ends.ensures.value ∙ j.ends in
    let from = c.start.ensures c.args.self.now e in
    let to = c.start-2.ensures c.args.self.now e in
    let p = part-stands units ends c.args.self.now c.args.at c.start.result c.start-2.result j from to in
    let a = p.0 in
    let b = p.1 in
    let lent = ap length c.deref.ensures.value in
    grind (arith, a, b, lent)

pub slice_bounds-result-end : goal.slice_bounds-result-end
slice_bounds-result-end c =
    let units = c.self.inside.units.items in
    let ends = c.self.inside.ends.items in
    let j = stands units ends c.args.self.now c.self.view_is c.self.invariant in
    let e = c.as_slice-ends.ensures.value ∙ j.ends in
    let from = c.start.ensures c.args.self.now e in
    let to = c.start-2.ensures c.args.self.now e in
    let p = part-stands units ends c.args.self.now c.args.at c.start.result c.start-2.result j from to in
    let a = p.0 in
    let b = p.1 in
    let lent = ap length c.deref.ensures.value in
    grind (arith, a, b, lent)

pub returns : goal.returns
returns c =
    let units = c.self.inside.units.items in
    let ends = c.self.inside.ends.items in
    let j = stands units ends c.args.self.now c.self.view_is c.self.invariant in
    let e = c.as_slice-ends.ensures.value ∙ j.ends in
    let from = c.start.ensures c.args.self.now e in
    let to = c.start-2.ensures c.args.self.now e in
    rw c.deref.ensures.value
    (part-is units ends c.args.self.now c.args.at c.start.result c.start-2.result j c.requires from to)
