use Rattle.js_heap_memory.proofs.JoinedLemmas.{stands, not-begun, has-begun}
use Rattle.js_heap_memory.proofs.joined.JoinedTexts.begins_with.Goals as goal

pub returns-then-not-starts_with-clause-only : goal.returns-then-not-starts_with-clause-only
returns-then-not-starts_with-clause-only c =
    let units = c.self.inside.units.items in
    let ends = c.self.inside.ends.items in
    let us = c.first.inside.units.items in
    let es = c.first.inside.ends.items in
    let is = rw (c.as_slice.ensures.value, c.as_slice-2.ensures.value) at c.starts_with.ensures.value in
    not-begun units ends us es c.args.self.now c.args.first.now c.starts_with.result
    (stands units ends c.args.self.now c.self.view_is c.self.invariant)
    (stands us es c.args.first.now c.first.view_is c.first.invariant)
    is c.if-not-starts_with.true

pub returns-clause-begins : goal.returns-clause-begins
returns-clause-begins c =
    let units = c.self.inside.units.items in
    let ends = c.self.inside.ends.items in
    let us = c.first.inside.units.items in
    let es = c.first.inside.ends.items in
    let is = rw (c.as_slice.ensures.value, c.as_slice-2.ensures.value) at c.starts_with.ensures.value in
    let there = rw (c.as_slice-3.ensures.value, c.as_slice-4.ensures.value) at c.starts_with-2.ensures.value in
    (has-begun units ends us es c.args.self.now c.args.first.now c.starts_with.result c.starts_with-2.result
    (stands units ends c.args.self.now c.self.view_is c.self.invariant)
    (stands us es c.args.first.now c.first.view_is c.first.invariant)
    is c.if-not-starts_with.false there).0

pub returns-clause-only : goal.returns-clause-only
returns-clause-only c =
    let units = c.self.inside.units.items in
    let ends = c.self.inside.ends.items in
    let us = c.first.inside.units.items in
    let es = c.first.inside.ends.items in
    let is = rw (c.as_slice.ensures.value, c.as_slice-2.ensures.value) at c.starts_with.ensures.value in
    let there = rw (c.as_slice-3.ensures.value, c.as_slice-4.ensures.value) at c.starts_with-2.ensures.value in
    (has-begun units ends us es c.args.self.now c.args.first.now c.starts_with.result c.starts_with-2.result
    (stands units ends c.args.self.now c.self.view_is c.self.invariant)
    (stands us es c.args.first.now c.first.view_is c.first.invariant)
    is c.if-not-starts_with.false there).1
