use Rattle.std.proofs.Common.{◌<◌, ◌≤◌, length, sym, ◌∙◌, arith}
use Rattle.js_heap.specs.Places.{key_place}
use Rattle.js_heap_memory.proofs.PropertySplitLemmas.{place-front, place-behind}
use Rattle.js_heap_memory.proofs.properties.many.ManyProperties.place.Goals as goal

pub returns-then-place-before : goal.returns-then-place-before
returns-then-place-before c =
    let i = c.self.inside in
    let h : key_place i.elements c.args.key.now < length i.elements = omega arith in
    rw (← c.self.view_is) (c.place-place.ensures.place ∙ sym (place-front i.elements i.named c.args.key.now h))

pub returns-else-place-before : goal.returns-else-place-before
returns-else-place-before c =
    let i = c.self.inside in
    let h : length i.elements ≤ key_place i.elements c.args.key.now = omega arith in
    let e = place-behind i.elements i.named c.args.key.now h in
    rw (← c.self.view_is) (omega (arith, e))
