use Rattle.std.proofs.Common.{◌≡◌, ◌≤◌, ◌<◌, length, sym, ap, ◌∙◌, arith}
use Rattle.js_heap.specs.Keys.{assigned}
use Rattle.js_heap.specs.Places.{key_place}
use Rattle.js_heap_memory.specs.PropertyOrder.{with_value_at}
use Rattle.js_heap_memory.proofs.PropertyLemmas.{has-past, put-past, put-there}
use Rattle.js_heap_memory.proofs.properties.PropertyMap.put.Goals as goal

pub returns-then-place-len-clause-value : goal.returns-then-place-len-clause-value
returns-then-place-len-clause-value c =
    let h : key_place c.args.self.now c.args.key.now < length c.args.self.now = omega arith in
    c.set_value.ensures
    ∙ ap (λ i. with_value_at c.args.self.now i c.args.value) c.place-place.ensures
    ∙ sym (put-there c.args.self.now c.args.key.now c.args.value h)

pub add-requires : goal.add-requires
add-requires c =
    let h : length c.args.self.now ≤ key_place c.args.self.now c.args.key.now = omega arith in
    let u = c.in_ok-from_slice.ensures in
    let e : c.assigned.result ≡ assigned c.args.key.now c.args.value = cc u in
    rw e (has-past c.args.self.now c.args.key.now h)

pub returns-clause-value : goal.returns-clause-value
returns-clause-value c =
    let h : length c.args.self.now ≤ key_place c.args.self.now c.args.key.now = omega arith in
    let u = c.in_ok-from_slice.ensures in
    let e : c.assigned.result ≡ assigned c.args.key.now c.args.value = cc u in
    rw (put-past c.args.self.now c.args.key.now c.args.value h, ← e) c.add.ensures.value
