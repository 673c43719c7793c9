use Rattle.std.proofs.Common.{◌≤◌, length, sym, ap, ◌∙◌, arith}
use Rattle.std.specs.Prelude.{remove}
use Rattle.js_heap.specs.Places.{key_place}
use Rattle.js_heap.proofs.PlaceLemmas.{without-place, without-past}
use Rattle.js_heap_memory.proofs.properties.PropertyMap.remove.Goals as goal

pub returns-then-place-len : goal.returns-then-place-len
returns-then-place-len c =
    c.remove_at.ensures
    ∙ ap (remove c.args.self.now) c.place-place.ensures
    ∙ sym (without-place c.args.self.now c.args.key.now)

pub returns-else-place-len : goal.returns-else-place-len
returns-else-place-len c =
    let h : length c.args.self.now ≤ key_place c.args.self.now c.args.key.now = omega arith in
    sym (without-past c.args.self.now c.args.key.now h)
