use Rattle.std.proofs.Common.{arith, ◌∙◌, refl}
use Rattle.js_heap.specs.Scopes.{found_outward}
use Rattle.js_heap_memory.proofs.ScopeLemmas.{look-there, look-outward, place-there}
use Rattle.js_heap_memory.proofs.slots.look_in.Goals as goal

pub returns-then-place-slots-clause-value : goal.returns-then-place-slots-clause-value
returns-then-place-slots-clause-value c =
    λ names differ further. rw c.slice-slots.ensures
    (look-there names c.args.slots.now c.place-place.result c.args.name.number _ c.args.at
    (found_outward c.args.outer further) differ c.place-place.ensures (grind arith))

pub returns-clause-value : goal.returns-clause-value
returns-clause-value c =
    λ names differ further. look-outward names c.args.slots.now c.place-place.result c.args.name.number c.args.at
    (found_outward c.args.outer further) differ c.place-place.ensures (grind arith)
    ∙ c.outward.ensures.value further

pub returns-then-place-slots-clause-place : goal.returns-then-place-slots-clause-place
returns-then-place-slots-clause-place c =
    λ names differ. let p = place-there names c.args.slots.now c.place-place.result c.args.name.number differ
    c.place-place.ensures
    (grind arith) in
    (refl, p.0, p.1)
