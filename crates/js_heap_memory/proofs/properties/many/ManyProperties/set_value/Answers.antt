use Rattle.std.proofs.Common.{◌≡◌, ◌<◌, ◌+◌, ◌-◌, ◌++◌, length, sym, ap, ◌∙◌, arith}
use Rattle.js_heap_memory.proofs.PropertySplitLemmas.{value-front, value-behind, names-value}
use Rattle.js_heap_memory.proofs.properties.many.ManyProperties.set_value.Goals as goal

pub invariant_of-self-else-place-before : goal.invariant_of-self-else-place-before
invariant_of-self-else-place-before c =
    rw c.set_value-else-place-before.ensures
    (names-value c.self.inside.named (c.args.place - c.len-before.result) c.args.value c.self.invariant)

pub returns-then-place-before : goal.returns-then-place-before
returns-then-place-before c =
    let i = c.self.inside in
    let h : c.args.place < length i.elements = omega arith in
    rw (← c.self.view_is)
    (ap (λ es. es ++ i.named) c.set_value.ensures
    ∙ sym (value-front i.elements i.named c.args.place c.args.value h))

pub returns-else-place-before : goal.returns-else-place-before
returns-else-place-before c =
    let i = c.self.inside in
    let h : c.args.place ≡ length i.elements + (c.args.place - c.len-before.result) = omega arith in
    rw (← c.self.view_is)
    (ap (λ ns. i.elements ++ ns) c.set_value-else-place-before.ensures
    ∙ sym (value-behind i.elements i.named c.args.place (c.args.place - c.len-before.result) c.args.value h))
