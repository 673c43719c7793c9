use Rattle.std.proofs.Common.{◌-◌, ◌++◌, sym, ap, ◌∙◌, arith}
use Rattle.std.proofs.lemmas.List.Edits.{remove-append_right}
use Rattle.js_heap_memory.proofs.PropertySplitLemmas.{names-remove}
use Rattle.js_heap_memory.proofs.properties.many.ManyProperties.remove.Goals as goal

pub invariant_of-self-else-place-before : goal.invariant_of-self-else-place-before
invariant_of-self-else-place-before c =
    rw c.remove-else-place-before.ensures
    (names-remove c.self.inside.named (c.args.place - c.len-before.result) c.self.invariant)

pub returns-else-place-before : goal.returns-else-place-before
returns-else-place-before c =
    let i = c.self.inside in
    rw (← c.self.view_is)
    (ap (λ ns. i.elements ++ ns) c.remove-else-place-before.ensures
    ∙ sym (remove-append_right i.elements i.named c.len-before.result c.args.place
    (sym c.len-before.ensures.len) (omega arith)))
