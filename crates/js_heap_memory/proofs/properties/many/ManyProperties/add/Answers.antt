use Rattle.std.proofs.Common.{◌++◌, sym, ap, ◌∙◌}
use Rattle.js_heap_memory.proofs.PropertySplitLemmas.{has-front, has-behind, names-pushed, ok-then, placed-index, placed-behind}
use Rattle.js_heap_memory.proofs.properties.many.ManyProperties.add.Goals as goal

pub add-requires-clause-fresh : goal.add-requires-clause-fresh
add-requires-clause-fresh c =
    has-front c.self.inside.elements c.self.inside.named c.args.property.key (rw (← c.self.view_is) at c.requires)

pub push-requires : goal.push-requires
push-requires c =
    has-behind c.self.inside.elements c.self.inside.named c.args.property.key (rw (← c.self.view_is) at c.requires)

pub invariant_of-self-in-None : goal.invariant_of-self-in-None
invariant_of-self-in-None c =
    names-pushed c.push.result c.self.inside.named c.push.new.self c.args.property c.self.invariant
    (sym (rw c.as_slice.ensures at c.in-None.ensures)) c.push.ensures.value c.push.ensures.kept

pub returns-in-Some-clause-value : goal.returns-in-Some-clause-value
returns-in-Some-clause-value c =
    let i = c.self.inside in
    let e = placed-index i.elements i.named c.args.property c.in-Some.index c.self.invariant
    (sym (rw c.as_slice.ensures at c.in-Some.ensures)) in
    rw (← c.self.view_is) (ok-then c.add.result (λ f. ap (λ es. es ++ i.named) f ∙ sym e) c.add.ensures.value)

pub returns-in-None-clause-value : goal.returns-in-None-clause-value
returns-in-None-clause-value c =
    let i = c.self.inside in
    let e = placed-behind i.elements i.named c.args.property (sym (rw c.as_slice.ensures at c.in-None.ensures)) in
    rw (← c.self.view_is) (ok-then c.push.result (λ f. ap (λ ns. i.elements ++ ns) f ∙ sym e) c.push.ensures.value)
