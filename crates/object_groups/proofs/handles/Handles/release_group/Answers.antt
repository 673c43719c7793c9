use Rattle.std.proofs.Common.{[], ◌∙◌, sym, subst}
use Rattle.object_groups.specs.Index.{IsIndexed}
use Rattle.object_groups.proofs.IndexLemmas.{left-of-group, left-state, filtered-index, group-less}
use Rattle.object_groups.proofs.handles.Handles.release_group.Goals as goal

pub returns-in_default-clause-rest : goal.returns-in_default-clause-rest
returns-in_default-clause-rest c =
    left-state c.args.group.now c.args.self.now c.self.inside.table c.self.inside.table c.self.inside.made
    c.self.view_is
    (left-of-group c.args.group.now c.self.inside.table c.self.inside.made c.self.inside.groups c.self.invariant []
    c.in_default.ensures.numbers)

pub invariant_of-self-2 : goal.invariant_of-self-2
invariant_of-self-2 c =
    let left = c.remove_all.ensures
    ∙ left-of-group c.args.group.now c.self.inside.table c.self.inside.made c.self.inside.groups c.self.invariant
    c.in-Some.numbers.keys c.in-Some.ensures.numbers in
    subst (λ hs. IsIndexed hs c.self.inside.made c.take.new.self) (sym left)
    (filtered-index _ c.self.inside.table c.self.inside.made c.self.inside.groups c.take.new.self c.self.invariant
    (group-less c.args.group.now c.self.inside.table c.self.inside.groups c.take.new.self c.self.invariant.grouped
    c.take.ensures.rest))

pub returns-clause-rest : goal.returns-clause-rest
returns-clause-rest c =
    left-state c.args.group.now c.args.self.now c.self.inside.table c.remove_all.new.table c.self.inside.made
    c.self.view_is
    (c.remove_all.ensures
    ∙ left-of-group c.args.group.now c.self.inside.table c.self.inside.made c.self.inside.groups c.self.invariant
    c.in-Some.numbers.keys c.in-Some.ensures.numbers)
