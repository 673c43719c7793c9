use Rattle.std.proofs.Common.{◌∙◌, ◌+◌, ◌<◌, ap, sym, subst, refl}
use Rattle.std.specs.List.{list_any}
use Rattle.object_groups.specs.declared.fault.TheConstants.{MOST_MADE}
use Rattle.object_groups.specs.Handles.{has_number}
use Rattle.object_groups.specs.Groups.{AreGroupsOf}
use Rattle.object_groups.specs.Index.{IsIndexed}
use Rattle.object_groups.proofs.NumberLemmas.{unused-below}
use Rattle.object_groups.proofs.IndexLemmas.{added-index, more-may-be}
use Rattle.object_groups.proofs.handles.Handles.make.Goals as goal

pub invariant_of-self-2 : goal.invariant_of-self-2
invariant_of-self-2 c =
    let few = subst (λ s. s.made < MOST_MADE) (sym c.self.view_is)
    (more-may-be c.args.self.now (sym c.fault.ensures ∙ c.in_default.is)) in
    subst (λ hs. IsIndexed hs (c.self.inside.made + 1) c.hold.new.groups) (sym c.in_ok-hold.ensures.added)
    (added-index c.self.inside.table _ c.self.inside.made c.self.inside.groups c.hold.new.groups c.self.invariant refl
    few
    (subst (λ hs. AreGroupsOf hs c.hold.new.groups) c.in_ok-hold.ensures.added c.in_ok-hold.ensures.grouped))

pub returns-clause-unused : goal.returns-clause-unused
returns-clause-unused c =
    sym (ap (λ s. list_any (has_number (c.self.inside.made + 1)) s.held) c.self.view_is)
    ∙ unused-below (c.self.inside.made + 1) c.self.inside.table c.self.invariant.below
