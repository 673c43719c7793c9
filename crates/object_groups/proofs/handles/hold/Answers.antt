use Rattle.std.proofs.Common.{◌∙◌, ap, sym, subst}
use Rattle.std.specs.Prelude.{filter}
use Rattle.std.specs.Option.{option_copied}
use Rattle.object_groups.specs.Handles.{has_another_number}
use Rattle.object_groups.specs.Groups.{AreGroupsOf}
use Rattle.object_groups.proofs.GroupLemmas.{err-fact, ok-fact}
use Rattle.object_groups.proofs.IndexLemmas.{grouped-more, added-and-removed}
use Rattle.object_groups.proofs.handles.hold.Goals as goal

pub returns-then-is_err-clause-kept : goal.returns-then-is_err-clause-kept
returns-then-is_err-clause-kept c =
    c.remove.ensures.rest ∙ ap (filter (has_another_number c.args.handle.number)) c.in_ok-add.ensures.added
    ∙ added-and-removed c.args.table.now c.args.handle c.requires.below

pub returns-then-is_err-clause-grouped : goal.returns-then-is_err-clause-grouped
returns-then-is_err-clause-grouped c =
    let back = c.remove.ensures.rest
    ∙ ap (filter (has_another_number c.args.handle.number)) c.in_ok-add.ensures.added
    ∙ added-and-removed c.args.table.now c.args.handle c.requires.below in
    let same = err-fact c.add-2.result _ (sym c.is_err.ensures.value ∙ c.if-is_err.true) c.add-2.ensures.kept in
    subst (λ hs. AreGroupsOf hs c.add-2.new.self) (sym back) (λ g. same g ∙ c.requires.grouped g)

pub returns-clause-grouped : goal.returns-clause-grouped
returns-clause-grouped c =
    let changed = ok-fact c.add-2.result _ (sym c.is_err.ensures.value ∙ c.if-is_err.false) c.add-2.ensures.added in
    subst (λ hs. AreGroupsOf hs c.add-2.new.self) (sym c.in_ok-add.ensures.added)
    (grouped-more c.args.table.now c.args.handle c.in-Some.group.now c.args.groups.now c.add-2.new.self
    (c.requires.named ∙ ap option_copied c.in-Some.is) c.requires.below c.requires.grouped changed)
