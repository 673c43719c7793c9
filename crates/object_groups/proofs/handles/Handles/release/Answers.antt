use Rattle.std.proofs.Common.{◌∙◌, ◌+◌, length, ap, sym, subst, arith}
use Rattle.std.specs.Prelude.{Some}
use Rattle.std.specs.List.{list_any}
use Rattle.object_groups.specs.Handles.{has_number}
use Rattle.object_groups.specs.Index.{IsIndexed}
use Rattle.object_groups.proofs.NumberLemmas.{without-unused}
use Rattle.object_groups.proofs.IndexLemmas.{unreleased, nothing-found, something-found, filtered-index, ungrouped-less, grouped-less, length-less}
use Rattle.object_groups.proofs.handles.Handles.release.Goals.{in-Some-group, in_default-group}
use Rattle.object_groups.proofs.handles.Handles.release.Goals as goal

pub invariant_of-self : goal.invariant_of-self
invariant_of-self c =
    subst (λ hs. IsIndexed hs c.self.inside.made c.self.inside.groups) (sym c.remove.ensures.rest)
    (unreleased c.args.number c.self.inside.table c.self.inside.made c.self.inside.groups c.self.invariant
    (sym c.in_default.is ∙ c.remove.ensures.handle))

pub returns-in_default-clause-had : goal.returns-in_default-clause-had
returns-in_default-clause-had c =
    sym (nothing-found c.args.number c.self.inside.table (sym c.in_default.is ∙ c.remove.ensures.handle))
    ∙ ap (λ s. list_any (has_number c.args.number) s.held) c.self.view_is

pub returns-in_default-clause-one : goal.returns-in_default-clause-one
returns-in_default-clause-one c =
    let same = without-unused c.args.number c.self.inside.table
    (nothing-found c.args.number c.self.inside.table (sym c.in_default.is ∙ c.remove.ensures.handle)) in
    let long = ap length (c.remove.ensures.rest ∙ same) ∙ ap (λ s. length s.held) c.self.view_is in
    omega (arith, long)

pub invariant_of-self-in-Some-group : goal.invariant_of-self-in-Some-group
invariant_of-self-in-Some-group c =
    let left = grouped-less c.args.number c.self.inside.table c.in-Some.handle c.as_slice.result.now
    c.self.inside.groups c.remove-in-Some-group.new.self c.self.invariant.ascending
    (sym c.in-Some.is ∙ c.remove.ensures.handle)
    (c.in-Some-group.is ∙ ap (λ name. Some name) (sym c.as_slice.ensures))
    c.self.invariant.grouped c.remove-in-Some-group.ensures in
    subst (λ hs. IsIndexed hs c.self.inside.made c.remove-in-Some-group.new.self) (sym c.remove.ensures.rest)
    (filtered-index _ c.self.inside.table c.self.inside.made c.self.inside.groups c.remove-in-Some-group.new.self
    c.self.invariant left)

pub invariant_of-self-in_default-group : goal.invariant_of-self-in_default-group
invariant_of-self-in_default-group c =
    let left = ungrouped-less c.args.number c.self.inside.table c.in-Some.handle c.self.inside.groups
    c.self.invariant.ascending
    (sym c.in-Some.is ∙ c.remove.ensures.handle) c.in_default-group.is c.self.invariant.grouped in
    subst (λ hs. IsIndexed hs c.self.inside.made c.self.inside.groups) (sym c.remove.ensures.rest)
    (filtered-index _ c.self.inside.table c.self.inside.made c.self.inside.groups c.self.inside.groups c.self.invariant
    left)

pub returns-clause-had : goal.returns-clause-had
returns-clause-had c =
    sym (something-found c.args.number c.self.inside.table c.in-Some.handle
    (sym c.in-Some.is ∙ c.remove.ensures.handle))
    ∙ ap (λ s. list_any (has_number c.args.number) s.held) c.self.view_is

pub returns-clause-one : goal.returns-clause-one
returns-clause-one c =
    let less = length-less c.args.number c.self.inside.table c.remove.new.self c.in-Some.handle
    c.self.invariant.ascending
    (sym c.in-Some.is ∙ c.remove.ensures.handle) c.remove.ensures.rest in
    let whole = less ∙ ap (λ s. length s.held) c.self.view_is in
    elim c.match-handle.branch [
      | in-Some-group w ↦ ap (λ s. length s.held + 1) w.self-is ∙ whole
      | in_default-group w ↦ ap (λ s. length s.held + 1) w.self-is ∙ whole
    ]
