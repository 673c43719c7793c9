use Rattle.std.proofs.Common.{◌∙◌, ap, sym, subst, subst₂}
use Rattle.std.specs.List.{position}
use Rattle.breakpoints.specs.Breakpoints.{has_id, without}
use Rattle.breakpoints.specs.Indexed.{IsIndexed, KeepsStanding}
use Rattle.breakpoints.proofs.ListLemmas.{position-within}
use Rattle.breakpoints.proofs.IndexedLemmas.{removed-indexed, without-one, with-one, without-none, none-has}
use Rattle.breakpoints.proofs.breakpoints.Breakpoints.remove.Goals as goal

pub invariant_of-self : goal.invariant_of-self
invariant_of-self c =
    let e = ap (λ s. position (has_id c.args.id.now) s.set) c.self.view_is ∙ sym c.position.ensures ∙ c.in-Some.is in
    let within = position-within (has_id c.args.id.now) c.self.inside.list.items c.in-Some.place e in
    subst (λ bs. IsIndexed bs c.take_unless_stand.new.index) (sym c.remove-removed.ensures.items)
    (removed-indexed c.self.inside.list.items c.in-Some.place c.remove-removed.result c.self.inside.index
    c.take_unless_stand.new.index within c.remove-removed.ensures.value c.self.invariant
    (subst₂ (λ ps bs. KeepsStanding ps bs c.self.inside.index c.take_unless_stand.new.index)
    c.as_slice.ensures (c.as_slice-2.ensures.value ∙ c.remove-removed.ensures.items) c.take_unless_stand.ensures))

pub returns-in_default-clause-had : goal.returns-in_default-clause-had
returns-in_default-clause-had c =
    none-has c.args.id.now c.args.self.now.set (sym c.in_default.is ∙ c.position.ensures)

pub returns-in_default-clause-rest : goal.returns-in_default-clause-rest
returns-in_default-clause-rest c =
    ap (λ bs. record c.args.self.now { set = bs })
    (without-none c.args.id.now c.args.self.now.set (sym c.in_default.is ∙ c.position.ensures))

pub returns-clause-had : goal.returns-clause-had
returns-clause-had c =
    with-one c.args.id.now c.args.self.now.set c.in-Some.place c.remove-removed.result
    (sym c.position.ensures ∙ c.in-Some.is)

pub returns-clause-rest : goal.returns-clause-rest
returns-clause-rest c =
    let e = ap (λ s. position (has_id c.args.id.now) s.set) c.self.view_is ∙ sym c.position.ensures ∙ c.in-Some.is in
    let less = c.remove-removed.ensures.items
    ∙ sym (without-one c.args.id.now c.self.inside.list.items c.in-Some.place c.remove-removed.result c.self.invariant.apart e) in
    ap (λ bs. record { set = bs; active = c.self.inside.active }) less ∙ ap (without c.args.id.now) c.self.view_is
