use Rattle.std.proofs.Common.{◌∙◌, ap, sym, subst}
use Rattle.std.specs.List.{list_any}
use Rattle.breakpoints.specs.Breakpoints.{has_id}
use Rattle.breakpoints.specs.PlaceSet.{HasBoth}
use Rattle.breakpoints.specs.Indexed.{IsIndexed}
use Rattle.breakpoints.proofs.IndexedLemmas.{added-indexed}
use Rattle.breakpoints.proofs.breakpoints.Breakpoints.add.Goals as goal

pub invariant_of-self-2 : goal.invariant_of-self-2
invariant_of-self-2 c =
    let e = rw (c.unwrap.ensures, c.in_ok-reserve.ensures.items) at c.push.ensures.items in
    let none = ap (λ s. list_any (has_id c.args.id) s.set) c.self.view_is
    ∙ ap (λ id. list_any (has_id id) c.args.self.now.set) (sym c.as_slice.ensures)
    ∙ sym c.has.ensures
    ∙ c.if-has.false in
    subst (λ bs. IsIndexed bs c.add_all.new.self) (sym e)
    (added-indexed c.self.inside.list.items _ c.self.inside.index c.add_all.new.self
    c.self.invariant none
    (subst (λ ps. HasBoth ps c.self.inside.index c.add_all.new.self) c.as_slice-2.ensures
    c.in_ok-add_all.ensures.added))
