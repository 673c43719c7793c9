use Rattle.std.proofs.Common.{◌∙◌, sym, subst}
use Rattle.breakpoints.specs.PlaceOrder.{AreAscending}
use Rattle.breakpoints.specs.PlaceFilter.{AreMarked}
use Rattle.breakpoints.specs.PlaceSet.{HasBoth}
use Rattle.breakpoints.proofs.place_set.PlaceSet.add_all.Goals as goal

pub put_all-requires : goal.put_all-requires
put_all-requires c = record {
  ascending = subst AreAscending (sym c.in_ok-reserve.ensures.items) c.self.invariant.ascending;
  room = c.in_ok-reserve.ensures.ok;
}

pub invariant_of-self-2 : goal.invariant_of-self-2
invariant_of-self-2 c = record {
  ascending = c.put_all.ensures.ascending;
  marked = subst (λ ps. AreMarked ps c.mark_only.new.self) c.as_slice.ensures.value c.mark_only.ensures;
}

pub returns-clause-added : goal.returns-clause-added
returns-clause-added c =
    subst (λ ps. HasBoth c.args.more.now ps c.put_all.new.places.items) (c.in_ok-reserve.ensures.items ∙ c.self.view_is)
    c.put_all.ensures.added
