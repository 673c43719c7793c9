use Rattle.std.proofs.Common.{sym, subst}
use Rattle.breakpoints.specs.PlaceFilter.{AreMarked}
use Rattle.breakpoints.specs.PlaceOrder.{AreAscending, place_cmp}
use Rattle.breakpoints.proofs.AscendingLemmas.{none-sorted}
use Rattle.breakpoints.proofs.FilterLemmas.{none-marked}
use Rattle.breakpoints.proofs.place_set.PlaceSet.new.Goals as goal

pub invariant_of-result : goal.invariant_of-result
invariant_of-result c = record {
  ascending = subst AreAscending (sym c.new.ensures.items) (none-sorted place_cmp);
  marked = subst (λ ps. AreMarked ps c.new-2.result) (sym c.new.ensures.items) (none-marked c.new-2.result);
}
