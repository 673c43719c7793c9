use Rattle.std.proofs.Common.{◌∙◌, map, ap, sym, subst}
use Rattle.breakpoints.specs.PlaceIndex.{AreInOrder, holding_cmp, session_of}
use Rattle.breakpoints.proofs.AscendingLemmas.{none-sorted}
use Rattle.breakpoints.proofs.place_index.PlaceIndex.new.Goals as goal

pub invariant_of-result : goal.invariant_of-result
invariant_of-result c = record {
  ordered = subst AreInOrder (sym c.new.ensures.items) (none-sorted holding_cmp);
  beside = c.new-2.ensures.items ∙ ap (map session_of) (sym c.new.ensures.items);
}
