use Rattle.std.proofs.Common.{◌∙◌, ap, subst}
use Rattle.breakpoints.specs.Hits.{has_place}
use Rattle.breakpoints.specs.PlaceFilter.{AreMarked}
use Rattle.breakpoints.specs.PlaceSet.{LacksOne}
use Rattle.breakpoints.proofs.PlaceLemmas.{has-less}
use Rattle.breakpoints.proofs.place_set.PlaceSet.remove.Goals as goal

pub invariant_of-self : goal.invariant_of-self
invariant_of-self c = record {
  ascending = c.take_out.ensures.ascending;
  marked = subst (λ ps. AreMarked ps c.mark_only.new.self) c.as_slice.ensures.value c.mark_only.ensures;
}

pub returns : goal.returns
returns c =
    subst (λ ps. LacksOne c.args.place ps c.take_out.new.values.items) c.self.view_is
    (λ q. ap (has_place q) c.take_out.ensures.taken
    ∙ has-less c.args.place q c.self.inside.places.items c.self.invariant.ascending)
