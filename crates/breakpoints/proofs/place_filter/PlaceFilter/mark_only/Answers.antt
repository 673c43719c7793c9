use Rattle.breakpoints.proofs.FilterLemmas.{marked-more}
use Rattle.breakpoints.proofs.place_filter.PlaceFilter.mark_only.Goals as goal

pub loop-place-preserved : goal.loop-place-preserved
loop-place-preserved c =
    marked-more c.args.places.now c.loop-place.place-index _ c.loop-place.self c.mark.new.self c.loop-place-test.true
    c.loop-place.invariant c.mark.ensures.kept c.mark.ensures.marked
