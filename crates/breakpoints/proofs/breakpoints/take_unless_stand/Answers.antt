use Rattle.breakpoints.proofs.IndexedLemmas.{standing-more}
use Rattle.breakpoints.proofs.breakpoints.take_unless_stand.Goals as goal

pub loop-place-preserved : goal.loop-place-preserved
loop-place-preserved c =
    standing-more c.args.places.now c.args.list.now c.loop-place.place-index _ c.args.index.now c.loop-place.index
    c.take_unless_stands.new.index c.loop-place-test.true c.loop-place.invariant c.take_unless_stands.ensures
