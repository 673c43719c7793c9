use Rattle.std.proofs.Common.{arith}
use Rattle.breakpoints.proofs.IndexedLemmas.{both-more}
use Rattle.breakpoints.proofs.place_set.put_all.Goals as goal

pub loop-place-preserved : goal.loop-place-preserved
loop-place-preserved c = record {
  ascending = c.put.ensures.ascending;
  room = omega (arith, c.loop-place.invariant.room, c.put.ensures.len, c.put.ensures.capacity);
  added =
      both-more c.args.more.now c.loop-place.place-index _ c.args.places.now.items c.loop-place.places.items
      c.put.new.values.items c.loop-place-test.true c.loop-place.invariant.added c.put.ensures.put;
}
