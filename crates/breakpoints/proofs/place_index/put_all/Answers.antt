use Rattle.std.proofs.Common.{arith}
use Rattle.breakpoints.proofs.HoldingLemmas.{also-more}
use Rattle.breakpoints.proofs.place_index.put_all.Goals as goal

pub loop-place-preserved : goal.loop-place-preserved
loop-place-preserved c = record {
  ordered = c.put.ensures.ascending;
  room = omega (arith, c.loop-place.invariant.room, c.put.ensures.len, c.put.ensures.capacity);
  len = omega (arith, c.loop-place.invariant.len, c.put.ensures.len);
  added =
      also-more c.args.session c.args.places.now c.loop-place.place-index _ c.args.pairs.now.items
      c.loop-place.pairs.items c.put.new.values.items c.loop-place-test.true c.loop-place.invariant.added
      c.put.ensures.put;
}
