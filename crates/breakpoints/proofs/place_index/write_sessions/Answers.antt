use Rattle.std.proofs.Common.{arith}
use Rattle.breakpoints.proofs.HoldingLemmas.{written-more}
use Rattle.breakpoints.proofs.place_index.write_sessions.Goals as goal

pub loop-pair-preserved : goal.loop-pair-preserved
loop-pair-preserved c =
    let items = rw c.unwrap.ensures at c.push.ensures.items in
    let len = rw c.unwrap.ensures at c.push.ensures.len in
    record {
      room = omega (arith, c.loop-pair.invariant.room, c.push.ensures.capacity);
      len = omega (arith, c.loop-pair.invariant.len, len);
      written =
          written-more c.loop-pair.sessions.items c.push.new.self.items c.args.pairs.now c.loop-pair.pair-index _
          items c.loop-pair-test.true c.loop-pair.invariant.written;
    }
