use Rattle.std.proofs.Common.{length, ◌-◌, ◌≡◌, ◌≤◌, take}
use Rattle.cdp_edge.specs.Outside.{gains}
use Rattle.cdp_edge.proofs.sink.put.Given as goal

-- the first bytes are taken, and no write failed
abbrev pub invariant-loop-at : goal.invariant-loop-at
invariant-loop-at g l = record {
  within : l.at ≤ length l.piece;
  taken : g.O.Sink.content l.out ≡ gains (g.O.Sink.content l.fn.out) (take l.at l.piece);
  quiet : g.O.Sink.faults l.out ≡ g.O.Sink.faults l.fn.out;
}

abbrev pub decreases-loop-at : goal.decreases-loop-at
decreases-loop-at g l = length l.piece - l.at
