use Rattle.std.proofs.Common.{length, ◌-◌, ◌≡◌, ◌≤◌, take}
use Rattle.cdp_edge_wire.specs.Written.{gains}
use Rattle.cdp_edge_wire.proofs.wire.put_all.Given as goal

-- the first bytes are taken, and no write failed
abbrev pub invariant-loop-at : goal.invariant-loop-at
invariant-loop-at g l = record {
  within : l.at ≤ length l.piece;
  taken : g.W.Wire.content l.wire ≡ gains (g.W.Wire.content l.fn.wire) (take l.at l.piece);
  answers : g.W.Wire.answers l.wire ≡ g.W.Wire.answers l.fn.wire;
  quiet : g.W.Wire.faults l.wire ≡ g.W.Wire.faults l.fn.wire;
}

abbrev pub decreases-loop-at : goal.decreases-loop-at
decreases-loop-at g l = length l.piece - l.at
