use Rattle.std.proofs.Common.{◌≡◌}
use Rattle.cdp_door.specs.Greetings.{Came}
use Rattle.cdp_door.proofs.hear.hear.Given as goal

-- the bytes so far, and no fault
abbrev pub invariant-loop : goal.invariant-loop
invariant-loop g l = record {
  come : Came (record { answers = g.W.Wire.answers l.fn.wire; content = g.W.Wire.content l.fn.wire })
      (record { answers = g.W.Wire.answers l.wire; content = g.W.Wire.content l.wire })
      l.reader;
  quiet : g.W.Wire.faults l.wire ≡ g.W.Wire.faults l.fn.wire;
}
