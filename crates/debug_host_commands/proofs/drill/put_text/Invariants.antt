use Rattle.std.proofs.Common.{◌≡◌, ◌++◌, ℕ, List, length}
use Rattle.cdp_edge.specs.Outside.{gains}
use Rattle.debug_host_commands.proofs.drill.put_text.Given as goal

-- what stands before the rest is taken, and no write failed
abbrev pub invariant-loop-rest : goal.invariant-loop-rest
invariant-loop-rest g l = record {
  taken : (done : List ℕ)
      × (l.text ≡ done ++ l.rest)
      × (g.O.Sink.content l.out ≡ gains (g.O.Sink.content l.fn.out) done);
  quiet : g.O.Sink.faults l.out ≡ g.O.Sink.faults l.fn.out;
}

abbrev pub decreases-loop-rest : goal.decreases-loop-rest
decreases-loop-rest g l = length l.rest
