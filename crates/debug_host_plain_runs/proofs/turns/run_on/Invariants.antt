use Rattle.std.proofs.Common.{◌≡◌, None}
use Rattle.js_heap_memory.specs.Heaps.{heap_world}
use Rattle.debug_host_plain_runs.specs.Turns.{HasCome}
use Rattle.debug_host_plain_runs.proofs.turns.run_on.Given as goal

-- some turns led here, what they printed is written, the run hasn't ended, and no write failed
abbrev pub invariant-turns : goal.invariant-turns
invariant-turns g l = record {
  come : HasCome l.fn.machine (heap_world l.fn.machine.names l.fn.heap) l.machine (heap_world l.machine.names l.heap)
      (g.O.Sink.content l.fn.out) (g.O.Sink.content l.out);
  going : l.machine.ended ≡ None;
  quiet : g.O.Sink.faults l.out ≡ g.O.Sink.faults l.fn.out;
}
