use Rattle.std.proofs.Common.{refl, ◌∙◌}
use Rattle.js_heap_memory.specs.Heaps.{heap_world}
use Rattle.debug_host_plain_runs.proofs.TurnLemmas.{come_nowhere, come_on, cut_on, less_on, same_fault}
use Rattle.debug_host_plain_runs.proofs.turns.run_on.Goals as goal

pub turns-init : goal.turns-init
turns-init g c = record {
  come =
      come_nowhere c.args.machine.now (heap_world c.args.machine.now.names c.args.heap.now)
      (g.O.Sink.content c.args.out.now) c.requires.taken;
  going = c.requires.going;
  quiet = refl;
}

pub turns-preserved : goal.turns-preserved
turns-preserved g c = record {
  come = come_on _ _ _ _ _ _ _ _ _ c.turns.invariant.come c.in-Ok-None.ensures.come;
  going = rw c.in-Ok-None.field-0-is at c.in-Ok-None.ensures.goes_on;
  quiet = c.in-Ok-None.ensures.quiet ∙ c.turns.invariant.quiet;
}

pub returns-in-Ok-Some-clause-come : goal.returns-in-Ok-Some-clause-come
returns-in-Ok-Some-clause-come g c = come_on _ _ _ _ _ _ _ _ _ c.turns.invariant.come c.in-Ok-Some.ensures.come

pub returns-in-Err-clause-part : goal.returns-in-Err-clause-part
returns-in-Err-clause-part g c = cut_on _ _ _ _ _ _ _ c.turns.invariant.come c.in-Err.ensures.part

pub returns-in-Err-clause-less : goal.returns-in-Err-clause-less
returns-in-Err-clause-less g c =
    λ e. less_on _ _ _ _ _ _ _ c.turns.invariant.come (c.in-Err.ensures.less (same_fault _ _ e))
