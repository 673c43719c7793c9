use Rattle.js_heap_memory.proofs.StartLemmas.{goes-then}
use Rattle.js_heap_memory.proofs.start.add_names.Goals as goal

pub returns-in_err-add_name : goal.returns-in_err-add_name
returns-in_err-add_name c = goes-then _ _ _ c.loop-i.invariant c.add_name.ensures

pub loop-i-preserved : goal.loop-i-preserved
loop-i-preserved c = goes-then _ _ _ c.loop-i.invariant c.add_name.ensures
