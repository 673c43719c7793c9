use Rattle.js_heap_memory.proofs.StayLemmas.{goes-on}
use Rattle.js_heap_memory.proofs.heap.BaseHeap.goes_on.Goals as goal

pub returns : goal.returns
returns c = goes-on _ c.args.self.now c.self.view_is c.self.invariant
