use Rattle.std.proofs.Common.{arith}
use Rattle.js_heap_memory.proofs.WithinLemmas.{cells-more}
use Rattle.js_heap_memory.proofs.heap.BaseHeap.know.Goals as goal

pub invariant_of-self : goal.invariant_of-self
invariant_of-self c =
    record {
      within = cells-more c.self.inside.ends c.len-ends.result c.self.inside.cells.items (grind arith)
          c.self.invariant.within;
      places = c.self.invariant.places;
    }
