use Rattle.std.proofs.Common.{arith}
use Rattle.js_heap_memory.proofs.WithinLemmas.{cells-more}
use Rattle.js_heap_memory.proofs.overlay.Scratch.know.Goals as goal

pub invariant_of-self : goal.invariant_of-self
invariant_of-self c = (
  record {
    within = cells-more c.self.inside.ends c.len-ends.result c.self.inside.cells.items (grind arith)
        c.self.invariant.0.within;
    places = c.self.invariant.0.places;
  },
  c.self.invariant.1,
)
