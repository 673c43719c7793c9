use Rattle.js_heap_memory.proofs.OverLemmas.{goes-space}
use Rattle.js_heap_memory.proofs.overlay.Scratch.goes_on.Goals as goal

pub returns : goal.returns
returns c = goes-space _ c.args.self.now c.self.view_is c.self.invariant.0
