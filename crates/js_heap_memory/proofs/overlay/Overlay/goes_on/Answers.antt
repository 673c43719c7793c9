use Rattle.js_heap_memory.proofs.OverLemmas.{goes-over}
use Rattle.js_heap_memory.proofs.overlay.Overlay.goes_on.Goals as goal

pub returns : goal.returns
returns c = goes-over _ c.args.self.now c.self.view_is c.self.invariant.0 c.at.ensures.fit
