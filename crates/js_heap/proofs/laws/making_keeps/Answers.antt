use Rattle.js_heap.proofs.KeepLemmas.{making-keeps}
use Rattle.js_heap.proofs.laws.making_keeps.Goals as goal

pub returns : goal.returns
returns c = making-keeps
