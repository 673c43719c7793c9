use Rattle.js_heap.proofs.KeepLemmas.{writing-keeps}
use Rattle.js_heap.proofs.laws.writing_keeps.Goals as goal

pub returns : goal.returns
returns c = writing-keeps
