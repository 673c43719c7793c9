use Rattle.js_heap_memory.proofs.StartLemmas.{cells-then}
use Rattle.js_heap_memory.proofs.start.add_console.Goals as goal

pub returns : goal.returns
returns c = cells-then _ _ _ _ _ _ c.in_ok-add.ensures c.in_ok-add-2.ensures
