use Rattle.js_heap_memory.proofs.StartLemmas.{cells-then}
use Rattle.js_heap_memory.proofs.start.add_others.Goals as goal

pub returns : goal.returns
returns c =
    cells-then _ _ _ _ _ _ c.in_ok-add.ensures
    (cells-then _ _ _ _ _ _ c.in_ok-add-2.ensures
    (cells-then _ _ _ _ _ _ c.in_ok-add-3.ensures
    (cells-then _ _ _ _ _ _ c.in_ok-add-4.ensures c.in_ok-add-5.ensures)))
