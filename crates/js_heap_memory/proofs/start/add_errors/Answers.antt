use Rattle.js_heap_memory.proofs.StartLemmas.{cells-then}
use Rattle.js_heap_memory.proofs.start.add_errors.Goals as goal

pub returns : goal.returns
returns c =
    cells-then _ _ _ _ _ _ c.in_ok-add_class.ensures
    (cells-then _ _ _ _ _ _ c.in_ok-add_class-2.ensures
    (cells-then _ _ _ _ _ _ c.in_ok-add_class-3.ensures c.in_ok-add_class-4.ensures))
