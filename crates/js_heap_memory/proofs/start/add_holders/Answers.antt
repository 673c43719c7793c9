use Rattle.js_heap_memory.proofs.StartLemmas.{cells-then}
use Rattle.js_heap_memory.proofs.start.add_holders.Goals as goal

pub returns : goal.returns
returns c =
    λ names. cells-then _ _ _ _ _ _ (c.in_ok-add_holder.ensures names)
    (cells-then _ _ _ _ _ _ (c.in_ok-add_holder-2.ensures names) (c.in_ok-add_holder-3.ensures names))
