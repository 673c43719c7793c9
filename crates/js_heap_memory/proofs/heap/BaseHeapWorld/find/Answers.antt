use Rattle.std.proofs.Common.{◌≡◌, subst}
use Rattle.std.specs.Prelude.{option_copied}
use Rattle.js_heap.specs.declared.value.Addr.TheVariants.{Base}
use Rattle.js_heap.specs.World.{read_cell}
use Rattle.js_heap_memory.specs.Cells.{cell_at}
use Rattle.js_heap_memory.specs.Heaps.{Heap, heap_world}
use Rattle.js_heap_memory.proofs.HeapLemmas.{cells-get}
use Rattle.js_heap_memory.proofs.heap.BaseHeapWorld.find.Goals as goal

pub returns-in-Base : goal.returns-in-Base
returns-in-Base c = λ names.
    let P : Heap
    → Type 0 = λ h. cell_at names (option_copied c.stored_at.result) ≡ read_cell (heap_world names h) (Base c.in-Base.i)
    in
    rw c.in-Base.is
    (subst P c.self.view_is
    (rw (c.stored_at.ensures, c.as_slice.ensures.value)
    (cells-get names c.self.inside.cells.items c.in-Base.i)))
