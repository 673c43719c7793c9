use Rattle.std.proofs.Common.{◌≡◌, subst}
use Rattle.std.specs.Prelude.{option_copied}
use Rattle.js_heap.specs.declared.value.Addr.TheVariants.{Base, Scratch}
use Rattle.js_heap.specs.World.{read_cell}
use Rattle.js_heap_memory.specs.Cells.{cell_at}
use Rattle.js_heap_memory.specs.Overlays.{Over, over_world}
use Rattle.js_heap_memory.proofs.HeapLemmas.{cells-get}
use Rattle.js_heap_memory.proofs.overlay.OverlayWorld.find.Goals as goal

pub returns-in-Base : goal.returns-in-Base
returns-in-Base c = λ names.
    let P : Over
    → Type 0 = λ o. cell_at names (option_copied c.at.result) ≡ read_cell (over_world names o) (Base c.in-Base.i) in
    rw c.in-Base.is
    (subst P c.self.view_is (rw c.at.ensures.value (cells-get names c.self.inside.base.now.cells c.in-Base.i)))

pub returns-in-Scratch : goal.returns-in-Scratch
returns-in-Scratch c = λ names.
    let P : Over
    → Type 0 = λ o. cell_at names (option_copied c.stored_at.result) ≡ read_cell (over_world names o)
    (Scratch c.in-Scratch.i) in
    rw c.in-Scratch.is
    (subst P c.self.view_is
    (rw (c.stored_at.ensures, c.as_slice.ensures.value)
    (cells-get names c.self.inside.cells.items c.in-Scratch.i)))
