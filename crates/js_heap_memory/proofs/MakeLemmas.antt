-- Making cells and changing them, in a heap.
use Rattle.std.proofs.Common.{◌≡◌, ℕ, ◌+◌, ◌-◌, ◌^◌, ◌<◌, true, List, [], ◌∷◌, ◌++◌, length, Ok, refl, sym, subst, arith, length-append, min}
use Rattle.js_heap.specs.declared.value.Addr.TheVariants.{Base}
use Rattle.js_heap.specs.Cells.{weight}
use Rattle.js_heap.specs.World.{fine, make_cell}
use Rattle.js_heap_memory.specs.declared.stored.Stored.{Stored}
use Rattle.js_heap_memory.specs.Cells.{cell_of}
use Rattle.js_heap_memory.specs.Heaps.{Heap, Fit, base_world, heap_world, MakesRoom, is_within}
use Rattle.js_heap_memory.proofs.HeapLemmas.{cells-append, cells-length}
use Rattle.js_heap_memory.proofs.WithinLemmas.{within-append, test-within}
use Rattle.std.proofs.lemmas.Bool.{le-leb, lt-ltb}

-- ---- making

made_base : (ts : List (List ℕ)) (cs ds : List Stored) (c : Stored) (l u left at : ℕ)
    → ds ≡ cs ++ c ∷ []
    → 0 < l
    → weight (cell_of ts c) + left ≡ u
    → at ≡ length cs
    → make_cell (base_world ts cs l u) (cell_of ts c) ≡ fine (Base at) (base_world ts ds (l - 1) left)
made_base ts cs ds c l u left at e h f i =
    let g : u - weight (cell_of ts c) ≡ left = omega (arith, f) in
    rw (
      lt-ltb 0 l h,
      le-leb (weight (cell_of ts c)) u (omega (arith, f)),
      g,
      cells-length ts cs,
      ← i,
      e,
      cells-append ts cs (c ∷ []),
    )
    refl

pub units_same : (units left u w : ℕ) → units + left ≡ u → units ≡ min w (2 ^ 64 - 1) → u < 2 ^ 32 → w + left ≡ u
units_same units left u w e f h = grind arith

pub made-heap : (h g : Heap) (ds : List Stored) (c : Stored) (units left at : ℕ)
    → h ≡ g
    → ds ≡ h.cells ++ c ∷ []
    → MakesRoom h.cells_left h.units_left units (Ok left)
    → ((ts : List (List ℕ)) → units ≡ min (weight (cell_of ts c)) (2 ^ 64 - 1))
    → h.units_left < 2 ^ 32
    → at ≡ length h.cells
    → (ts : List (List ℕ))
    → make_cell (heap_world ts g) (cell_of ts c) ≡ fine (Base at) (base_world ts ds (h.cells_left - 1) left)
made-heap h g ds c units left at e f m w s i ts =
    let P : Heap
    → Type 0 = λ x. make_cell (heap_world ts x) (cell_of ts c) ≡ fine (Base at)
    (base_world ts ds (h.cells_left - 1) left) in
    subst P e
    (made_base ts h.cells ds c h.cells_left h.units_left left at f m.0
    (units_same units left h.units_left (weight (cell_of ts c)) m.1 (w ts) s) i)

pub made-fit : (cs ds : List Stored) (c : Stored) (ends l : ℕ)
    → Fit cs ends l
    → is_within c ends ≡ true
    → ds ≡ cs ++ c ∷ []
    → 0 < l
    → Fit ds ends (l - 1)
made-fit cs ds c ends l f e g h =
    let P : List Stored → Type 0 = λ xs. Fit xs ends (l - 1) in
    subst P (sym g)
    (record {
      within = within-append ends cs c f.within (test-within c ends e);
      places = omega
          (arith, f.places, h, length-append cs (c ∷ []));
    })
