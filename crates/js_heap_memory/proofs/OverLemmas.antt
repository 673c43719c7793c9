-- Making cells and changing them, in an evaluation.
use Rattle.std.proofs.Common.{◌≡◌, ℕ, ◌+◌, ◌-◌, ◌^◌, ◌<◌, ◌≤◌, List, [], ◌∷◌, ◌++◌, length, Option, Some, None, Ok, refl, sym, ap, subst, ◌∙◌, arith, min}
use Rattle.std.specs.Prelude.{slice_get}
use Rattle.js_heap.specs.declared.value.Addr.{Addr}
use Rattle.js_heap.specs.declared.value.Addr.TheVariants.{Scratch}
use Rattle.js_heap.specs.declared.value.Value.{Value}
use Rattle.js_heap.specs.declared.cell.Cell.{Cell}
use Rattle.js_heap.specs.declared.cell.Cell.TheVariants as cells
use Rattle.js_heap.specs.declared.change.Change.TheVariants as changes
use Rattle.js_heap.specs.Cells.{weight}
use Rattle.js_heap.specs.World.{World, Tried, fine, read_cell, make_cell, written_at, write_cell}
use Rattle.js_heap_memory.specs.declared.stored.Stored.{Stored}
use Rattle.js_heap_memory.specs.Names.{name_of, Differ}
use Rattle.js_heap_memory.specs.Cells.{cell_of, cells_of}
use Rattle.js_heap_memory.specs.Calls.{HasPlace}
use Rattle.js_heap_memory.specs.Heaps.{Heap, Fit, MakesRoom, value_in_cells}
use Rattle.js_heap_memory.specs.Overlays.{Over, overlay_world, over_world, space_of}
use Rattle.js_heap_memory.proofs.HeapLemmas.{cells-append, cells-length}
use Rattle.js_heap_memory.proofs.MakeLemmas.{units_same}
use Rattle.js_heap_memory.proofs.BindLemmas.{scope-written, scope-replaced}
use Rattle.js_heap_memory.proofs.StayLemmas.{cells-stay}
use Rattle.js_heap_memory.proofs.WithinLemmas.{cells-more}
use Rattle.std.proofs.lemmas.Bool.{le-leb, lt-ltb}

-- ---- making

made_over : (ts : List (List ℕ)) (bs : List Cell) (cs ds : List Stored) (c : Stored) (st l u left at : ℕ)
    → ds ≡ cs ++ c ∷ []
    → 0 < l
    → weight (cell_of ts c) + left ≡ u
    → at ≡ length cs
    → make_cell (overlay_world ts bs cs st l u) (cell_of ts c) ≡ fine (Scratch at)
    (overlay_world ts bs ds st (l - 1) left)
made_over ts bs cs ds c st l u left at e h f i =
    let g : u - weight (cell_of ts c) ≡ left = omega (arith, f) in
    rw (
      lt-ltb 0 l h,
      le-leb (weight (cell_of ts c)) u (omega (arith, f)),
      g,
      cells-length ts cs,
      ← i,
      e,
      cells-append ts cs (c ∷ []),
    )
    refl

pub made-over : (h g : Over) (ds : List Stored) (c : Stored) (units left at : ℕ)
    → h ≡ g
    → ds ≡ h.cells ++ c ∷ []
    → MakesRoom h.cells_left h.units_left units (Ok left)
    → ((ts : List (List ℕ)) → units ≡ min (weight (cell_of ts c)) (2 ^ 64 - 1))
    → h.units_left < 2 ^ 32
    → at ≡ length h.cells
    → (ts : List (List ℕ))
    → make_cell (over_world ts g) (cell_of ts c) ≡ fine (Scratch at)
    (overlay_world ts (cells_of ts h.base.cells) ds h.start (h.cells_left - 1) left)
made-over h g ds c units left at e f m w s i ts =
    let P : Over
    → Type 0 = λ x. make_cell (over_world ts x) (cell_of ts c) ≡ fine (Scratch at)
    (overlay_world ts (cells_of ts h.base.cells) ds h.start (h.cells_left - 1) left) in
    subst P e
    (made_over ts (cells_of ts h.base.cells) h.cells ds c h.start h.cells_left h.units_left left at f m.0
    (units_same units left h.units_left (weight (cell_of ts c)) m.1 (w ts) s) i)

-- ---- a value at a place

bind_cell : (ts : List (List ℕ)) (bs : List Cell) (cs : List Stored) (st l u i place n : ℕ) (v : Value)
    (o : Option Cell)
    → Differ ts
    → slice_get (cells_of ts cs) i ≡ o
    → HasPlace o place (name_of ts n)
    → st ≤ i
    → write_cell (overlay_world ts bs cs st l u) (Scratch i) (changes.Bind (name_of ts n) v) ≡ fine tt
    (overlay_world ts bs (value_in_cells cs i place v) st l u)
bind_cell ts bs cs st l u i place n v (Some (cells.Bindings k name p ns)) d e h own =
    let w : World = overlay_world ts bs cs st l u in
    let P : Option Cell
    → Type 0 = λ o. written_at w (Scratch i) o (changes.Bind (name_of ts n) v) ≡ fine tt
    (overlay_world ts bs (value_in_cells cs i place v) st l u) in
    rw (le-leb st i own) (subst P (sym e) (scope-written w (Scratch i) k name p ns place (name_of ts n) v h
    ∙ ap {B = Tried (Unit {0})} (λ b. fine tt (record w { scratch = b }))
    (scope-replaced ts cs i place n v k name p ns d e h.0)))
bind_cell ts bs cs st l u i place n v None d e h own = absurd h
bind_cell ts bs cs st l u i place n v (Some (cells.Object ps)) d e h own = absurd h
bind_cell ts bs cs st l u i place n v (Some (cells.Error class ps)) d e h own = absurd h
bind_cell ts bs cs st l u i place n v (Some (cells.Array vs)) d e h own = absurd h
bind_cell ts bs cs st l u i place n v (Some (cells.Text us)) d e h own = absurd h
bind_cell ts bs cs st l u i place n v (Some (cells.Function code m q s t)) d e h own = absurd h

pub bind-over : (ts : List (List ℕ)) (h g : Over) (ds : List Stored) (i place n : ℕ) (v : Value) (a : Addr)
    → h ≡ g
    → a ≡ Scratch i
    → Differ ts
    → HasPlace (read_cell (over_world ts g) a) place (name_of ts n)
    → h.start ≤ i
    → ds ≡ value_in_cells h.cells i place v
    → write_cell (over_world ts g) a (changes.Bind (name_of ts n) v) ≡ fine tt
    (overlay_world ts (cells_of ts h.base.cells) ds h.start h.cells_left h.units_left)
bind-over ts h g ds i place n v a e f d k own l =
    let P : Over
    → Type 0 = λ x. write_cell (over_world ts x) (Scratch i) (changes.Bind (name_of ts n) v) ≡ fine tt
    (overlay_world ts (cells_of ts h.base.cells) ds h.start h.cells_left h.units_left) in
    let Q : Over → Type 0 = λ x. HasPlace (read_cell (over_world ts x) (Scratch i)) place (name_of ts n) in
    let R : Addr → Type 0 = λ b. HasPlace (read_cell (over_world ts g) b) place (name_of ts n) in
    let S : Addr
    → Type 0 = λ b. write_cell (over_world ts g) b (changes.Bind (name_of ts n) v) ≡ fine tt
    (overlay_world ts (cells_of ts h.base.cells) ds h.start h.cells_left h.units_left) in
    let q : HasPlace (slice_get (cells_of ts h.cells) i) place (name_of ts n) = subst Q (sym e) (subst R f k) in
    subst S (sym f)
    (subst P e
    (bind_cell ts (cells_of ts h.base.cells) h.cells h.start h.cells_left h.units_left i place n v
    (slice_get (cells_of ts h.cells) i) d refl q own
    ∙ ap {B = Tried (Unit {0})}
    (λ xs. fine tt (overlay_world ts (cells_of ts h.base.cells) xs h.start h.cells_left h.units_left))
    (sym l)))

-- ---- a table that goes on

goes_over : (h : Over)
    → Fit h.cells h.ends h.cells_left
    → Fit h.base.cells h.base.ends h.base.cells_left
    → (ts us : List (List ℕ))
    → h.base.ends ≤ length ts
    → h.ends ≤ length ts
    → over_world (ts ++ us) h ≡ over_world ts h
goes_over h f b ts us k l =
    rw (
      cells-stay ts us h.cells (cells-more h.ends (length ts) h.cells l f.within),
      cells-stay ts us h.base.cells (cells-more h.base.ends (length ts) h.base.cells k b.within),
    )
    refl

pub goes-over : (h g : Over)
    → h ≡ g
    → Fit h.cells h.ends h.cells_left
    → Fit h.base.cells h.base.ends h.base.cells_left
    → (ts us : List (List ℕ))
    → g.base.ends ≤ length ts
    → g.ends ≤ length ts
    → over_world (ts ++ us) g ≡ over_world ts g
goes-over h g e f b ts us =
    let P : Over
    → Type 0 = λ x. x.base.ends ≤ length ts
    → x.ends ≤ length ts
    → over_world (ts ++ us) x ≡ over_world ts x in
    subst P e (goes_over h f b ts us)

pub goes-space : (h g : Heap)
    → h ≡ g
    → Fit h.cells h.ends h.cells_left
    → (ts us : List (List ℕ))
    → g.ends ≤ length ts
    → space_of (ts ++ us) g ≡ space_of ts g
goes-space h g e f ts us =
    let P : Heap → Type 0 = λ x. x.ends ≤ length ts → space_of (ts ++ us) x ≡ space_of ts x in
    subst P e (λ l. rw (cells-stay ts us h.cells (cells-more h.ends (length ts) h.cells l f.within)) refl)
