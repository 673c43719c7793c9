-- The cells of a heap.
use Rattle.std.proofs.Common.{◌≡◌, ℕ, zero, suc, ◌<◌, ◌≤◌, Bool, true, false, List, [], ◌∷◌, ◌++◌, length, get_or, Option, Some, None, Result, Ok, Err, refl, sym, ap, subst, ◌∙◌, arith, if◌then◌else◌}
use Rattle.std.specs.Prelude.{slice_get, slice_set}
use Rattle.std.specs.Option.{is_some}
use Rattle.js_heap.specs.declared.value.Value.{Value}
use Rattle.js_heap.specs.declared.cell.Binding.{Binding}
use Rattle.js_heap.specs.declared.cell.Cell.{Cell}
use Rattle.js_heap.specs.declared.change.Change.{Change}
use Rattle.js_heap.specs.Keys.{same_units}
use Rattle.js_heap.specs.Cells.{bound, binding_of, weight, changed}
use Rattle.js_heap_memory.specs.declared.stored.Stored.{Stored}
use Rattle.js_heap_memory.specs.declared.world.Refused.{Refused}
use Rattle.js_heap_memory.specs.Cells.{cell_of, cell_at, cells_of}
use Rattle.js_heap_memory.specs.Changes.{Moves, Weighed, WeighedCell, WeighedAt, eight_each, rebound}
use Rattle.js_heap_memory.proofs.WeightLemmas.{bound-length}

-- ---- the list of cells

pub cells-get : (ts : List (List ℕ)) (cs : List Stored) (i : ℕ)
    → cell_at ts (slice_get cs i) ≡ slice_get (cells_of ts cs) i
cells-get ts [] i = refl
cells-get ts (c ∷ cs) zero = refl
cells-get ts (c ∷ cs) (suc i) = cells-get ts cs i

pub cells-append : (ts : List (List ℕ)) (cs ds : List Stored)
    → cells_of ts (cs ++ ds) ≡ cells_of ts cs ++ cells_of ts ds
cells-append ts [] ds = refl
cells-append ts (c ∷ cs) ds = ap {B = List Cell} (λ es. cell_of ts c ∷ es) (cells-append ts cs ds)

pub cells-length : (ts : List (List ℕ)) (cs : List Stored) → length (cells_of ts cs) ≡ length cs
cells-length ts [] = refl
cells-length ts (c ∷ cs) = ap suc (cells-length ts cs)

pub ruleset heap_rules = (cells-get, cells-length)

pub ruleset length_rules = (cells-length)

set_cells : (ts : List (List ℕ)) (cs : List Stored) (i : ℕ) (c : Stored)
    → cells_of ts (slice_set cs i c) ≡ slice_set (cells_of ts cs) i (cell_of ts c)
set_cells ts [] i c = refl
set_cells ts (d ∷ cs) zero c = refl
set_cells ts (d ∷ cs) (suc i) c = ap {B = List Cell} (λ es. cell_of ts d ∷ es) (set_cells ts cs i c)

get_cell : (ts : List (List ℕ)) (cs : List Stored) (i : ℕ) (c : Stored)
    → i < length cs
    → get_or cs i c ≡ c
    → slice_get (cells_of ts cs) i ≡ Some (cell_of ts c)
get_cell ts [] i c h e = absurd (omega arith)
get_cell ts (d ∷ cs) zero c h e = let f : d ≡ c = e in rw f refl
get_cell ts (d ∷ cs) (suc i) c h e = get_cell ts cs i c (omega arith) e

get_past : (ts : List (List ℕ)) (cs : List Stored) (i : ℕ) → length cs ≤ i → slice_get (cells_of ts cs) i ≡ None
get_past ts [] i h = refl
get_past ts (c ∷ cs) zero h = absurd (omega arith)
get_past ts (c ∷ cs) (suc i) h = get_past ts cs i (omega arith)

set_same : (cs : List Cell) (i : ℕ) (c : Cell) → slice_get cs i ≡ Some c → slice_set cs i c ≡ cs
set_same [] i c e = refl
set_same (d ∷ cs) zero c e = let f : d ≡ c = cc in rw f refl
set_same (d ∷ cs) (suc i) c e = ap {B = List Cell} (λ es. d ∷ es) (set_same cs i c e)

-- ---- the change of one cell

weighed_cell : (ts : List (List ℕ)) (cs : List Stored) (i : ℕ) (old new : Stored) (o : Option Cell) (u : ℕ)
    (r : Result ℕ Refused)
    → slice_get (cells_of ts cs) i ≡ Some (cell_of ts old)
    → Weighed weight (cell_of ts old) o u r (cell_of ts new)
    → WeighedCell (cells_of ts cs) i (cell_of ts old) o u r (cells_of ts (slice_set cs i new))
weighed_cell ts cs i old new None u (Ok left) g w = (
  set_cells ts cs i new
      ∙ ap (λ c. slice_set (cells_of ts cs) i c) w.0
      ∙ set_same (cells_of ts cs) i (cell_of ts old) g,
  w.1,
)
weighed_cell ts cs i old new (Some d) u (Ok left) g w =
    (set_cells ts cs i new ∙ ap (λ c. slice_set (cells_of ts cs) i c) w.0, w.1)
weighed_cell ts cs i old new o u (Err e) g w = w

pub weighed-at : (ts : List (List ℕ)) (cs : List Stored) (i : ℕ) (old new : Stored) (ch : Change) (u : ℕ)
    (r : Result ℕ Refused)
    → i < length cs
    → get_or cs i old ≡ old
    → Weighed weight (cell_of ts old) (changed (cell_of ts old) ch) u r (cell_of ts new)
    → WeighedAt (cells_of ts cs) i (slice_get (cells_of ts cs) i) ch u r (cells_of ts (slice_set cs i new))
weighed-at ts cs i old new ch u r h e w =
    let g : slice_get (cells_of ts cs) i ≡ Some (cell_of ts old) = get_cell ts cs i old h e in
    let P : Option Cell → Type 0 = λ o. WeighedAt (cells_of ts cs) i o ch u r (cells_of ts (slice_set cs i new)) in
    subst P (sym g) (weighed_cell ts cs i old new (changed (cell_of ts old) ch) u r g w)

pub weighed-past : (ts : List (List ℕ)) (cs : List Stored) (i : ℕ) (ch : Change) (u : ℕ)
    → length cs ≤ i
    → WeighedAt (cells_of ts cs) i (slice_get (cells_of ts cs) i) ch u (Ok u) (cells_of ts cs)
weighed-past ts cs i ch u h =
    let P : Option Cell → Type 0 = λ o. WeighedAt (cells_of ts cs) i o ch u (Ok u) (cells_of ts cs) in
    subst P (sym (get_past ts cs i h)) (refl, refl)

-- ---- a value for a name

bound_none_if : (t : Bool) (b : Binding) (bs : List Binding) (n : List ℕ) (v : Value)
    → (is_some (binding_of bs n) ≡ false → bound bs n v ≡ bs)
    → is_some (if t then Some b else binding_of bs n) ≡ false
    → (if t then record b { value = Some v } ∷ bs else b ∷ bound bs n v) ≡ b ∷ bs
bound_none_if true b bs n v k e = absurd cc
bound_none_if false b bs n v k e = ap {B = List Binding} (λ cs. b ∷ cs) (k e)

bound_none : (bs : List Binding) (n : List ℕ) (v : Value) → is_some (binding_of bs n) ≡ false → bound bs n v ≡ bs
bound_none [] n v e = refl
bound_none (b ∷ bs) n v e = bound_none_if (same_units b.name n) b bs n v (bound_none bs n v) e

rebound_if : (t : Bool) (bs cs : List Binding) (n : List ℕ) (v : Value) (u : ℕ)
    → is_some (binding_of bs n) ≡ t
    → cs ≡ bound bs n v
    → let o : Option (List Binding) = if t then Some (bound bs n v) else None in Moves eight_each bs o u u cs
rebound_if true bs cs n v u e f = (f, omega (arith, bound-length bs n v))
rebound_if false bs cs n v u e f = (f ∙ bound_none bs n v e, refl)

pub bind-moves : (bs cs : List Binding) (n : List ℕ) (v : Value) (u : ℕ)
    → cs ≡ bound bs n v
    → Moves eight_each bs (rebound bs n v) u u cs
bind-moves bs cs n v u f = rebound_if (is_some (binding_of bs n)) bs cs n v u refl f
