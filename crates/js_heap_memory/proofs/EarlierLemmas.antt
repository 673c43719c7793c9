-- The cells of earlier evaluations, and cutting back to them.
use Rattle.std.proofs.Common.{◌≡◌, ℕ, zero, suc, ◌+◌, ◌-◌, ◌^◌, ◌<◌, ◌≤◌, List, [], ◌∷◌, ◌++◌, length, take, refl, sym, ap, subst, arith, length-append, min}
use Rattle.std.proofs.lemmas.List.{take-append-le, length-take}
use Rattle.std.specs.Prelude.{slice_set}
use Rattle.js_heap.specs.declared.value.Value.{Value}
use Rattle.js_heap.specs.declared.value.Addr.TheVariants.{Scratch}
use Rattle.js_heap.specs.declared.cell.Cell.{Cell}
use Rattle.js_heap.specs.World.{fine}
use Rattle.js_heap.specs.ScratchSpaces.{ScratchSpace, keep_source}
use Rattle.js_heap_memory.specs.declared.stored.Stored.{Stored}
use Rattle.js_heap_memory.specs.declared.stored.Stored.TheVariants as stored
use Rattle.js_heap_memory.specs.Cells.{cell_of, cells_of, AllWithin}
use Rattle.js_heap_memory.specs.Heaps.{Heap, Fit, value_in_cells}
use Rattle.js_heap_memory.specs.Overlays.{Over, overlay_world, over_world, space_of, OverlayMark, space_at, Earlier}
use Rattle.js_heap_memory.proofs.HeapLemmas.{cells-append, cells-length}
use Rattle.js_heap_memory.proofs.WithinLemmas.{within-append, cells-more, value-length}
use Rattle.std.proofs.lemmas.Bool.{le-leb}

-- ---- the first cells

pub set-others : (n : ℕ) (cs : List Stored) (i : ℕ) (c : Stored) → n ≤ i → take n (slice_set cs i c) ≡ take n cs
set-others zero cs i c h = refl
set-others (suc n) [] i c h = refl
set-others (suc n) (d ∷ cs) zero c h = absurd (omega arith)
set-others (suc n) (d ∷ cs) (suc i) c h = ap {B = List Stored} (λ ds. d ∷ ds) (set-others n cs i c (omega arith))

value_others : (n : ℕ) (cs : List Stored) (i place : ℕ) (v : Value)
    → n ≤ i
    → take n (value_in_cells cs i place v) ≡ take n cs
value_others zero cs i place v h = refl
value_others (suc n) [] i place v h = refl
value_others (suc n) (d ∷ cs) zero place v h = absurd (omega arith)
value_others (suc n) (d ∷ cs) (suc i) place v h =
    ap {B = List Stored} (λ ds. d ∷ ds) (value_others n cs i place v (omega arith))

pub take-within : (k n : ℕ) (cs : List Stored) → AllWithin k cs → AllWithin k (take n cs)
take-within k zero cs h = tt
take-within k (suc n) [] h = tt
take-within k (suc n) (c ∷ cs) h = (h.0, take-within k n cs h.1)

fewer_within : (k m n : ℕ) (cs : List Stored) → m ≤ n → AllWithin k (take n cs) → AllWithin k (take m cs)
fewer_within k zero n cs l h = tt
fewer_within k (suc m) zero cs l h = absurd (omega arith)
fewer_within k (suc m) (suc n) [] l h = tt
fewer_within k (suc m) (suc n) (c ∷ cs) l h = (h.0, fewer_within k m n cs (omega arith) h.1)

cells_take : (ts : List (List ℕ)) (n : ℕ) (cs : List Stored) → cells_of ts (take n cs) ≡ take n (cells_of ts cs)
cells_take ts zero cs = refl
cells_take ts (suc n) [] = refl
cells_take ts (suc n) (c ∷ cs) = ap {B = List Cell} (λ ds. cell_of ts c ∷ ds) (cells_take ts n cs)

-- ---- that they stay

pub earlier-same : (cs ds : List Stored) (place known : ℕ)
    → take place ds ≡ take place cs
    → length ds ≡ length cs
    → Earlier cs place known
    → Earlier ds place known
earlier-same cs ds place known e l h =
    let P : List Stored → Type 0 = λ xs. AllWithin known xs in
    record { within = subst P (sym e) h.within; before = omega (arith, l, h.before) }

pub earlier-more : (cs ds : List Stored) (c : Stored) (place known : ℕ)
    → ds ≡ cs ++ c ∷ []
    → Earlier cs place known
    → Earlier ds place known
earlier-more cs ds c place known e h =
    let P : List Stored → Type 0 = λ xs. Earlier xs place known in
    let Q : List Stored → Type 0 = λ xs. AllWithin known xs in
    subst P (sym e)
    (record {
      within = subst Q (sym (take-append-le place cs (c ∷ []) h.before)) h.within;
      before = omega
          (arith, h.before, length-append cs (c ∷ []));
    })

pub earlier-value : (cs ds : List Stored) (i place at known : ℕ) (v : Value)
    → ds ≡ value_in_cells cs i at v
    → place ≤ i
    → Earlier cs place known
    → Earlier ds place known
earlier-value cs ds i place at known v e l h =
    let P : List Stored → Type 0 = λ xs. Earlier xs place known in
    subst P (sym e)
    (earlier-same cs (value_in_cells cs i at v) place known (value_others place cs i at v l)
    (value-length cs i at v) h)

-- ---- cutting back

before_mark : (cs : List Stored) (place known count ends : ℕ)
    → Earlier cs place known
    → count ≤ place
    → known ≤ ends
    → AllWithin ends (take count cs)
before_mark cs place known count ends h l k =
    cells-more known ends (take count cs) k (fewer_within known count place cs l h.within)

pub before-mark : (h g : Heap) (m n : OverlayMark) (place known : ℕ)
    → h ≡ g
    → m ≡ n
    → Earlier h.cells place known
    → m.count ≤ place
    → known ≤ m.ends
    → AllWithin m.ends (take n.count g.cells)
before-mark h g m n place known e f w l k =
    let P : Heap → Type 0 = λ x. AllWithin m.ends (take n.count x.cells) in
    let Q : OverlayMark → Type 0 = λ x. AllWithin m.ends (take x.count h.cells) in
    subst P e (subst Q f (before_mark h.cells place known m.count m.ends w l k))

pub all-before : (h g : Heap) (n : OverlayMark) (left : ℕ)
    → h ≡ g
    → Fit h.cells h.ends left
    → AllWithin h.ends (take n.count g.cells)
all-before h g n left e f =
    let P : Heap → Type 0 = λ x. AllWithin h.ends (take n.count x.cells) in
    subst P e (take-within h.ends n.count h.cells f.within)

pub cut-fit : (h g : Heap) (m n : OverlayMark) (ds : List Stored) (ends : ℕ)
    → h ≡ g
    → m ≡ n
    → ds ≡ take m.count h.cells
    → AllWithin ends (take n.count g.cells)
    → m.count + m.cells_left < 2 ^ 32
    → Fit ds ends m.cells_left
cut-fit h g m n ds ends e f k w l =
    let P : Heap → Type 0 = λ x. AllWithin ends (take m.count x.cells) in
    let Q : OverlayMark → Type 0 = λ x. AllWithin ends (take x.count g.cells) in
    let R : List Stored → Type 0 = λ xs. Fit xs ends m.cells_left in
    subst R (sym k)
    (record {
      within = subst P (sym e) (subst Q (sym f) w);
      places = omega (arith, l, length-take m.count h.cells);
    })

take_earlier : (count place known : ℕ) (cs : List Stored)
    → place ≤ count
    → AllWithin known (take place cs)
    → AllWithin known (take place (take count cs))
take_earlier count zero known cs l h = tt
take_earlier zero (suc place) known cs l h = absurd (omega arith)
take_earlier (suc count) (suc place) known [] l h = tt
take_earlier (suc count) (suc place) known (c ∷ cs) l h = (h.0, take_earlier count place known cs (omega arith) h.1)

cut_earlier : (cs ds : List Stored) (count place known : ℕ)
    → ds ≡ take count cs
    → place ≤ count
    → Earlier cs place known
    → Earlier ds place known
cut_earlier cs ds count place known e l h =
    let P : List Stored → Type 0 = λ xs. Earlier xs place known in
    subst P (sym e)
    (record {
      within = take_earlier count place known cs l h.within;
      before = omega
          (arith, h.before, length-take count cs);
    })

pub cut-min : (cs ds : List Stored) (count place at known : ℕ)
    → ds ≡ take count cs
    → at ≡ min place count
    → Earlier cs place known
    → Earlier ds at known
cut-min cs ds count place at known e m h =
    let l : at ≤ place = omega (arith, m) in
    cut_earlier cs ds count at known e (omega (arith, m))
    (record { within = fewer_within known at place cs l h.within; before = omega (arith, h.before, l) })

pub cut-space : (h g : Heap) (ds : List Stored) (m n : OverlayMark)
    → h ≡ g
    → m ≡ n
    → ds ≡ take m.count h.cells
    → (ts : List (List ℕ))
    → let x : ScratchSpace = record {
      cells = cells_of ts ds;
      room = record {
        cells = m.cells_left;
        units = m.units_left;
      };
    } in
    x ≡ space_at (space_of ts g) n
cut-space h g ds m n e f k ts =
    let x : ScratchSpace = record {
      cells = cells_of ts ds;
      room = record {
        cells = m.cells_left;
        units = m.units_left;
      };
    } in
    let P : Heap → Type 0 = λ y. x ≡ space_at (space_of ts y) n in
    let Q : OverlayMark → Type 0 = λ y. x ≡ space_at (space_of ts h) y in
    subst P e (subst Q f (rw (k, cells_take ts m.count h.cells) refl))

-- ---- a source that is kept

kept_over : (ts : List (List ℕ)) (bs : List Cell) (cs ds : List Stored) (us : List ℕ) (st l u left at : ℕ)
    → ds ≡ cs ++ stored.Text us ∷ []
    → length us + left ≡ u
    → at ≡ length cs
    → keep_source (overlay_world ts bs cs st l u) us ≡ fine (Scratch at) (overlay_world ts bs ds st l left)
kept_over ts bs cs ds us st l u left at e f i =
    let g : u - length us ≡ left = omega (arith, f) in
    rw (
      le-leb (length us) u (omega (arith, f)),
      g,
      cells-length ts cs,
      ← i,
      e,
      cells-append ts cs (stored.Text us ∷ []),
    )
    refl

pub kept-over : (h g : Over) (ds : List Stored) (us : List ℕ) (left at : ℕ)
    → h ≡ g
    → ds ≡ h.cells ++ stored.Text us ∷ []
    → length us + left ≡ h.units_left
    → at ≡ length h.cells
    → (ts : List (List ℕ))
    → keep_source (over_world ts g) us ≡ fine (Scratch at)
    (overlay_world ts (cells_of ts h.base.cells) ds h.start h.cells_left left)
kept-over h g ds us left at e f m i ts =
    let P : Over
    → Type 0 = λ x. keep_source (over_world ts x) us ≡ fine (Scratch at)
    (overlay_world ts (cells_of ts h.base.cells) ds h.start h.cells_left left) in
    subst P e (kept_over ts (cells_of ts h.base.cells) h.cells ds us h.start h.cells_left h.units_left left at f m i)

pub kept-fit : (cs ds : List Stored) (us : List ℕ) (ends l : ℕ)
    → Fit cs ends l
    → ds ≡ cs ++ stored.Text us ∷ []
    → length cs + l + 1 < 2 ^ 32
    → Fit ds ends l
kept-fit cs ds us ends l f e k =
    let P : List Stored → Type 0 = λ xs. Fit xs ends l in
    subst P (sym e)
    (record {
      within = within-append ends cs (stored.Text us) f.within tt;
      places = omega
          (arith, k, length-append cs (stored.Text us ∷ []));
    })
