-- A world is a map: what is read after making and writing.
use Rattle.std.proofs.Common.{◌≡◌, ℕ, zero, suc, ◌+◌, Bool, true, false, List, [], ◌∷◌, ◌++◌, length, Option, None, Some, refl, sym, ap, ◌∙◌}
use Rattle.std.specs.Prelude.{slice_set, slice_get, nat_le, nat_lt, if◌then◌else◌}
use Rattle.js_heap.specs.declared.value.Addr.{Addr}
use Rattle.js_heap.specs.declared.value.Addr.TheVariants.{Base, Scratch}
use Rattle.js_heap.specs.declared.cell.Cell.{Cell}
use Rattle.js_heap.specs.declared.change.Change.{Change}
use Rattle.js_heap.specs.declared.change.Counted.TheVariants as counted
use Rattle.js_heap.specs.Cells.{weight, changed}
use Rattle.js_heap.specs.World.{Room, World, fine, effect, full, read_cell, is_own, next_address, with_cell, room_less, make_cell, replaced, room_after, written, written_at, write_cell}
use Rattle.js_heap.specs.Worlds.{CellStays, HasMadeCell, cell_or, read_after, HasWritten, AfterFine}
use Rattle.js_heap.proofs.KeepLemmas.{fine_if}

-- ---- lists of cells

get-end : (cs : List Cell) → slice_get cs (length cs) ≡ None
get-end [] = refl
get-end (d ∷ cs) = get-end cs

pub get-last : (cs : List Cell) (c : Cell) → slice_get (cs ++ c ∷ []) (length cs) ≡ Some c
get-last [] c = refl
get-last (d ∷ cs) c = get-last cs c

cell-same : (o : Option Cell) → CellStays o o
cell-same None = tt
cell-same (Some c) = refl

cell-append : (cs : List Cell) (c : Cell) (i : ℕ) → CellStays (slice_get cs i) (slice_get (cs ++ c ∷ []) i)
cell-append [] c i = tt
cell-append (d ∷ cs) c zero = refl
cell-append (d ∷ cs) c (suc i) = cell-append cs c i

get-set : (cs : List Cell) (j : ℕ) (old new : Cell)
    → slice_get cs j ≡ Some old
    → slice_get (slice_set cs j new) j ≡ Some new
get-set [] j old new e = cc
get-set (d ∷ cs) zero old new e = refl
get-set (d ∷ cs) (suc j) old new e = get-set cs j old new e

get-other : (cs : List Cell) (j : ℕ) (new : Cell) (i : ℕ)
    → (i ≡ j → ⊥)
    → slice_get (slice_set cs j new) i ≡ slice_get cs i
get-other [] j new i d = refl
get-other (c ∷ cs) zero new zero d = absurd (d refl)
get-other (c ∷ cs) zero new (suc i) d = refl
get-other (c ∷ cs) (suc j) new zero d = refl
get-other (c ∷ cs) (suc j) new (suc i) d = get-other cs j new i (λ e. d (ap suc e))

-- ---- making

made_others : (w : World) (r : Room) (o : Option ℕ) (c : Cell) (b : Addr)
    → CellStays (read_cell w b) (read_cell (record (with_cell w o c) { room = r }) b)
made_others w r None c (Base i) = cell-append w.base c i
made_others w r None c (Scratch i) = cell-same (slice_get w.scratch i)
made_others w r (Some n) c (Base i) = cell-same (slice_get w.base i)
made_others w r (Some n) c (Scratch i) = cell-append w.scratch c i

has_made : (w : World) (r : Room) (o : Option ℕ) (c : Cell)
    → HasMadeCell w c (next_address w o) (record (with_cell w o c) { room = r })
has_made w r None c = record { fresh = get-end w.base; made = get-last w.base c; others = made_others w r None c }
has_made w r (Some n) c =
    record { fresh = get-end w.scratch; made = get-last w.scratch c; others = made_others w r (Some n) c }

pub making-makes : (w : World) (c : Cell) → AfterFine (make_cell w c) (λ a v. HasMadeCell w c a v)
making-makes w c =
    let v : World = record (with_cell w w.start c) { room = room_less w.room (weight c) } in
    let P : Addr → World → Type 0 = λ a u. HasMadeCell w c a u in
    fine_if (nat_lt 0 w.room.cells) counted.Cells
    (if nat_le (weight c) w.room.units then fine (next_address w w.start) v else full counted.Units) P
    (fine_if (nat_le (weight c) w.room.units) counted.Units (fine (next_address w w.start) v) P
    (has_made w v.room w.start c))

-- ---- writing

set_read : (w : World) (r : Room) (a : Addr) (old new : Cell)
    → read_cell w a ≡ Some old
    → read_cell (record (replaced w a new) { room = r }) a ≡ Some new
set_read w r (Base j) old new e = get-set w.base j old new e
set_read w r (Scratch j) old new e = get-set w.scratch j old new e

set_others : (w : World) (r : Room) (a : Addr) (new : Cell) (b : Addr)
    → (b ≡ a → ⊥)
    → read_cell (record (replaced w a new) { room = r }) b ≡ read_cell w b
set_others w r (Base j) new (Base i) d = get-other w.base j new i (λ e. d (ap (λ n. Base n) e))
set_others w r (Base j) new (Scratch i) d = refl
set_others w r (Scratch j) new (Base i) d = refl
set_others w r (Scratch j) new (Scratch i) d = get-other w.scratch j new i (λ e. d (ap (λ n. Scratch n) e))

after-is : (w : World) (a : Addr) (old : Cell) (ch : Change) (o : Option Cell)
    → read_cell w a ≡ Some old
    → changed old ch ≡ o
    → read_after (read_cell w a) ch ≡ Some (cell_or o old)
after-is w a old ch o e q = ap (λ c. read_after c ch) e ∙ ap (λ p. Some (cell_or p old)) q

written_one : (w : World) (a : Addr) (old : Cell) (ch : Change) (o : Option Cell)
    → read_cell w a ≡ Some old
    → changed old ch ≡ o
    → AfterFine (written w a old o) (λ u v. HasWritten w a ch v)
written_one w a old ch None e q = record { cell = e ∙ sym (after-is w a old ch None e q); others = λ b d. refl }
written_one w a old ch (Some new) e q =
    let v : World = record (replaced w a new) { room = room_after w.room (weight old) (weight new) } in
    let P : Unit {0} → World → Type 0 = λ u x. HasWritten w a ch x in
    fine_if (nat_le (weight new) (w.room.units + weight old)) counted.Units (fine tt v) P
    (record {
      cell = set_read w v.room a old new e
          ∙ sym (after-is w a old ch (Some new) e q);
      others = set_others w v.room a new;
    })

written_at_one : (w : World) (a : Addr) (ch : Change) (o : Option Cell)
    → read_cell w a ≡ o
    → AfterFine (written_at w a o ch) (λ u v. HasWritten w a ch v)
written_at_one w a ch None e = record { cell = e ∙ sym (ap (λ c. read_after c ch) e); others = λ b d. refl }
written_at_one w a ch (Some old) e = written_one w a old ch (changed old ch) e refl

own_one : (w : World) (a : Addr) (ch : Change) (b : Bool)
    → AfterFine (if b then written_at w a (read_cell w a) ch else effect) (λ u v. HasWritten w a ch v)
own_one w a ch true = written_at_one w a ch (read_cell w a) refl
own_one w a ch false = tt

pub writing-writes : (w : World) (a : Addr) (ch : Change) → AfterFine (write_cell w a ch) (λ u v. HasWritten w a ch v)
writing-writes w a ch = own_one w a ch (is_own w.start a)
