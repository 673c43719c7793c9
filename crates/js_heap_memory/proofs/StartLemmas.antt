-- Cells one after the other.
use Rattle.std.proofs.Common.{◌≡◌, ℕ, zero, suc, ◌+◌, ◌<◌, List, [], ◌∷◌, ◌++◌, length, take, get_or, refl, sym, ap, subst, ◌∙◌, append_assoc, length-append, ◌≤◌, ◌^◌, arith}
use Rattle.js_heap.specs.declared.cell.Binding.{Binding}
use Rattle.js_heap.specs.declared.cell.Cell.{Cell}
use Rattle.js_heap.specs.declared.cell.Cell.TheVariants as cells
use Rattle.js_heap.specs.BuiltIns.{built_in_cells, literal_cells}
use Rattle.js_heap_memory.specs.declared.stored.Slot.{Slot}
use Rattle.js_heap_memory.specs.declared.stored.Stored.{Stored}
use Rattle.js_heap_memory.specs.Names.{GoesOn}
use Rattle.js_heap_memory.specs.Cells.{binding_at, bindings, cells_of, AllWithin}
use Rattle.js_heap_memory.specs.Heaps.{Fit}
use Rattle.js_heap_memory.specs.Start.{IsCell, IsCellOf, GainsNames, GainsCells}
use Rattle.js_heap_memory.proofs.ScopeLemmas.{bindings-append}
use Rattle.js_heap_memory.proofs.HeapLemmas.{cells-append, cells-length}
use Rattle.js_heap_memory.proofs.WithinLemmas.{slots-append, within-append}

-- ---- tables

pub goes-then : (ts us vs : List (List ℕ)) → GoesOn ts us → GoesOn us vs → GoesOn ts vs
goes-then ts us vs a b =
    record { more = a.more ++ b.more; is = b.is ∙ ap (λ xs. xs ++ b.more) a.is ∙ append_assoc ts a.more b.more }

-- ---- names

pub name-more : (ts : List (List ℕ)) (ss rs : List Slot) (s : Slot) (b : Binding)
    → rs ≡ ss ++ s ∷ []
    → binding_at ts s ≡ b
    → s.name.number < length ts
    → GainsNames ts ss rs (b ∷ [])
name-more ts ss rs s b e f h =
    let P : List Slot → Type 0 = λ xs. GainsNames ts ss xs (b ∷ []) in
    subst P (sym e)
    (record {
      names = bindings-append ts ss (s ∷ [])
          ∙ ap (λ c. bindings ts ss ++ c ∷ []) f;
      within = λ k. slots-append (length ts) ss s k h;
    })

-- ---- cells

pub cell-of-any : (ts : List (List ℕ)) (c : Stored) (d : Cell) → IsCell c d → IsCellOf ts c d
cell-of-any ts c d i = record { cell = i.0 ts; within = i.1 (length ts) }

pub cell-more : (ts : List (List ℕ)) (cs ds : List Stored) (c : Stored) (d : Cell)
    → ds ≡ cs ++ c ∷ []
    → IsCellOf ts c d
    → GainsCells ts cs ds (d ∷ [])
cell-more ts cs ds c d e i =
    let P : List Stored → Type 0 = λ xs. GainsCells ts cs xs (d ∷ []) in
    subst P (sym e)
    (record {
      cells = cells-append ts cs (c ∷ [])
          ∙ ap (λ x. cells_of ts cs ++ x ∷ []) i.cell;
      within = λ k. within-append (length ts) cs c k i.within;
    })

pub cells-then : (ts : List (List ℕ)) (cs ds es : List Stored) (xs ys : List Cell)
    → GainsCells ts cs ds xs
    → GainsCells ts ds es ys
    → GainsCells ts cs es (xs ++ ys)
cells-then ts cs ds es xs ys a b =
    record {
      cells = b.cells
          ∙ ap (λ bs. bs ++ ys) a.cells
          ∙ append_assoc (cells_of ts cs) xs ys;
      within = λ k. b.within (a.within k);
    }

-- ---- literals

take_more : (xs : List (List ℕ)) (i : ℕ) (x : List ℕ)
    → i < length xs
    → get_or xs i x ≡ x
    → literal_cells (take (suc i) xs) ≡ literal_cells (take i xs) ++ literal_cells (x ∷ [])
take_more [] i x h e = absurd (omega arith)
take_more (y ∷ xs) zero x h e = let f : y ≡ x = e in rw f refl
take_more (y ∷ xs) (suc i) x h e = ap {B = List Cell} (λ cs. cells.Text y ∷ cs) (take_more xs i x (omega arith) e)

pub literals-step : (ts : List (List ℕ)) (cs ds es : List Stored) (xs : List (List ℕ)) (i : ℕ) (x : List ℕ)
    → GainsCells ts cs ds (literal_cells (take i xs))
    → GainsCells ts ds es (literal_cells (x ∷ []))
    → i < length xs
    → get_or xs i x ≡ x
    → GainsCells ts cs es (literal_cells (take (i + 1) xs))
literals-step ts cs ds es xs i x a b h e =
    let o : suc i ≡ i + 1 = omega arith in
    let P : List Cell → Type 0 = λ ys. GainsCells ts cs es ys in
    subst P (sym (take_more xs i x h e) ∙ ap (λ j. literal_cells (take j xs)) o)
    (cells-then ts cs ds es (literal_cells (take i xs)) (literal_cells (x ∷ [])) a b)

take_all : (xs : List (List ℕ)) (i : ℕ) → length xs ≤ i → take i xs ≡ xs
take_all [] zero h = refl
take_all [] (suc i) h = refl
take_all (x ∷ xs) zero h = absurd (omega arith)
take_all (x ∷ xs) (suc i) h = ap {B = List (List ℕ)} (λ ys. x ∷ ys) (take_all xs i (omega arith))

pub literals-end : (ts : List (List ℕ)) (cs ds : List Stored) (xs : List (List ℕ)) (i : ℕ)
    → GainsCells ts cs ds (literal_cells (take i xs))
    → length xs ≤ i
    → GainsCells ts cs ds (literal_cells xs)
literals-end ts cs ds xs i g h =
    let P : List (List ℕ) → Type 0 = λ ys. GainsCells ts cs ds (literal_cells ys) in
    subst P (take_all xs i h) g

literals_length : (xs : List (List ℕ)) → length (literal_cells xs) ≡ length xs
literals_length [] = refl
literals_length (x ∷ xs) = ap suc (literals_length xs)

gains_length : (ts : List (List ℕ)) (cs ds : List Stored) (xs : List Cell)
    → GainsCells ts cs ds xs
    → length ds ≡ length cs + length xs
gains_length ts cs ds xs g =
    omega (arith, cells-length ts ds, cells-length ts cs, ap length g.cells, length-append (cells_of ts cs) xs)

pub start-fit : (ts : List (List ℕ)) (cs ds es : List Stored) (xs : List (List ℕ))
    → cs ≡ []
    → GainsCells ts cs ds built_in_cells
    → GainsCells ts ds es (literal_cells xs)
    → length xs < 2 ^ 31
    → Fit es (length ts) 1048576
start-fit ts cs ds es xs e a b h =
    let none : AllWithin (length ts) cs = rw e tt in
    let l : length cs ≡ 0 = ap length e in
    record {
      within = b.within (a.within none);
      places =
          omega (
            arith,
            h,
            l,
            gains_length ts cs ds built_in_cells a,
            gains_length ts ds es (literal_cells xs) b,
            literals_length xs,
          );
    }
