-- Cells with only known names.
use Rattle.std.proofs.Common.{◌≡◌, ℕ, zero, suc, ◌<◌, ◌≤◌, true, List, [], ◌∷◌, ◌++◌, length, get_or, refl, ap, subst, arith}
use Rattle.std.specs.Prelude.{slice_set, nat_lt}
use Rattle.js_heap.specs.declared.value.Value.{Value}
use Rattle.js_heap_memory.specs.declared.stored.Slot.{Slot}
use Rattle.js_heap_memory.specs.declared.stored.FunctionName.{FunctionName}
use Rattle.js_heap_memory.specs.declared.stored.FunctionName.TheVariants as function_names
use Rattle.js_heap_memory.specs.declared.stored.Stored.{Stored}
use Rattle.js_heap_memory.specs.declared.stored.Stored.TheVariants as stored
use Rattle.js_heap_memory.specs.Cells.{SlotsWithin, NameWithin, Within, AllWithin}
use Rattle.js_heap_memory.specs.Places.{with_value_at}
use Rattle.js_heap_memory.specs.Heaps.{all_below, is_below, is_within, value_in_cell, value_in_cells}
use Rattle.std.proofs.lemmas.Bool.{and_parts, ltb-true}

-- ---- scopes

pub slots-append : (n : ℕ) (ss : List Slot) (s : Slot)
    → SlotsWithin n ss
    → s.name.number < n
    → SlotsWithin n (ss ++ s ∷ [])
slots-append n [] s h k = (k, tt)
slots-append n (r ∷ ss) s h k = (h.0, slots-append n ss s h.1 k)

pub slots-value : (n : ℕ) (ss : List Slot) (i : ℕ) (v : Value) → SlotsWithin n ss → SlotsWithin n (with_value_at ss i v)
slots-value n [] i v h = tt
slots-value n (s ∷ ss) zero v h = (h.0, h.1)
slots-value n (s ∷ ss) (suc i) v h = (h.0, slots-value n ss i v h.1)

-- ---- lists of cells

pub within-set : (n : ℕ) (cs : List Stored) (i : ℕ) (old new : Stored)
    → i < length cs
    → get_or cs i old ≡ old
    → (Within n old → Within n new)
    → AllWithin n cs
    → AllWithin n (slice_set cs i new)
within-set n [] i old new h e f k = tt
within-set n (c ∷ cs) zero old new h e f k = let P : Stored → Type 0 = λ x. Within n x in (f (subst P e k.0), k.1)
within-set n (c ∷ cs) (suc i) old new h e f k = (k.0, within-set n cs i old new (omega arith) e f k.1)

pub within-append : (n : ℕ) (cs : List Stored) (c : Stored) → AllWithin n cs → Within n c → AllWithin n (cs ++ c ∷ [])
within-append n [] c h k = (k, tt)
within-append n (d ∷ cs) c h k = (h.0, within-append n cs c h.1 k)

cell_value : (n : ℕ) (c : Stored) (i : ℕ) (v : Value) → Within n c → Within n (value_in_cell c i v)
cell_value n (stored.Scope k m o ss) i v h = (h.0, slots-value n ss i v h.1)
cell_value n (stored.Object ps) i v h = tt
cell_value n (stored.Error class ps) i v h = tt
cell_value n (stored.Array vs) i v h = tt
cell_value n (stored.Text us) i v h = tt
cell_value n (stored.Function f) i v h = h

pub cells-value : (n : ℕ) (cs : List Stored) (i place : ℕ) (v : Value)
    → AllWithin n cs
    → AllWithin n (value_in_cells cs i place v)
cells-value n [] i place v h = tt
cells-value n (c ∷ cs) zero place v h = (cell_value n c place v h.0, h.1)
cells-value n (c ∷ cs) (suc i) place v h = (h.0, cells-value n cs i place v h.1)

pub value-length : (cs : List Stored) (i place : ℕ) (v : Value) → length (value_in_cells cs i place v) ≡ length cs
value-length [] i place v = refl
value-length (c ∷ cs) zero place v = refl
value-length (c ∷ cs) (suc i) place v = ap suc (value-length cs i place v)

-- ---- more names

slots_more : (m n : ℕ) (ss : List Slot) → m ≤ n → SlotsWithin m ss → SlotsWithin n ss
slots_more m n [] l h = tt
slots_more m n (s ∷ ss) l h = (omega (arith, h.0), slots_more m n ss l h.1)

name_more : (m n : ℕ) (x : FunctionName) → m ≤ n → NameWithin m x → NameWithin n x
name_more m n function_names.Empty l h = tt
name_more m n (function_names.Known x) l h = omega (arith, h)
name_more m n (function_names.Made x) l h = tt

cell_more : (m n : ℕ) (c : Stored) → m ≤ n → Within m c → Within n c
cell_more m n (stored.Scope k o p ss) l h = (name_more m n o l h.0, slots_more m n ss l h.1)
cell_more m n (stored.Function f) l h = name_more m n f.value.name l h
cell_more m n (stored.Object ps) l h = tt
cell_more m n (stored.Error class ps) l h = tt
cell_more m n (stored.Array vs) l h = tt
cell_more m n (stored.Text t) l h = tt

pub cells-more : (m n : ℕ) (cs : List Stored) → m ≤ n → AllWithin m cs → AllWithin n cs
cells-more m n [] l h = tt
cells-more m n (c ∷ cs) l h = (cell_more m n c l h.0, cells-more m n cs l h.1)

-- ---- tests

name_below : (x : FunctionName) (n : ℕ) → is_below x n ≡ true → NameWithin n x
name_below function_names.Empty n e = tt
name_below (function_names.Known m) n e = ltb-true m.number n e
name_below (function_names.Made t) n e = tt

slots_below : (ss : List Slot) (n : ℕ) → all_below ss n ≡ true → SlotsWithin n ss
slots_below [] n e = tt
slots_below (s ∷ ss) n e =
    let b = and_parts (nat_lt s.name.number n) (all_below ss n) e in
    (ltb-true s.name.number n b.0, slots_below ss n b.1)

pub test-within : (c : Stored) (n : ℕ) → is_within c n ≡ true → Within n c
test-within (stored.Scope k x o ss) n e =
    let b = and_parts (is_below x n) (all_below ss n) e in (name_below x n b.0, slots_below ss n b.1)
test-within (stored.Function f) n e = name_below f.value.name n e
test-within (stored.Object ps) n e = tt
test-within (stored.Error class ps) n e = tt
test-within (stored.Array vs) n e = tt
test-within (stored.Text t) n e = tt
