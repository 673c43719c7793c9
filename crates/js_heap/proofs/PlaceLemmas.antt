-- Lemmas on the places of properties.
use Rattle.std.proofs.Common.{◌≡◌, ℕ, suc, ◌+◌, ◌≤◌, Bool, true, false, List, [], ◌∷◌, length, refl, ap, ◌∙◌, arith, if◌then◌else◌}
use Rattle.std.specs.Prelude.{nat_lt, ◌||◌, insert, remove}
use Rattle.js_heap.specs.declared.value.Value.{Value}
use Rattle.js_heap.specs.declared.cell.Property.{Property}
use Rattle.js_heap.specs.Keys.{same_units, stands_before, index_of_key, has_key, with_value, placed, without_key, assigned}
use Rattle.js_heap.specs.Places.{key_place, new_place}

pub one_plus : (n : ℕ) → 1 + n ≡ suc n
one_plus n = omega arith

-- ---- a key's property

has_if : (b : Bool) (c : Bool) (n m : ℕ) → c ≡ nat_lt n m → (b || c) ≡ nat_lt (if b then 0 else 1 + n) (suc m)
has_if true c n m e = grind arith
has_if false c n m e = e ∙ grind arith

pub has-place : (ps : List Property) (key : List ℕ) → has_key ps key ≡ nat_lt (key_place ps key) (length ps)
has-place [] key = grind arith
has-place (p ∷ ps) key =
    has_if (same_units p.key key) (has_key ps key) (key_place ps key) (length ps) (has-place ps key)

without_if : (b : Bool) (p : Property) (ps : List Property) (key : List ℕ)
    → without_key ps key ≡ remove ps (key_place ps key)
    → (if b then ps else p ∷ without_key ps key) ≡ remove (p ∷ ps) (if b then 0 else 1 + key_place ps key)
without_if true p ps key e = refl
without_if false p ps key e = rw (one_plus (key_place ps key)) (ap {B = List Property} (λ qs. p ∷ qs) e)

pub without-place : (ps : List Property) (key : List ℕ) → without_key ps key ≡ remove ps (key_place ps key)
without-place [] key = refl
without-place (p ∷ ps) key = without_if (same_units p.key key) p ps key (without-place ps key)

placed_if : (b : Bool) (p : Property) (ps : List Property) (new : Property)
    → placed ps new ≡ insert ps (new_place ps (index_of_key new.key)) new
    → (if b then new ∷ p ∷ ps else p ∷ placed ps new) ≡ insert (p ∷ ps)
    (if b then 0 else 1 + new_place ps (index_of_key new.key)) new
placed_if true p ps new e = refl
placed_if false p ps new e =
    rw (one_plus (new_place ps (index_of_key new.key))) (ap {B = List Property} (λ qs. p ∷ qs) e)

pub placed_place : (ps : List Property) (new : Property)
    → placed ps new ≡ insert ps (new_place ps (index_of_key new.key)) new
placed_place [] new = refl
placed_place (p ∷ ps) new =
    placed_if (stands_before (index_of_key new.key) (index_of_key p.key)) p ps new (placed_place ps new)

-- ---- no such property

without_none : (b : Bool) (p : Property) (ps : List Property) (key : List ℕ)
    → suc (length ps) ≤ (if b then 0 else 1 + key_place ps key)
    → (length ps ≤ key_place ps key → without_key ps key ≡ ps)
    → (if b then ps else p ∷ without_key ps key) ≡ p ∷ ps
without_none true p ps key h e = absurd (omega arith)
without_none false p ps key h e = ap {B = List Property} (λ qs. p ∷ qs) (e (omega arith))

pub without-past : (ps : List Property) (key : List ℕ) → length ps ≤ key_place ps key → without_key ps key ≡ ps
without-past [] key h = refl
without-past (p ∷ ps) key h = without_none (same_units p.key key) p ps key h (without-past ps key)

-- ---- a property that is there

pub put_if : (b : Bool) (ps : List Property) (key : List ℕ) (v : Value)
    → b ≡ true
    → (if b then with_value ps key v else placed ps (assigned key v)) ≡ with_value ps key v
put_if true ps key v e = refl
put_if false ps key v e = cc
