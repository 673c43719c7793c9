-- From what is left to what is left behind the first part, and how many there are.
use Rattle.std.proofs.Common.{◌≡◌, ℕ, zero, suc, ◌+◌, ◌<◌, ◌≤◌, List, [], ◌∷◌, ◌++◌, length, drop, get_or, Option, Some, None, refl, sym, ap, ◌∙◌, add-one, arith, drop_of_length-le}
use Rattle.std.specs.Prelude.{nat_lt, option_map, slice_get}
use Rattle.std.specs.Option.{is_some}
use Rattle.std.proofs.lemmas.Bool.{le-ltb, lt-ltb}
use Rattle.std.proofs.lemmas.List.{at_drop_more}
use Rattle.std.proofs.lemmas.Option.{same_Some}
use Rattle.js_heap.specs.declared.cell.Property.{Property}
use Rattle.js_heap.specs.declared.value.Value.{Value}
use Rattle.js_heap_parts.specs.Parts.{element_part, elements_from, length_part, property_part, property_parts}
use Rattle.js_heap_parts.specs.Left.{elements_left, properties_left}

-- ---- properties

got-here : (ps : List Property) (i : ℕ) (p : Property) → Some p ≡ slice_get ps i → drop i ps ≡ p ∷ drop (suc i) ps
got-here [] i p e = cc
got-here (q ∷ ps) zero p e = ap (λ x. x ∷ ps) (sym (same_Some p q e))
got-here (q ∷ ps) (suc i) p e = got-here ps i p e

pub property-first : (ps : List Property) (i : ℕ) (p : Property)
    → Some p ≡ slice_get ps i
    → properties_left ps i ≡ property_part p ∷ properties_left ps (i + 1)
property-first ps i p e = rw add-one (ap property_parts (got-here ps i p e))

pub properties-over : (ps : List Property) (i : ℕ) → length ps ≤ i → properties_left ps i ≡ []
properties-over ps i past = ap property_parts (drop_of_length-le ps past)

-- ---- elements

pub element-first : (vs : List Value) (i : ℕ) (d : Value)
    → i < length vs
    → elements_left vs i ≡ element_part i (get_or vs i d) ∷ elements_left vs (i + 1)
element-first vs i d less = ap (λ ps. ps ++ length_part (length vs) ∷ []) (at_drop_more (elements_from i) vs i d less)

pub length-last : (vs : List Value) (i : ℕ) → length vs ≤ i → elements_left vs i ≡ length_part (length vs) ∷ []
length-last vs i past =
    ap (λ xs. elements_from i xs ++ length_part (length vs) ∷ []) (drop_of_length-le vs past)

-- ---- how many there are

there : {B : Type 0} (xs : List B) (n : ℕ) (x : B) → slice_get xs n ≡ Some x → n < length xs
there [] n x e = cc
there (y ∷ ys) zero x e = omega arith
there (y ∷ ys) (suc n) x e = let less : n < length ys = there ys n x e in omega (arith, less)

past_all : {B : Type 0} (xs : List B) (n : ℕ) → slice_get xs n ≡ None → length xs ≤ n
past_all [] n e = omega arith
past_all (y ∷ ys) zero e = cc
past_all (y ∷ ys) (suc n) e = let past : length ys ≤ n = past_all ys n e in omega (arith, past)

is_there : {B : Type 0} (found : Option B) (xs : List B) (n : ℕ)
    → found ≡ slice_get xs n
    → is_some found ≡ nat_lt n (length xs)
is_there (Some x) xs n e = sym (lt-ltb n (length xs) (there xs n x (sym e)))
is_there None xs n e = sym (le-ltb n (length xs) (past_all xs n (sym e)))

seen_some : {A B : Type 0} (view : A → B) (found : Option A) → is_some found ≡ is_some (option_map view found)
seen_some view None = refl
seen_some view (Some x) = refl

-- one is at a place, where there are more
pub is-there : {A B : Type 0} (view : A → B) (found : Option A) (xs : List B) (n : ℕ)
    → option_map view found ≡ slice_get xs n
    → is_some found ≡ nat_lt n (length xs)
is-there view found xs n e = seen_some view found ∙ is_there (option_map view found) xs n e
