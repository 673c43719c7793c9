-- Lemmas on properties whose keys are array indices.
use Rattle.std.proofs.Common.{◌≡◌, ℕ, zero, suc, ◌+◌, ◌-◌, ◌<◌, ◌≤◌, ◌^◌, Bool, true, false, not, List, [], ◌∷◌, length, get_or, nat_eq, nat_lt, Option, Some, None, Result, Ok, Err, decimal, refl, sym, ap, subst, ◌∙◌, inl, inr, arith, if◌then◌else◌}
use Rattle.std.specs.Prelude.{insert, remove, slice_index, slice_get, ◌&&◌}
use Rattle.std.specs.Str.{all_ascii_digits}
use Rattle.std.specs.Str.Parse.{digits_value}
use Rattle.std.proofs.lemmas.Bool.{eq-eqb, ne_eqb, cases_eq, and_parts, ltb-true, lt-ltb, le-ltb, cases_lt}
use Rattle.std.proofs.lemmas.Fmt.{decimal-digits_value}
use Rattle.js_heap.specs.declared.cell.Property.{Property}
use Rattle.js_heap.specs.Keys.{same_units, has_key, is_shortest, index_within, index_of_key, stands_before}
use Rattle.js_heap.specs.Places.{key_place, new_place}
use Rattle.js_heap.proofs.PlaceLemmas.{has-place}
use Rattle.js_heap_memory.specs.PropertyOrder.{AreIndicesOf, AreAbove, Ascend, IsSearched}
use Rattle.js_heap_memory.proofs.PropertyKeyLemmas.{zip-length}
use Rattle.js_heap_memory.proofs.TableLemmas.{same-only, same-refl}
use Rattle.cdp_text.proofs.DecimalLemmas.{digits_are_numerals}

-- ---- a key is the decimal text of its index

if_some : (b : Bool) (o : Option ℕ) (n : ℕ) → (if b then o else None) ≡ Some n → (b ≡ true) × (o ≡ Some n)
if_some true o n h = (refl, h)
if_some false o n h = cc

shortest_full : (ds : List ℕ) → is_shortest ds ≡ true → 0 < length ds
shortest_full [] h = cc
shortest_full (d ∷ ds) h = omega arith

shortest_first : (ds : List ℕ) → is_shortest ds ≡ true → get_or ds 0 0 ≡ 48 → length ds ≡ 1
shortest_first [] h e = cc
shortest_first (d ∷ []) h e = refl
shortest_first (d ∷ c ∷ ds) h e =
    let t : nat_eq d 48 ≡ true = eq-eqb d 48 e in
    let f : not (nat_eq d 48) ≡ false = ap not t in
    cc

pub index-text : (key : List ℕ) (i : ℕ) → index_of_key key ≡ Some i → key ≡ decimal i
index-text key i h =
    let outer = if_some (is_shortest key && all_ascii_digits key) (index_within key) i h in
    let inner = if_some (nat_lt (digits_value 10 key) (2 ^ 32 - 1)) (Some (digits_value 10 key)) i outer.1 in
    let tests = and_parts (is_shortest key) (all_ascii_digits key) outer.0 in
    let low = ltb-true (digits_value 10 key) (2 ^ 32 - 1) inner.0 in
    let small : digits_value 10 key < 2 ^ 64 = omega arith in
    let text = decimal-digits_value digits_are_numerals key tests.1 (shortest_full key tests.0)
    (shortest_first key tests.0) small in
    let is : digits_value 10 key ≡ i = cc (inner.1) in
    cc

-- keys that are indices are the same where the indices are
pub same-index : (a b : List ℕ) (i x : ℕ)
    → index_of_key a ≡ Some i
    → index_of_key b ≡ Some x
    → same_units a b ≡ nat_eq i x
same-index a b i x ha hb = elim (cases_eq i x) as (λ _. same_units a b ≡ nat_eq i x) [
  | inl e ↦
      let f : a ≡ b = index-text a i ha ∙ ap decimal e ∙ sym (index-text b x hb) in
      ap (λ z. same_units z b) f ∙ same-refl b ∙ sym (eq-eqb i x e)
  | inr e ↦ no_same (same_units a b) refl e ∙ sym (ne_eqb i x e)
]
  where
    no_same : (t : Bool) → same_units a b ≡ t → (i ≡ x → ⊥) → t ≡ false
    no_same true f e =
        let g = ap index_of_key (same-only a b f) in
        let k : i ≡ x = cc g in
        absurd (e k)
    no_same false f e = refl

other-key : (a b : List ℕ) (i : ℕ) → index_of_key a ≡ Some i → index_of_key b ≡ None → same_units a b ≡ false
other-key a b i ha hb = by (same_units a b) refl
  where
    by : (t : Bool) → same_units a b ≡ t → t ≡ false
    by true f = let g = ap index_of_key (same-only a b f) in cc g
    by false f = refl

-- ---- places of indices

-- the place of an index; the length where there is none
abbrev pub index_place : List ℕ → ℕ → ℕ
index_place [] x = 0
index_place (i ∷ is) x = if nat_eq i x then 0 else 1 + index_place is x

-- the place of the first above an index
abbrev pub above_place : List ℕ → ℕ → ℕ
above_place [] x = 0
above_place (i ∷ is) x = if nat_lt x i then 0 else 1 + above_place is x

choose : (a b : Bool) (m n : ℕ) → a ≡ b → m ≡ n → (if a then 0 else 1 + m) ≡ (if b then 0 else 1 + n)
choose a b m n e f = cc

pub indices-place : (is : List ℕ) (ps : List Property) (key : List ℕ) (x : ℕ)
    → AreIndicesOf is ps
    → index_of_key key ≡ Some x
    → key_place ps key ≡ index_place is x
indices-place [] [] key x h k = refl
indices-place [] (p ∷ ps) key x h k = absurd h
indices-place (i ∷ is) [] key x h k = absurd h
indices-place (i ∷ is) (p ∷ ps) key x h k =
    choose _ _ _ _ (same-index p.key key i x h.0 k) (indices-place is ps key x h.1 k)

else_more : (b : Bool) (m n : ℕ) → b ≡ false → m ≡ n → (if b then 0 else 1 + m) ≡ suc n
else_more true m n e f = cc
else_more false m n e f = omega arith

then_none : (b : Bool) (m : ℕ) → b ≡ true → (if b then 0 else 1 + m) ≡ 0
then_none true m e = refl
then_none false m e = cc

-- a key that is no index is no element's
pub indices-other : (is : List ℕ) (ps : List Property) (key : List ℕ)
    → AreIndicesOf is ps
    → index_of_key key ≡ None
    → key_place ps key ≡ length ps
indices-other [] [] key h k = refl
indices-other [] (p ∷ ps) key h k = absurd h
indices-other (i ∷ is) [] key h k = absurd h
indices-other (i ∷ is) (p ∷ ps) key h k =
    else_more (same_units p.key key) _ _ (other-key p.key key i h.0 k) (indices-other is ps key h.1 k)

before_if : (x i : ℕ) (o : Option ℕ) → o ≡ Some i → stands_before (Some x) o ≡ nat_lt x i
before_if x i o e = ap (stands_before (Some x)) e

pub indices-above : (is : List ℕ) (ps : List Property) (x : ℕ)
    → AreIndicesOf is ps
    → new_place ps (Some x) ≡ above_place is x
indices-above [] [] x h = refl
indices-above [] (p ∷ ps) x h = absurd h
indices-above (i ∷ is) [] x h = absurd h
indices-above (i ∷ is) (p ∷ ps) x h =
    choose _ _ _ _ (before_if x i (index_of_key p.key) h.0) (indices-above is ps x h.1)

-- ---- ascending indices

pub above-at : (x : ℕ) (is : List ℕ) (j : ℕ) → AreAbove x is → j < length is → x < get_or is j 0
above-at x [] j h l = absurd (omega arith)
above-at x (i ∷ is) zero h l = h.0
above-at x (i ∷ is) (suc j) h l = above-at x is j h.1 (omega arith)

above-all : (x : ℕ) (is : List ℕ) → ((k : ℕ) → k < length is → x < get_or is k 0) → AreAbove x is
above-all x [] h = tt
above-all x (i ∷ is) h = (h 0 (omega arith), above-all x is (λ k l. h (suc k) (omega arith)))

pub ascend-le : (is : List ℕ) (i j : ℕ) → Ascend is → i ≤ j → j < length is → get_or is i 0 ≤ get_or is j 0
ascend-le [] i j h l m = absurd (omega arith)
ascend-le (x ∷ is) zero zero h l m = omega arith
ascend-le (x ∷ is) zero (suc j) h l m = omega (arith, above-at x is j h.0 (omega arith))
ascend-le (x ∷ is) (suc i) zero h l m = absurd (omega arith)
ascend-le (x ∷ is) (suc i) (suc j) h l m = ascend-le is i j h.1 (omega arith) (omega arith)

get_some : (is : List ℕ) (k l : ℕ) → Some l ≡ slice_get is k → (k < length is) × (get_or is k 0 ≡ l)
get_some [] k l e = cc
get_some (i ∷ is) zero l e = (omega arith, cc)
get_some (i ∷ is) (suc k) l e = let r = get_some is k l e in (omega arith, r.1)

-- an index above the last is above all
pub search-past : (is : List ℕ) (l x : ℕ)
    → Ascend is
    → Some l ≡ slice_get is (length is - 1)
    → l < x
    → (k : ℕ)
    → k < length is
    → get_or is k 0 < x
search-past is l x h e m k n =
    let r = get_some is (length is - 1) l e in
    let s = ascend-le is k (length is - 1) h (omega arith) r.0 in
    omega arith

place-found : (is : List ℕ) (x i : ℕ) → Ascend is → i < length is → get_or is i 0 ≡ x → index_place is x ≡ i
place-found [] x i h l e = absurd (omega arith)
place-found (j ∷ is) x zero h l e = then_none (nat_eq j x) _ (eq-eqb j x e)
place-found (j ∷ is) x (suc i) h l e =
    let a = above-at j is i h.0 (omega arith) in
    else_more (nat_eq j x) _ _ (ne_eqb j x (λ f. absurd (omega arith))) (place-found is x i h.1 (omega arith) e)

place-absent : (is : List ℕ) (x : ℕ) → ((k : ℕ) → k < length is → get_or is k 0 ≡ x → ⊥) → index_place is x ≡ length is
place-absent [] x h = refl
place-absent (j ∷ is) x h =
    else_more (nat_eq j x) _ _ (ne_eqb j x (h 0 (omega arith))) (place-absent is x (λ k l. h (suc k) (omega arith)))

place-above : (is : List ℕ) (x i : ℕ)
    → i ≤ length is
    → ((k : ℕ) → k < i → get_or is k 0 < x)
    → ((k : ℕ) → i ≤ k → k < length is → x < get_or is k 0)
    → above_place is x ≡ i
place-above [] x i l b a = omega arith
place-above (j ∷ is) x zero l b a = then_none (nat_lt x j) _ (lt-ltb x j (a 0 (omega arith) (omega arith)))
place-above (j ∷ is) x (suc i) l b a =
    let low : j < x = b 0 (omega arith) in
    else_more (nat_lt x j) _ _ (le-ltb x j (omega arith))
    (place-above is x i (omega arith) (λ k m. b (suc k) (omega arith))
    (λ k m n. a (suc k) (omega arith) (omega arith)))

-- ---- what a search says of the properties

pub search-found : (is : List ℕ) (ps : List Property) (key : List ℕ) (x i : ℕ) (r : Result ℕ ℕ)
    → AreIndicesOf is ps
    → Ascend is
    → index_of_key key ≡ Some x
    → IsSearched is x r
    → r ≡ Ok i
    → key_place ps key ≡ i
search-found is ps key x i r h a k s e =
    let t = subst (IsSearched is x) e s in
    indices-place is ps key x h k ∙ place-found is x i a t.0 t.1

pub search-absent : (is : List ℕ) (ps : List Property) (key : List ℕ) (x i : ℕ) (r : Result ℕ ℕ)
    → AreIndicesOf is ps
    → index_of_key key ≡ Some x
    → IsSearched is x r
    → r ≡ Err i
    → key_place ps key ≡ length ps
search-absent is ps key x i r h k s e =
    let t = subst (IsSearched is x) e s in
    indices-place is ps key x h k ∙ place-absent is x (λ j l f. elsewhere j l f t) ∙ zip-length _ is ps h
  where
    elsewhere : (j : ℕ)
        → j < length is
        → get_or is j 0 ≡ x
        → (i ≤ length is)
        × ((k : ℕ) → k < i → slice_index is k < x)
        × ((k : ℕ) → i ≤ k → k < length is → x < slice_index is k)
        → ⊥
    elsewhere j l f t = elim (cases_lt j i) as (λ _. ⊥) [
      | inl low ↦ let u = t.1 j low in absurd (omega arith)
      | inr high ↦ let u = t.2 j high l in absurd (omega arith)
    ]

-- the index of a key that no property has isn't found
pub search-fresh : (is : List ℕ) (ps : List Property) (key : List ℕ) (x i : ℕ) (r : Result ℕ ℕ)
    → AreIndicesOf is ps
    → Ascend is
    → index_of_key key ≡ Some x
    → has_key ps key ≡ false
    → IsSearched is x r
    → r ≡ Ok i
    → ⊥
search-fresh is ps key x i r h a k f s e =
    let t = subst (IsSearched is x) e s in
    let at = search-found is ps key x i r h a k s e in
    let n = zip-length _ is ps h in
    let low : key_place ps key < length ps = omega (arith, t.0) in
    let there : has_key ps key ≡ true = has-place ps key ∙ lt-ltb (key_place ps key) (length ps) low in
    cc

pub search-place : (is : List ℕ) (ps : List Property) (x i : ℕ) (r : Result ℕ ℕ)
    → AreIndicesOf is ps
    → IsSearched is x r
    → r ≡ Err i
    → new_place ps (Some x) ≡ i
search-place is ps x i r h s e =
    let t = subst (IsSearched is x) e s in
    indices-above is ps x h ∙ place-above is x i t.0 t.1 t.2

-- ---- changes keep the order

above-insert : (y : ℕ) (is : List ℕ) (i x : ℕ) → AreAbove y is → y < x → AreAbove y (insert is i x)
above-insert y is zero x h l = (l, h)
above-insert y [] (suc i) x h l = (l, tt)
above-insert y (j ∷ is) (suc i) x h l = (h.0, above-insert y is i x h.1 l)

ascend-insert : (is : List ℕ) (i x : ℕ)
    → Ascend is
    → i ≤ length is
    → ((k : ℕ) → k < i → get_or is k 0 < x)
    → ((k : ℕ) → i ≤ k → k < length is → x < get_or is k 0)
    → Ascend (insert is i x)
ascend-insert is zero x h l b a = (above-all x is (λ k m. a k (omega arith) m), h)
ascend-insert [] (suc i) x h l b a = absurd (omega arith)
ascend-insert (j ∷ is) (suc i) x h l b a = (
  above-insert j is i x h.0 (b 0 (omega arith)),
  ascend-insert is i x h.1 (omega arith) (λ k m. b (suc k) (omega arith))
      (λ k m n. a (suc k) (omega arith) (omega arith)),
)

pub search-ascend : (is : List ℕ) (x i : ℕ) (r : Result ℕ ℕ)
    → Ascend is
    → IsSearched is x r
    → r ≡ Err i
    → Ascend (insert is i x)
search-ascend is x i r h s e =
    let t = subst (IsSearched is x) e s in
    ascend-insert is i x h t.0 t.1 t.2

above-remove : (y : ℕ) (is : List ℕ) (i : ℕ) → AreAbove y is → AreAbove y (remove is i)
above-remove y [] zero h = tt
above-remove y [] (suc i) h = tt
above-remove y (j ∷ is) zero h = h.1
above-remove y (j ∷ is) (suc i) h = (h.0, above-remove y is i h.1)

pub ascend-remove : (is : List ℕ) (i : ℕ) → Ascend is → Ascend (remove is i)
ascend-remove [] zero h = tt
ascend-remove [] (suc i) h = tt
ascend-remove (j ∷ is) zero h = h.1
ascend-remove (j ∷ is) (suc i) h = (above-remove j is i h.0, ascend-remove is i h.1)

pub search-within : (is : List ℕ) (ps : List Property) (x i : ℕ) (r : Result ℕ ℕ)
    → AreIndicesOf is ps
    → IsSearched is x r
    → r ≡ Err i
    → i ≤ length ps
search-within is ps x i r h s e =
    let t = subst (IsSearched is x) e s in
    let n = zip-length _ is ps h in
    omega (arith, t.0)
