-- Lemmas on properties beside a list of their keys.
use Rattle.std.proofs.Common.{◌≡◌, ℕ, zero, suc, ◌+◌, ◌<◌, ◌≤◌, Bool, true, false, cond, not, List, [], ◌∷◌, ◌++◌, length, get_or, nat_eq, Some, None, refl, sym, ap, ◌∙◌, inl, inr, arith, if◌then◌else◌}
use Rattle.std.specs.Prelude.{slice_set, insert, remove, Vec, position, ◌&&◌, ◌||◌}
use Rattle.std.specs.List.{AllZip, list_any, prefix_len}
use Rattle.std.specs.Cmp.Lexicographic.{pointwise}
use Rattle.std.proofs.lemmas.Bool.{eq-eqb, ne_eqb, ltb-false, cases_eq}
use Rattle.js_heap.specs.declared.value.Value.{Value}
use Rattle.js_heap.specs.declared.cell.Property.{Property}
use Rattle.js_heap.specs.Keys.{same_units, has_key}
use Rattle.js_heap.specs.Places.{key_place}
use Rattle.js_heap.proofs.KeyLemmas.{pointwise_units}
use Rattle.js_heap_memory.specs.PropertyOrder.{with_value_at, AreKeysOf}

-- ---- the same units

eq_sym : (m n : ℕ) → nat_eq m n ≡ nat_eq n m
eq_sym m n = elim (cases_eq m n) as (λ _. nat_eq m n ≡ nat_eq n m) [
  | inl e ↦ eq-eqb m n e ∙ sym (eq-eqb n m (sym e))
  | inr e ↦ ne_eqb m n e ∙ sym (ne_eqb n m (λ f. e (sym f)))
]

both : (a b c d : Bool) → a ≡ b → c ≡ d → (a && c) ≡ (b && d)
both a b c d e f = cc

pub same-sym : (us vs : List ℕ) → same_units us vs ≡ same_units vs us
same-sym [] [] = refl
same-sym [] (v ∷ vs) = refl
same-sym (u ∷ us) [] = refl
same-sym (u ∷ us) (v ∷ vs) =
    both (nat_eq u v) (nat_eq v u) (same_units us vs) (same_units vs us) (eq_sym u v) (same-sym us vs)

-- ---- a list beside the properties

pub zip-length : {A : Type 0} (R : A → Property → Type 0) (xs : List A) (ps : List Property)
    → AllZip R xs ps
    → length xs ≡ length ps
zip-length R [] [] h = refl
zip-length R [] (p ∷ ps) h = absurd h
zip-length R (x ∷ xs) [] h = absurd h
zip-length R (x ∷ xs) (p ∷ ps) h = ap suc (zip-length R xs ps h.1)

pub zip-push : {A : Type 0} (R : A → Property → Type 0) (xs : List A) (ps : List Property) (x : A) (p : Property)
    → AllZip R xs ps
    → R x p
    → AllZip R (xs ++ x ∷ []) (ps ++ p ∷ [])
zip-push R [] [] x p h r = (r, tt)
zip-push R [] (q ∷ ps) x p h r = absurd h
zip-push R (y ∷ xs) [] x p h r = absurd h
zip-push R (y ∷ xs) (q ∷ ps) x p h r = (h.0, zip-push R xs ps x p h.1 r)

pub zip-insert : {A : Type 0} (R : A → Property → Type 0) (xs : List A) (ps : List Property) (i : ℕ) (x : A)
    (p : Property)
    → AllZip R xs ps
    → R x p
    → AllZip R (insert xs i x) (insert ps i p)
zip-insert R xs ps zero x p h r = (r, h)
zip-insert R [] [] (suc i) x p h r = (r, tt)
zip-insert R [] (q ∷ ps) (suc i) x p h r = absurd h
zip-insert R (y ∷ xs) [] (suc i) x p h r = absurd h
zip-insert R (y ∷ xs) (q ∷ ps) (suc i) x p h r = (h.0, zip-insert R xs ps i x p h.1 r)

pub zip-remove : {A : Type 0} (R : A → Property → Type 0) (xs : List A) (ps : List Property) (i : ℕ)
    → AllZip R xs ps
    → AllZip R (remove xs i) (remove ps i)
zip-remove R [] [] zero h = tt
zip-remove R [] [] (suc i) h = tt
zip-remove R [] (q ∷ ps) i h = absurd h
zip-remove R (y ∷ xs) [] i h = absurd h
zip-remove R (y ∷ xs) (q ∷ ps) zero h = h.1
zip-remove R (y ∷ xs) (q ∷ ps) (suc i) h = (h.0, zip-remove R xs ps i h.1)

pub zip-value : {A : Type 0} (R : A → Property → Type 0)
    (same : (x : A) (p : Property) (v : Value) → R x p → R x (record p { value = v })) (xs : List A)
    (ps : List Property) (i : ℕ) (v : Value)
    → AllZip R xs ps
    → AllZip R xs (with_value_at ps i v)
zip-value R same [] [] i v h = tt
zip-value R same [] (q ∷ ps) i v h = absurd h
zip-value R same (y ∷ xs) [] i v h = absurd h
zip-value R same (y ∷ xs) (q ∷ ps) zero v h = (same y q v h.0, h.1)
zip-value R same (y ∷ xs) (q ∷ ps) (suc i) v h = (h.0, zip-value R same xs ps i v h.1)

-- what an assignment to the value of a property does
pub set-value : (ps : List Property) (i : ℕ) (v : Value) (r : Property)
    → r ≡ get_or ps i r
    → i < length ps
    → slice_set ps i (record r { value = v }) ≡ with_value_at ps i v
set-value [] i v r e h = absurd (omega arith)
set-value (p ∷ ps) zero v r e h = ap {B = List Property} (λ (q : Property). record q { value = v } ∷ ps) e
set-value (p ∷ ps) (suc i) v r e h = ap {B = List Property} (λ qs. p ∷ qs) (set-value ps i v r e (omega arith))

-- ---- the keys

place_if : (a b : Bool) (m n : ℕ) → a ≡ b → m ≡ n → cond (not a) (1 + m) 0 ≡ (if b then 0 else 1 + n)
place_if true true m n e f = refl
place_if true false m n e f = cc
place_if false true m n e f = cc
place_if false false m n e f = ap (λ k. 1 + k) f

same_key : (key units : List ℕ) (p : Property) → units ≡ p.key → pointwise nat_eq key units ≡ same_units p.key key
same_key key units p e = pointwise_units key units ∙ same-sym key units ∙ ap (λ z. same_units z key) e

pub keys-place : {Z : Type 0} (ks : List (Vec ℕ Z)) (ps : List Property) (key : List ℕ)
    → AreKeysOf ks ps
    → prefix_len (λ k. not (pointwise nat_eq key k.items)) ks ≡ key_place ps key
keys-place [] [] key h = refl
keys-place [] (p ∷ ps) key h = absurd h
keys-place (k ∷ ks) [] key h = absurd h
keys-place (k ∷ ks) (p ∷ ps) key h =
    place_if (pointwise nat_eq key k.items) (same_units p.key key) _ (key_place ps key) (same_key key k.items p h.0)
    (keys-place ks ps key h.1)

cond_some : (b : Bool) (n i : ℕ) → Some i ≡ cond b (Some n) None → i ≡ n
cond_some true n i e = cc
cond_some false n i e = cc

cond_none : (b : Bool) (n : ℕ) → None ≡ cond b (Some n) None → b ≡ false
cond_none true n e = cc
cond_none false n e = refl

le_if : (b : Bool) (m n : ℕ) → m ≤ n → (if b then 0 else 1 + m) ≤ suc n
le_if true m n h = omega arith
le_if false m n h = omega arith

pub place-le : (ps : List Property) (key : List ℕ) → key_place ps key ≤ length ps
place-le [] key = omega arith
place-le (p ∷ ps) key = le_if (same_units p.key key) _ (length ps) (place-le ps key)

pub keys-some : {Z : Type 0} (ks : List (Vec ℕ Z)) (ps : List Property) (key : List ℕ) (i : ℕ)
    → AreKeysOf ks ps
    → Some i ≡ position (λ (k : Vec ℕ Z). pointwise nat_eq key k.items) ks
    → i ≡ key_place ps key
keys-some ks ps key i h e = cond_some _ _ i e ∙ keys-place ks ps key h

pub keys-none : {Z : Type 0} (ks : List (Vec ℕ Z)) (ps : List Property) (key : List ℕ)
    → AreKeysOf ks ps
    → None ≡ position (λ (k : Vec ℕ Z). pointwise nat_eq key k.items) ks
    → key_place ps key ≡ length ps
keys-none ks ps key h e =
    let past = ltb-false _ _ (cond_none _ _ e) in
    let long = zip-length _ ks ps h in
    omega (arith, place-le ps key, keys-place ks ps key h)

either : (a b c d : Bool) → a ≡ b → c ≡ d → (a || c) ≡ (b || d)
either a b c d e f = cc

pub keys-has : {Z : Type 0} (ks : List (Vec ℕ Z)) (ps : List Property) (key : List ℕ)
    → AreKeysOf ks ps
    → list_any (λ k. pointwise nat_eq key k.items) ks ≡ has_key ps key
keys-has [] [] key h = refl
keys-has [] (p ∷ ps) key h = absurd h
keys-has (k ∷ ks) [] key h = absurd h
keys-has (k ∷ ks) (p ∷ ps) key h =
    either (pointwise nat_eq key k.items) (same_units p.key key) _ (has_key ps key) (same_key key k.items p h.0)
    (keys-has ks ps key h.1)

pub if_false : {A : Type 0} (b : Bool) (xs ys : List A) → b ≡ false → (if b then xs else ys) ≡ ys
if_false true xs ys e = cc
if_false false xs ys e = refl

-- a key that no property has goes last
pub keys-push : {Z : Type 0} (ks all : List (Vec ℕ Z)) (ps : List Property) (k : Vec ℕ Z) (p : Property)
    → AreKeysOf ks ps
    → k.items ≡ p.key
    → has_key ps p.key ≡ false
    → all ≡ (if list_any (λ (x : Vec ℕ Z). pointwise nat_eq k.items x.items) ks then ks else ks ++ k ∷ [])
    → AreKeysOf all (ps ++ p ∷ [])
keys-push ks all ps k p h e new is =
    let none = keys-has ks ps k.items h ∙ ap (has_key ps) e ∙ new in
    let last = is ∙ if_false _ ks (ks ++ k ∷ []) none in
    rw last (zip-push _ ks ps k p h e)
