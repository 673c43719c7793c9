-- The index of a scope's places, as the scope changes.
use Rattle.std.proofs.Common.{◌≡◌, ℕ, zero, suc, ◌+◌, ◌<◌, ◌≤◌, Bool, true, false, List, [], ◌∷◌, ◌++◌, length, get_or, take, Option, Some, None, refl, sym, ap, subst, ◌∙◌, arith, length-append, if◌then◌else◌}
use Rattle.std.specs.Prelude.{nat_eq, nat_lt, cond}
use Rattle.std.specs.HashMap.{HashMap, get_by, Updates}
use Rattle.std.specs.Map.{lookup}
use Rattle.std.specs.Option.{is_some}
use Rattle.std.proofs.lemmas.Bool.{eqb-true, lt-ltb, le-ltb}
use Rattle.std.proofs.lemmas.List.{take_more, length-take-le}
use Rattle.js_heap.specs.declared.value.Value.{Value}
use Rattle.js_heap_memory.specs.declared.stored.Slot.{Slot}
use Rattle.js_heap_memory.specs.Places.{slot_place, place_in, with_value_at, IsPlaceIndex, Enters}

-- ---- places

pub place-most : (ss : List Slot) (n : ℕ) → slot_place ss n ≤ length ss
place-most [] n = omega arith
place-most (s ∷ ss) n = most (nat_eq s.name.number n) (place-most ss n)
  where
    most : (t : Bool) → slot_place ss n ≤ length ss → (if t then 0 else 1 + slot_place ss n) ≤ suc (length ss)
    most true h = omega arith
    most false h = omega arith

place_first : (ss rs : List Slot) (n : ℕ) → slot_place ss n < length ss → slot_place (ss ++ rs) n ≡ slot_place ss n
place_first [] rs n h = absurd (omega arith)
place_first (s ∷ ss) rs n h = first (nat_eq s.name.number n) (place_first ss rs n) h
  where
    first : (t : Bool)
        → (slot_place ss n < length ss → slot_place (ss ++ rs) n ≡ slot_place ss n)
        → (if t then 0 else 1 + slot_place ss n) < suc (length ss)
        → (if t then 0 else 1 + slot_place (ss ++ rs) n) ≡ (if t then 0 else 1 + slot_place ss n)
    first true k l = refl
    first false k l = ap (λ i. 1 + i) (k (omega arith))

place_behind : (ss rs : List Slot) (n : ℕ)
    → length ss ≤ slot_place ss n
    → slot_place (ss ++ rs) n ≡ length ss + slot_place rs n
place_behind [] rs n h = omega arith
place_behind (s ∷ ss) rs n h = behind (nat_eq s.name.number n) (place_behind ss rs n) h
  where
    behind : (t : Bool)
        → (length ss ≤ slot_place ss n → slot_place (ss ++ rs) n ≡ length ss + slot_place rs n)
        → suc (length ss) ≤ (if t then 0 else 1 + slot_place ss n)
        → (if t then 0 else 1 + slot_place (ss ++ rs) n) ≡ suc (length ss) + slot_place rs n
    behind true k l = absurd (omega arith)
    behind false k l = omega (arith, k (omega arith))

place_value : (ss : List Slot) (i : ℕ) (v : Value) (n : ℕ) → slot_place (with_value_at ss i v) n ≡ slot_place ss n
place_value [] i v n = refl
place_value (s ∷ ss) zero v n = refl
place_value (s ∷ ss) (suc i) v n = ap (λ p. if nat_eq s.name.number n then 0 else 1 + p) (place_value ss i v n)

length_value : (ss : List Slot) (i : ℕ) (v : Value) → length (with_value_at ss i v) ≡ length ss
length_value [] i v = refl
length_value (s ∷ ss) zero v = refl
length_value (s ∷ ss) (suc i) v = ap suc (length_value ss i v)

-- ---- a place that may be none

abbrev placed : ℕ → ℕ → Option ℕ
placed p l = if nat_lt p l then Some p else None

placed_low : (p l : ℕ) → p < l → placed p l ≡ Some p
placed_low p l h = rw (lt-ltb p l h) refl

placed_high : (p l : ℕ) → l ≤ p → placed p l ≡ None
placed_high p l h = rw (le-ltb p l h) refl

placed_some : (t : Bool) (p l q : ℕ) → nat_lt p l ≡ t → (if t then Some p else None) ≡ Some q → (q ≡ p) × (p < l)
placed_some true p l q e f = let g : p ≡ q = cc in (sym g, grind arith)
placed_some false p l q e f = absurd cc

placed_none : (t : Bool) (p l : ℕ) → nat_lt p l ≡ t → (if t then Some p else None) ≡ None → l ≤ p
placed_none true p l e f = absurd cc
placed_none false p l e f = grind arith

in_some : (ss : List Slot) (n q : ℕ) → place_in ss n ≡ Some q → (q ≡ slot_place ss n) × (slot_place ss n < length ss)
in_some ss n q e = placed_some (nat_lt (slot_place ss n) (length ss)) (slot_place ss n) (length ss) q refl e

in_none : (ss : List Slot) (n : ℕ) → place_in ss n ≡ None → length ss ≤ slot_place ss n
in_none ss n e = placed_none (nat_lt (slot_place ss n) (length ss)) (slot_place ss n) (length ss) refl e

length_one : (ss : List Slot) (s : Slot) → length (ss ++ s ∷ []) ≡ length ss + 1
length_one ss s = length-append ss (s ∷ [])

-- a number that has a place keeps it
in_kept : (ss : List Slot) (s : Slot) (n q : ℕ) → place_in ss n ≡ Some q → place_in (ss ++ s ∷ []) n ≡ Some q
in_kept ss s n q e =
    let p = in_some ss n q e in
    let f : slot_place (ss ++ s ∷ []) n ≡ q = place_first ss (s ∷ []) n p.1 ∙ sym p.0 in
    placed_low (slot_place (ss ++ s ∷ []) n) (length (ss ++ s ∷ [])) (omega (arith, f, p.0, p.1, length_one ss s))
    ∙ ap (λ i. Some i) f

-- the number that is added
in_last : (ss : List Slot) (s : Slot) (n : ℕ)
    → place_in ss n ≡ None
    → nat_eq s.name.number n ≡ true
    → place_in (ss ++ s ∷ []) n ≡ Some (length ss)
in_last ss s n e t =
    let g : slot_place (s ∷ []) n ≡ 0 = rw t refl in
    let f : slot_place (ss ++ s ∷ []) n ≡ length ss = omega (arith, place_behind ss (s ∷ []) n (in_none ss n e), g) in
    placed_low (slot_place (ss ++ s ∷ []) n) (length (ss ++ s ∷ [])) (omega (arith, f, length_one ss s))
    ∙ ap (λ i. Some i) f

-- another number
in_other_if : (ss : List Slot) (s : Slot) (n : ℕ) (o : Option ℕ)
    → place_in ss n ≡ o
    → nat_eq s.name.number n ≡ false
    → place_in (ss ++ s ∷ []) n ≡ o
in_other_if ss s n (Some q) e t = in_kept ss s n q e
in_other_if ss s n None e t =
    let g : slot_place (s ∷ []) n ≡ 1 = rw t refl in
    placed_high (slot_place (ss ++ s ∷ []) n) (length (ss ++ s ∷ []))
    (omega (arith, place_behind ss (s ∷ []) n (in_none ss n e), g, length_one ss s))

-- ---- the index

pub index-none : {S : Type 0} (m : HashMap ℕ ℕ S) → m.entries ≡ [] → IsPlaceIndex [] m
index-none m e = record { finds = λ n. rw e refl }

pub index-same : {S : Type 0} (ss : List Slot) (m w : HashMap ℕ ℕ S)
    → w.entries ≡ m.entries
    → IsPlaceIndex ss m
    → IsPlaceIndex ss w
index-same ss m w e i = record { finds = λ n. ap (lookup (nat_eq n)) e ∙ i.finds n }

pub index-value : {S : Type 0} (ss : List Slot) (m : HashMap ℕ ℕ S) (i : ℕ) (v : Value)
    → IsPlaceIndex ss m
    → IsPlaceIndex (with_value_at ss i v) m
index-value ss m i v x = record { finds = λ n. rw (place_value ss i v n, length_value ss i v) (x.finds n) }

known_if : (ss : List Slot) (s : Slot) (n : ℕ) (o p : Option ℕ) (t : Bool)
    → place_in ss s.name.number ≡ p
    → is_some p ≡ true
    → nat_eq s.name.number n ≡ t
    → place_in ss n ≡ o
    → o ≡ place_in (ss ++ s ∷ []) n
known_if ss s n o p false g h f e = sym (in_other_if ss s n o e f)
known_if ss s n o None true g h f e = absurd cc
known_if ss s n o (Some q) true g h f e =
    let is : s.name.number ≡ n = eqb-true s.name.number n f in
    let k : place_in ss n ≡ Some q = subst (λ j. place_in ss j ≡ Some q) is g in
    sym e ∙ k ∙ sym (in_kept ss s n q k)

-- one more name, whose number has a place
pub index-known : {S : Type 0} (ss : List Slot) (m : HashMap ℕ ℕ S) (s : Slot)
    → is_some (get_by (nat_eq s.name.number) m) ≡ true
    → IsPlaceIndex ss m
    → IsPlaceIndex (ss ++ s ∷ []) m
index-known ss m s h i =
    record {
      finds = λ n. i.finds n
          ∙ known_if ss s n (place_in ss n) (place_in ss s.name.number) (nat_eq s.name.number n) refl
          (ap is_some (sym (i.finds s.name.number)) ∙ h)
          refl refl;
    }

none_of : (o : Option ℕ) → is_some o ≡ false → o ≡ None
none_of None h = refl
none_of (Some q) h = absurd cc

fresh_if : (ss : List Slot) (s : Slot) (n l : ℕ) (t : Bool)
    → nat_eq s.name.number n ≡ t
    → l ≡ length ss
    → place_in ss s.name.number ≡ None
    → cond t (Some l) (place_in ss n) ≡ place_in (ss ++ s ∷ []) n
fresh_if ss s n l false f e g = sym (in_other_if ss s n (place_in ss n) refl f)
fresh_if ss s n l true f e g =
    let is : s.name.number ≡ n = eqb-true s.name.number n f in
    let k : place_in ss n ≡ None = subst (λ j. place_in ss j ≡ None) is g in
    ap (λ j. Some j) e ∙ sym (in_last ss s n k f)

-- one more name, whose number had none
pub index-fresh : {S : Type 0} (ss : List Slot) (m w : HashMap ℕ ℕ S) (s : Slot) (l : ℕ)
    → is_some (get_by (nat_eq s.name.number) m) ≡ false
    → Updates nat_eq m w s.name.number (Some l)
    → length ss ≡ l
    → IsPlaceIndex ss m
    → IsPlaceIndex (ss ++ s ∷ []) w
index-fresh ss m w s l h u e i =
    let g : place_in ss s.name.number ≡ None = sym (i.finds s.name.number) ∙ none_of _ h in
    record {
      finds = λ n. u.0 n
          ∙ ap (cond (nat_eq s.name.number n) (Some l)) (i.finds n)
          ∙ fresh_if ss s n l (nat_eq s.name.number n) refl (sym e) g;
    }

-- ---- what it finds

pub index-some : {S : Type 0} (ss : List Slot) (m : HashMap ℕ ℕ S) (n q : ℕ)
    → IsPlaceIndex ss m
    → Some q ≡ get_by (nat_eq n) m
    → q ≡ slot_place ss n
index-some ss m n q i e = (in_some ss n q (sym (i.finds n) ∙ sym e)).0

pub index-nothing : {S : Type 0} (ss : List Slot) (m : HashMap ℕ ℕ S) (n : ℕ)
    → IsPlaceIndex ss m
    → None ≡ get_by (nat_eq n) m
    → length ss ≡ slot_place ss n
index-nothing ss m n i e =
    omega (arith, in_none ss n (sym (i.finds n) ∙ sym e), place-most ss n)

-- one turn along a scope
pub index-turn : {S : Type 0} (ss : List Slot) (i : ℕ) (d : Slot) (m w : HashMap ℕ ℕ S)
    → i < length ss
    → Enters (get_or ss i d) i m w
    → IsPlaceIndex (take i ss) m
    → IsPlaceIndex (take (i + 1) ss) w
index-turn ss i d m w h f x = rw (take_more ss i d h) (f (take i ss) (length-take-le i ss (omega arith)) x)
