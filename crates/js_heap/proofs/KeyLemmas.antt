-- Lemmas on texts and keys.
use Rattle.std.proofs.Common.{◌≡◌, ℕ, zero, suc, ◌+◌, ◌-◌, ◌*◌, ◌<◌, ◌≤◌, ◌^◌, Bool, true, false, List, [], ◌∷◌, length, drop, get_or, Some, None, refl, sym, ap, subst, arith, if◌then◌else◌}
use Rattle.std.specs.Str.{all_ascii_digits}
use Rattle.std.specs.Str.Parse.{digits_value, digits_value_after}
use Rattle.std.specs.Char.{digit_value, is_ascii_digit}
use Rattle.std.specs.Prelude.{nat_eq, nat_lt, ◌&&◌}
use Rattle.std.specs.Cmp.Lexicographic.{pointwise}
use Rattle.js_heap.specs.Keys.{same_units, index_within}

-- as `==` on slices has it
pub pointwise_units : (us vs : List ℕ) → pointwise nat_eq us vs ≡ same_units us vs
pointwise_units [] [] = refl
pointwise_units [] (v ∷ vs) = refl
pointwise_units (u ∷ us) [] = refl
pointwise_units (u ∷ us) (v ∷ vs) = ap (λ b. nat_eq u v && b) (pointwise_units us vs)

pub ruleset units_rules = (pointwise_units)

-- ---- indices

pub value-end : (key : List ℕ) (i n : ℕ) → length key ≤ i → digits_value_after 10 n (drop i key) ≡ n
value-end [] zero n h = refl
value-end [] (suc i) n h = refl
value-end (u ∷ us) zero n h = absurd (omega arith)
value-end (u ∷ us) (suc i) n h = value-end us i n (omega arith)

after-grows : (ds : List ℕ) (n : ℕ) → n ≤ digits_value_after 10 n ds
after-grows [] n = omega arith
after-grows (d ∷ ds) n = omega (arith, after-grows ds (n * 10 + digit_value d))

within-some : (v : ℕ) → v < 4294967295 → (if nat_lt v (2 ^ 32 - 1) then Some v else None) ≡ Some v
within-some v h = grind arith

within-none : (v : ℕ) → 4294967295 ≤ v → (if nat_lt v (2 ^ 32 - 1) then Some v else None) ≡ None
within-none v h = grind arith

pub index-some : (key : List ℕ) (v : ℕ) → digits_value 10 key ≡ v → v < 4294967295 → Some v ≡ index_within key
index-some key v e h =
    let P : ℕ → Type 0 = λ d. Some v ≡ (if nat_lt d (2 ^ 32 - 1) then Some d else None) in
    subst P (sym e) (sym (within-some v h))

pub index-none : (key : List ℕ) → 4294967295 ≤ digits_value 10 key → None ≡ index_within key
index-none key h = sym (within-none (digits_value 10 key) h)

digit-of : (c : ℕ) → is_ascii_digit c ≡ true → digit_value c ≡ c - 48
digit-of c h = grind (arith, h)

first_digit : (b c : Bool) → (b && c) ≡ true → b ≡ true
first_digit true c h = refl
first_digit false c h = h

pub value-past : (key : List ℕ) (i n : ℕ)
    → i < length key
    → all_ascii_digits (drop i key) ≡ true
    → n * 10 + (get_or key i 0 - 48) ≤ digits_value_after 10 n (drop i key)
value-past [] i n h d = absurd (omega arith)
value-past (u ∷ us) zero n h d =
    let e = digit-of u (first_digit (is_ascii_digit u) (all_ascii_digits us) d) in
    omega (arith, e, after-grows us (n * 10 + digit_value u))
value-past (u ∷ us) (suc i) n h d = value-past us i n (omega arith) d
