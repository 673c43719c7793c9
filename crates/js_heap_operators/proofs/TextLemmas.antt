-- Lemmas on the order of texts.
use Rattle.std.proofs.Common.{◌≡◌, ℕ, zero, suc, false, List, [], ◌∷◌, length, drop, refl, sym, ap, ◌∙◌, arith}
use Rattle.std.proofs.Math.Bool.{and-false}
use Rattle.std.specs.Prelude.{nat_eq, nat_lt, ◌≢◌, min}
use Rattle.js_heap.specs.Keys.{same_units}
use Rattle.js_heap.specs.Operators.{units_before}

-- ---- where one has ended

lt_same : (u : ℕ) → nat_lt u u ≡ false
lt_same u = grind arith

none_before : (vs : List ℕ) → units_before [] vs ≡ nat_lt 0 (length vs)
none_before [] = sym (lt_same 0)
none_before (v ∷ vs) = grind arith

one_more : (m n : ℕ) → nat_lt (suc m) (suc n) ≡ nat_lt m n
one_more m n = grind arith

pub before-ends : (us vs : List ℕ) (i : ℕ)
    → i ≡ min (length us) (length vs)
    → units_before (drop i us) (drop i vs) ≡ nat_lt (length us) (length vs)
before-ends [] vs zero e = none_before vs
before-ends [] vs (suc i) e = absurd (omega arith)
before-ends (u ∷ us) [] zero e = grind arith
before-ends (u ∷ us) [] (suc i) e = absurd (omega arith)
before-ends (u ∷ us) (v ∷ vs) zero e = absurd (omega arith)
before-ends (u ∷ us) (v ∷ vs) (suc i) e = before-ends us vs i (omega arith) ∙ sym (one_more (length us) (length vs))

-- ---- the same units

pub same-long : (us vs : List ℕ) → length us ≢ length vs → same_units us vs ≡ false
same-long [] [] n = absurd (n refl)
same-long [] (v ∷ vs) n = refl
same-long (u ∷ us) [] n = refl
same-long (u ∷ us) (v ∷ vs) n = rw (same-long us vs (λ e. n (ap suc e))) (and-false (nat_eq u v))
