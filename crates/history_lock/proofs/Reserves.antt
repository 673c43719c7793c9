-- The numbers that a pass may give: a split takes the first, and parts the others between two passes.
use Rattle.std.proofs.Common.{◌≡◌, ℕ, zero, suc, ◌+◌, ◌<◌, ◌≤◌, refl, sym, ap, ◌∙◌, ⊎_elim, inl, inr, arith, le_refl}
use Rattle.history_lock.specs.declared.view.View.{View}
use Rattle.history_lock.specs.Views.{Reserved, term, thinned, newborn, nobody}

twice_more : (a s : ℕ) → a + (s + s) ≡ (a + s) + s
twice_more a s = omega arith

next_double : (i : ℕ) → suc (suc (i + i)) ≡ suc i + suc i
next_double i = omega arith

not_below_zero : (a : ℕ) → a < 0 → ⊥
not_below_zero a h = omega (arith, h)

odd_is_not_even : (i j : ℕ) → suc (i + i) ≡ suc (suc (j + j)) → ⊥
odd_is_not_even i j e = omega (arith, e)

-- a run of each second number behind the first
odd : (b s i : ℕ) → term (b + s) (s + s) i ≡ term b s (suc (i + i))
odd b s zero = refl
odd b s (suc i) = ap (λ (a : ℕ). a + (s + s)) (odd b s i) ∙ (twice_more (term b s (suc (i + i))) s ∙ ap (λ (k : ℕ). term b s (suc k)) (next_double i))

-- and of the others
even : (b s i : ℕ) → term (b + (s + s)) (s + s) i ≡ term b s (suc (suc (i + i)))
even b s zero = twice_more b s
even b s (suc i) = ap (λ (a : ℕ). a + (s + s)) (even b s i) ∙ (twice_more (term b s (suc (suc (i + i)))) s ∙ ap (λ (k : ℕ). term b s (suc (suc k))) (next_double i))

pub from_base : (b s i : ℕ) → b ≤ term b s i
from_base b s zero = le_refl b
from_base b s (suc i) = let d = from_base b s i in omega (arith, d)

same_place : (b s i j : ℕ) → 0 < s → term b s i ≡ term b s j → i ≡ j
same_place b s zero zero pos e = refl
same_place b s zero (suc j) pos e = let d = from_base b s j in absurd (omega (arith, d, pos, e))
same_place b s (suc i) zero pos e = let d = from_base b s i in absurd (omega (arith, d, pos, e))
same_place b s (suc i) (suc j) pos e = ap suc (same_place b s i j pos (omega (arith, e)))

pub nobody_reserves : (E : Type 0) (x : ℕ) → Reserved (nobody {E = E}) x → ⊥
nobody_reserves E x r = ⊎_elim (λ (o : (0 ≤ x) × (x + 1 < 0)). not_below_zero (x + 1) o.1) (λ (o : (0 < 0) × ((i : ℕ) × (x ≡ term 0 0 i))). not_below_zero 0 o.0) r

module _ {E : Type 0} where
  -- what is left to a pass after a split it might give before
  pub thinned_within : (v : View E) (unopened splits x : ℕ) → v.unopened ≤ unopened → Reserved (thinned v unopened splits) x → Reserved v x
  thinned_within v unopened splits x le r = ⊎_elim
      (λ (o : (unopened ≤ x) × (x + 1 < v.initial)). inl (let a = o.0 in omega (arith, a, le), o.1))
      (λ (o : (0 < v.stride + v.stride) × ((i : ℕ) × (x ≡ term (v.base + v.stride) (v.stride + v.stride) i))). inr (let a = o.0 in omega (arith, a), (suc (o.1.0 + o.1.0), o.1.1 ∙ odd v.base v.stride o.1.0)))
      r

  -- what the new pass may give the old one might give
  pub newborn_within : (v : View E) (number x : ℕ) → Reserved (newborn v number) x → Reserved v x
  newborn_within v number x r = ⊎_elim
      (λ (o : (v.initial ≤ x) × (x + 1 < v.initial)). absurd (let a = o.0 in let b = o.1 in omega (arith, a, b)))
      (λ (o : (0 < v.stride + v.stride) × ((i : ℕ) × (x ≡ term (v.base + (v.stride + v.stride)) (v.stride + v.stride) i))). inr (let a = o.0 in omega (arith, a), (suc (suc (o.1.0 + o.1.0)), o.1.1 ∙ even v.base v.stride o.1.0)))
      r

  -- the first of its run it may give
  pub base_within : (v : View E) → 0 < v.stride → Reserved v v.base
  base_within v pos = inr (pos, (0, refl))

  -- and no number is left to both
  pub parted : (v : View E) (unopened splits number x : ℕ) → v.initial ≤ v.base → Reserved (thinned v unopened splits) x → Reserved (newborn v number) x → ⊥
  parted v unopened splits number x beyond r r' = ⊎_elim
      (λ (n : (v.initial ≤ x) × (x + 1 < v.initial)). let a = n.0 in let b = n.1 in omega (arith, a, b))
      (λ (n : (0 < v.stride + v.stride) × ((i : ℕ) × (x ≡ term (v.base + (v.stride + v.stride)) (v.stride + v.stride) i))). ⊎_elim
      (λ (o : (unopened ≤ x) × (x + 1 < v.initial)). let a = o.1 in let e = n.1.1 in let b = from_base (v.base + (v.stride + v.stride)) (v.stride + v.stride) n.1.0 in omega (arith, a, b, e, beyond))
      (λ (o : (0 < v.stride + v.stride) × ((i : ℕ) × (x ≡ term (v.base + v.stride) (v.stride + v.stride) i))).
      let a = o.0 in odd_is_not_even o.1.0 n.1.0 (same_place v.base v.stride (suc (o.1.0 + o.1.0)) (suc (suc (n.1.0 + n.1.0))) (omega (arith, a)) (sym (odd v.base v.stride o.1.0) ∙ (sym o.1.1 ∙ (n.1.1 ∙ even v.base v.stride n.1.0)))))
      r)
      r'

  -- the first of the run goes to the new pass and is left to neither
  pub base_taken : (v : View E) (splits : ℕ) → v.initial ≤ v.base → Reserved (thinned v v.unopened splits) v.base → ⊥
  base_taken v splits beyond r = ⊎_elim
      (λ (o : (v.unopened ≤ v.base) × (v.base + 1 < v.initial)). let a = o.1 in omega (arith, a, beyond))
      (λ (o : (0 < v.stride + v.stride) × ((i : ℕ) × (v.base ≡ term (v.base + v.stride) (v.stride + v.stride) i))).
      let a = o.0 in let e = o.1.1 in let b = from_base (v.base + v.stride) (v.stride + v.stride) o.1.0 in omega (arith, a, b, e))
      r

  pub base_not_kept : (v : View E) (number : ℕ) → v.initial ≤ v.base → Reserved (newborn v number) v.base → ⊥
  base_not_kept v number beyond r = ⊎_elim
      (λ (o : (v.initial ≤ v.base) × (v.base + 1 < v.initial)). let a = o.1 in omega (arith, a, beyond))
      (λ (o : (0 < v.stride + v.stride) × ((i : ℕ) × (v.base ≡ term (v.base + (v.stride + v.stride)) (v.stride + v.stride) i))).
      let a = o.0 in let e = o.1.1 in let b = from_base (v.base + (v.stride + v.stride)) (v.stride + v.stride) o.1.0 in omega (arith, a, b, e))
      r

  -- so it is with the next of those that the lock begins with
  pub unopened_taken : (v : View E) (splits : ℕ) → v.unopened + 1 < v.initial → v.initial ≤ v.base → Reserved (thinned v (v.unopened + 1) splits) v.unopened → ⊥
  unopened_taken v splits more beyond r = ⊎_elim
      (λ (o : (v.unopened + 1 ≤ v.unopened) × (v.unopened + 1 < v.initial)). let a = o.0 in omega (arith, a))
      (λ (o : (0 < v.stride + v.stride) × ((i : ℕ) × (v.unopened ≡ term (v.base + v.stride) (v.stride + v.stride) i))).
      let e = o.1.1 in let b = from_base (v.base + v.stride) (v.stride + v.stride) o.1.0 in omega (arith, b, e, more, beyond))
      r

  pub unopened_not_kept : (v : View E) (number : ℕ) → v.unopened + 1 < v.initial → v.initial ≤ v.base → Reserved (newborn v number) v.unopened → ⊥
  unopened_not_kept v number more beyond r = ⊎_elim
      (λ (o : (v.initial ≤ v.unopened) × (v.unopened + 1 < v.initial)). let a = o.0 in omega (arith, a, more))
      (λ (o : (0 < v.stride + v.stride) × ((i : ℕ) × (v.unopened ≡ term (v.base + (v.stride + v.stride)) (v.stride + v.stride) i))).
      let e = o.1.1 in let b = from_base (v.base + (v.stride + v.stride)) (v.stride + v.stride) o.1.0 in omega (arith, b, e, more, beyond))
      r
