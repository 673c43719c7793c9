-- Places of an index.
use Rattle.std.proofs.Common.{◌≡◌, ℕ, zero, suc, Bool, true, false, ◌<◌, List, [], ◌∷◌, length, if◌then◌else◌, refl, ap, ◌∙◌, arith}
use Rattle.std.specs.Prelude.{slice_set, nat_eq}
use Rattle.js_machine_compiler.specs.Index.{number_at}

number_if : (b c : Bool) (n m : ℕ) → b ≡ c → (if b then n else m) ≡ (if c then n else m)
number_if b c n m e = ap (λ x. if x then n else m) e

eq_suc : (i x : ℕ) (b : Bool) → nat_eq i x ≡ b → b ≡ nat_eq (suc i) (suc x)
eq_suc i x true e = grind arith
eq_suc i x false e = grind arith

pub number_set : (xs : List ℕ) (i x n : ℕ)
    → i < length xs
    → number_at (slice_set xs i n) x ≡ (if nat_eq i x then n else number_at xs x)
number_set [] i x n h = absurd (omega arith)
number_set (y ∷ xs) zero zero n h = refl
number_set (y ∷ xs) zero (suc x) n h =
    let e : false ≡ nat_eq 0 (suc x) = grind arith in number_if false (nat_eq 0 (suc x)) n (number_at xs x) e
number_set (y ∷ xs) (suc i) zero n h =
    let e : false ≡ nat_eq (suc i) 0 = grind arith in number_if false (nat_eq (suc i) 0) n y e
number_set (y ∷ xs) (suc i) (suc x) n h =
    number_set xs i x n (omega arith)
    ∙ number_if (nat_eq i x) (nat_eq (suc i) (suc x)) n (number_at xs x) (eq_suc i x (nat_eq i x) refl)
