-- Counts that stay at most a limit. The limits are variables here, since great numbers stop a search.
use Rattle.std.proofs.Common.{◌≡◌, ℕ, ◌+◌, ◌<◌, ◌≤◌, Bool, true, false, cond, List, [], ◌∷◌, ◌++◌, length, arith}
use Rattle.std.specs.Prelude.{filter, nat_le, nat_lt, if◌then◌else◌, Some, None}
use Rattle.std.proofs.lemmas.Bool.Decides.{nat_tests}
use Rattle.std.proofs.lemmas.List.{length_push}

-- what passes a test is no more than all
filter-shorter : {X : Type 0} (p : X → Bool) (xs : List X) → length (filter p xs) ≤ length xs
filter-shorter p [] = omega arith
filter-shorter p (x ∷ xs) = at (p x) (filter-shorter p xs)
  where
    at : (b : Bool)
        → length (filter p xs) ≤ length xs
        → length (cond b (x ∷ filter p xs) (filter p xs)) ≤ length (x ∷ xs)
    at true le = omega (arith, le)
    at false le = omega (arith, le)

pub filter-within : {X : Type 0} (m : ℕ) (p : X → Bool) (xs : List X) → length xs ≤ m → length (filter p xs) ≤ m
filter-within m p xs le =
    let shorter = filter-shorter p xs in
    omega (arith, le, shorter)

-- one more of fewer than a limit
pub push-within : {X : Type 0} (m : ℕ) (xs : List X) (x : X) → length xs < m → length (xs ++ x ∷ []) ≤ m
push-within m xs x lt =
    let longer = length_push xs x in
    omega (arith, lt, longer)

-- nothing is no more than a limit
pub none-within : (m : ℕ) → 0 ≤ m
none-within m = omega arith

-- where neither of two tests for a limit is met, both counts are below
pub below-both : {F : Type 0} (m n a b : ℕ) (x y : F) (s t : Bool)
    → nat_le m a ≡ s
    → nat_le n b ≡ t
    → (if s then Some x else if t then Some y else None) ≡ None
    → (a < m) × (b < n)
below-both m n a b x y true t e f is = absurd cc
below-both m n a b x y false true e f is = absurd cc
below-both m n a b x y false false e f is = (grind (arith, nat_tests), grind (arith, nat_tests))

-- the same of a limit behind another test
pub below-last : {F : Type 0} (m a : ℕ) (x y : F) (s t : Bool)
    → nat_le m a ≡ t
    → (if s then Some x else if t then Some y else None) ≡ None
    → a < m
below-last m a x y true t e is = absurd cc
below-last m a x y false true e is = absurd cc
below-last m a x y false false e is = grind (arith, nat_tests)

-- a count that stays at its limit
pub counts-on : (m n : ℕ) (b : Bool) → nat_lt n m ≡ b → n ≤ m → (if b then n + 1 else n) ≤ m
counts-on m n true e le = grind (arith, nat_tests)
counts-on m n false e le = le

-- one more of a count below a limit
pub one-more : (m n : ℕ) → n < m → n + 1 ≤ m
one-more m n lt = omega (arith, lt)
