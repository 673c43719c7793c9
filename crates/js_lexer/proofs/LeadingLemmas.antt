-- How many units at the front pass.
use Rattle.std.proofs.Common.{◌≡◌, ℕ, suc, ◌≤◌, Bool, true, false, cond, List, [], ◌∷◌, ◌++◌, length, take, drop, refl, arith}
use Rattle.std.specs.List.{list_all}
use Rattle.js_lexer.specs.Classes.{begins, leading}
use Rattle.std.proofs.lemmas.Bool.{and_parts}

pub leading_all : (p : ℕ → Bool) (us : List ℕ) → list_all p (take (leading p us) us) ≡ true
leading_all p [] = refl
leading_all p (u ∷ us) = by_test (leading_all p us) (p u) refl
  where
    by_test : list_all p (take (leading p us) us) ≡ true
        → (b : Bool)
        → p u ≡ b
        → list_all p (take (cond b (suc (leading p us)) 0) (u ∷ us)) ≡ true
    by_test h true e = rw (e, h) refl
    by_test h false e = refl

pub leading_within : (p : ℕ → Bool) (us : List ℕ) → leading p us ≤ length us
leading_within p [] = omega arith
leading_within p (u ∷ us) = by_test (leading p us) (length us) (leading_within p us) (p u)
  where
    by_test : (i n : ℕ) → i ≤ n → (b : Bool) → cond b (suc i) 0 ≤ suc n
    by_test i n h true = omega arith
    by_test i n h false = omega arith

-- what passes at the front is no longer
pub leading_longest : (p : ℕ → Bool) (t m : List ℕ) → list_all p t ≡ true → length t ≤ leading p (t ++ m)
leading_longest p [] m e = omega arith
leading_longest p (u ∷ t) m e =
    let a = and_parts (p u) (list_all p t) e in
    rw a.0 (omega (arith, leading_longest p t m a.1))

-- what follows doesn't pass
pub leading_stops : (p : ℕ → Bool) (us : List ℕ) → begins p (drop (leading p us) us) ≡ false
leading_stops p [] = refl
leading_stops p (u ∷ us) = by_test (leading_stops p us) (p u) refl
  where
    by_test : begins p (drop (leading p us) us) ≡ false
        → (b : Bool)
        → p u ≡ b
        → begins p (drop (cond b (suc (leading p us)) 0) (u ∷ us)) ≡ false
    by_test h true e = h
    by_test h false e = e

-- units that pass, and behind them none that does
pub leading_exact : (p : ℕ → Bool) (t m : List ℕ)
    → list_all p t ≡ true
    → begins p m ≡ false
    → leading p (t ++ m) ≡ length t
leading_exact p [] [] e f = refl
leading_exact p [] (u ∷ m) e f = rw f refl
leading_exact p (u ∷ t) m e f =
    let a = and_parts (p u) (list_all p t) e in
    rw a.0 (omega (arith, leading_exact p t m a.1 f))
