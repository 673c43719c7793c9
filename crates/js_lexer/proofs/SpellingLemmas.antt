-- Texts at the front, and tables of them.
use Rattle.std.proofs.Common.{◌≡◌, ℕ, ◌≤◌, true, eqb, List, [], ◌∷◌, ◌++◌, length, drop, refl, ap, eq-eqb, arith}
use Rattle.std.proofs.lemmas.Bool.{eqb-true, and_parts}
use Rattle.std.proofs.lemmas.List.{length-append}
use Rattle.js_lexer.specs.Spellings.{is_prefix_of}

-- a text that stands at the front, and what follows it
pub prefix_is : (t us : List ℕ) → is_prefix_of t us ≡ true → us ≡ t ++ drop (length t) us
prefix_is [] us e = refl
prefix_is (c ∷ cs) [] e = absurd cc
prefix_is (c ∷ cs) (u ∷ us) e =
    let a = and_parts (eqb u c) (is_prefix_of cs us) e in
    let h : u ≡ c = eqb-true u c a.0 in
    let r = prefix_is cs us a.1 in
    cc

-- a text stands at its own front
pub prefix_self : (t m : List ℕ) → is_prefix_of t (t ++ m) ≡ true
prefix_self [] m = refl
prefix_self (c ∷ t) m = rw (eq-eqb c c refl) (prefix_self t m)

pub prefix_fits : (t us : List ℕ) → is_prefix_of t us ≡ true → length t ≤ length us
prefix_fits t us e =
    omega (arith, ap (λ (l : List ℕ). length l) (prefix_is t us e), length-append t (drop (length t) us))
