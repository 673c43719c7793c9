-- What a wire took in turn, where that is told.
use Rattle.std.proofs.Common.{Result, Ok, Err, OnErr, ◌≡◌, ℕ, ◌+◌, ◌-◌, ◌≤◌, ◌<◌, length-drop, List, [], ◌++◌, length, take, drop, Option, Some, None, refl, ap, sym, ◌∙◌, append_assoc, append-nil, arith}
use Rattle.std.proofs.lemmas.List.{take_all, take-append-drop}
use Rattle.cdp_edge.proofs.Gains.{take-plus}
use Rattle.cdp_edge_wire.specs.Written.{gains, GainsLess}

-- to gain one and then the other is to gain both
pub gains-append : (old : Option (List ℕ)) (xs ys : List ℕ) → gains (gains old xs) ys ≡ gains old (xs ++ ys)
gains-append None xs ys = refl
gains-append (Some bytes) xs ys = ap (λ all. Some all) (append_assoc bytes xs ys)

-- to gain nothing changes nothing
pub gains-nil : (old : Option (List ℕ)) → gains old [] ≡ old
gains-nil None = refl
gains-nil (Some bytes) = ap (λ all. Some all) (append-nil bytes)

-- what was gained, and then more of it
gains-next : (old now new : Option (List ℕ)) (done bytes all : List ℕ)
    → now ≡ gains old done → new ≡ gains now bytes → all ≡ done ++ bytes → new ≡ gains old all
gains-next old now new done bytes all is next parts =
    next ∙ ap (λ o. gains o bytes) is ∙ gains-append old done bytes ∙ ap (λ b. gains old b) (sym parts)

-- a wire that took the first i, and then n more of the slice from i on, took the first i + n
pub gains-step : (old now new : Option (List ℕ)) (xs : List ℕ) (i n : ℕ)
    → n ≤ length (take (length xs - i) (drop i xs)) → now ≡ gains old (take i xs)
    → new ≡ gains now (take n (take (length xs - i) (drop i xs))) → new ≡ gains old (take (i + n) xs)
gains-step old now new xs i n within before after =
    let e : take (length xs - i) (drop i xs) ≡ drop i xs = take_all (length xs - i) (drop i xs)
    (omega (arith, length-drop i xs)) in
    gains-next old now new (take i xs) (take n (drop i xs)) (take (i + n) xs) before (rw e at after) (take-plus xs i n)

-- the first i are not all of more than i
pub OnErr-GainsLess-take : {T E : Type 0} (r : Result T E) (old now new : Option (List ℕ)) (xs : List ℕ) (i : ℕ)
    → i < length xs → now ≡ gains old (take i xs) → new ≡ now → OnErr r (GainsLess old new xs)
OnErr-GainsLess-take (Ok done) old now new xs i below is same = tt
OnErr-GainsLess-take (Err e) old now new xs i below is same =
    let left : length (drop i xs) ≡ length xs - i = length-drop i xs in
    (take i xs, drop i xs, (λ none. omega (arith, ap length none, left)), sym (take-append-drop i xs), same ∙ is)

-- for a loop that offers a slice from a place on
pub ruleset slices = (gains-append, gains-nil, gains-step, OnErr-GainsLess-take)
