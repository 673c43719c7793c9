-- Gains in turn, and the first parts of what was offered.
use Rattle.std.proofs.Common.{Result, Ok, Err, OnErr, ◌≡◌, ◌≢◌, ℕ, zero, suc, ◌+◌, ◌-◌, ◌≤◌, length-drop, List, [], ◌∷◌, ◌++◌, length, take, drop, refl, ap, sym, ◌∙◌, suc-add, append_assoc, append-nil, ◌<◌, arith}
use Rattle.std.proofs.lemmas.Grind.{common_steps}
use Rattle.std.proofs.lemmas.List.{take_all, take-append-drop}
use Rattle.cdp_edge.specs.Outside.{gains, GainsPrefix, GainsLess}

-- to gain one and then the other is to gain both
pub gains-append : (old xs ys : List ℕ) → gains (gains old xs) ys ≡ gains old (xs ++ ys)
gains-append old xs ys = append_assoc old xs ys

-- to gain nothing changes nothing
pub gains-nil : (old : List ℕ) → gains old [] ≡ old
gains-nil old = append-nil old

-- what was gained, and then more of it
pub gains-next : (old now new done bytes all : List ℕ)
    → now ≡ gains old done → new ≡ gains now bytes → all ≡ done ++ bytes → new ≡ gains old all
gains-next old now new done bytes all is next parts =
    next ∙ ap (λ o. gains o bytes) is ∙ gains-append old done bytes ∙ ap (λ b. gains old b) (sym parts)

-- where nothing was gained, a first part was
pub GainsPrefix-same : (old new bytes : List ℕ) → new ≡ old → GainsPrefix old new bytes
GainsPrefix-same old new bytes same = ([], bytes, refl, same ∙ sym (gains-nil old))

-- the same of content that stays as it is
pub GainsPrefix-refl : (content bytes : List ℕ) → GainsPrefix content content bytes
GainsPrefix-refl content bytes = GainsPrefix-same content content bytes refl

-- a first part of what comes next is one of all
pub GainsPrefix-behind : (old now new done bytes more all : List ℕ)
    → now ≡ gains old done → all ≡ done ++ bytes ++ more → GainsPrefix now new bytes → GainsPrefix old new all
GainsPrefix-behind old now new done bytes more all is parts (part, rest, e, g) = (
  done ++ part,
  rest ++ more,
  parts
      ∙ grind (arith, common_steps, e),
  g
      ∙ ap (λ o. gains o part) is
      ∙ gains-append old done part,
)

-- the first i and then n of what is behind them
pub take-plus : (xs : List ℕ) (i n : ℕ) → take (i + n) xs ≡ take i xs ++ take n (drop i xs)
take-plus xs zero n = grind (arith, common_steps)
take-plus [] (suc i) n = grind (arith, common_steps)
take-plus (x ∷ xs) (suc i) n = rw suc-add (ap (λ all. x ∷ all) (take-plus xs i n))

-- a sink that took the first i, and then n more of the slice from i on, took the first i + n
pub gains-step : (old now new xs : List ℕ) (i n : ℕ)
    → n ≤ length (take (length xs - i) (drop i xs)) → now ≡ gains old (take i xs)
    → new ≡ gains now (take n (take (length xs - i) (drop i xs))) → new ≡ gains old (take (i + n) xs)
gains-step old now new xs i n within before after =
    let e : take (length xs - i) (drop i xs) ≡ drop i xs = take_all (length xs - i) (drop i xs)
    (omega (arith, length-drop i xs)) in
    gains-next old now new (take i xs) (take n (drop i xs)) (take (i + n) xs) before (rw e at after) (take-plus xs i n)

-- the first i are not all of more than i
pub OnErr-GainsLess-take : {T E : Type 0} (r : Result T E) (old now new xs : List ℕ) (i : ℕ)
    → i < length xs → now ≡ gains old (take i xs) → new ≡ now → OnErr r (GainsLess old new xs)
OnErr-GainsLess-take (Ok done) old now new xs i below is same = tt
OnErr-GainsLess-take (Err e) old now new xs i below is same =
    let left : length (drop i xs) ≡ length xs - i = length-drop i xs in
    (take i xs, drop i xs, (λ none. omega (arith, ap length none, left)), sym (take-append-drop i xs), same ∙ is)

-- bytes with more behind them aren't none
some-append : (xs ys : List ℕ) → xs ≢ [] → xs ++ ys ≢ []
some-append [] ys some = λ none. some refl
some-append (x ∷ xs) ys some = λ none. cc

-- not all of what comes next is not all of it and more
pub GainsLess-behind : (old now new done bytes more all : List ℕ)
    → now ≡ gains old done → all ≡ done ++ bytes ++ more → GainsLess now new bytes → GainsLess old new all
GainsLess-behind old now new done bytes more all is parts (part, rest, some, e, g) = (
  done ++ part,
  rest ++ more,
  some-append rest more some,
  parts
      ∙ grind (arith, common_steps, e),
  g
      ∙ ap (λ o. gains o part) is
      ∙ gains-append old done part,
)

-- the same where a call answered a fault
pub OnErr-GainsLess-behind : {T E : Type 0} (r : Result T E) (old now new done bytes more all : List ℕ)
    → now ≡ gains old done → all ≡ done ++ bytes ++ more → GainsLess now new bytes → OnErr r (GainsLess old new all)
OnErr-GainsLess-behind (Ok value) old now new done bytes more all is parts less = tt
OnErr-GainsLess-behind (Err fault) old now new done bytes more all is parts less =
    GainsLess-behind old now new done bytes more all is parts less

-- for a loop that offers a slice from a place on
pub ruleset slices = (gains-append, gains-nil, gains-step, OnErr-GainsLess-take)
