-- Lists and tests of their values.
use Rattle.std.proofs.Common.{◌≡◌, ◌≢◌, ℕ, zero, suc, ◌-◌, ◌<◌, Bool, true, false, not, ◌&&◌, ◌||◌, cond, List, [], ◌∷◌, length, get_or, take, drop, map, filter, remove, Some, None, is_some, nat_lt, refl, sym, ap, ◌∙◌, inl, inr, arith, true≢false, length-drop}
use Rattle.std.specs.List.{list_any, position, position_or_len}
use Rattle.std.specs.List.Sorted.{IsPartitionPoint}
use Rattle.std.proofs.lemmas.Bool.{cases_lt, false_from_ne_true, lt-ltb}
use Rattle.std.proofs.lemmas.Bool.Decides.{nat_tests}
use Rattle.std.proofs.lemmas.List.Folds.{list_any_at}
use Rattle.std.proofs.lemmas.List.{take_all}
use Rattle.std.proofs.lemmas.List.Sums.{fails_before_first}

module _ {X : Type 0} where
  -- ---- tests of all

  pub none-at : (test : X → Bool) (xs : List X)
      → list_any test xs ≡ false
      → (k : ℕ) (d : X)
      → k < length xs
      → test (get_or xs k d) ≡ false
  none-at test xs none k d h =
      false_from_ne_true (test (get_or xs k d)) (λ is. true≢false (sym (list_any_at test xs k d h is) ∙ none))

  pub all-stay : (test : X → Bool) (xs : List X)
      → ((k : ℕ) (d : X) → k < length xs → test (get_or xs k d) ≡ false)
      → filter (λ x. not (test x)) xs ≡ xs
  all-stay test [] h = refl
  all-stay test (x ∷ xs) h =
      ap (λ b. cond (not b) (x ∷ filter (λ y. not (test y)) xs) (filter (λ y. not (test y)) xs)) (h 0 x (omega arith))
      ∙ ap (λ ys. x ∷ ys) (all-stay test xs (λ k d l. h (suc k) d (omega arith)))

  -- ---- one value less

  pub only-one : (test : X → Bool) (xs : List X) (i : ℕ)
      → i < length xs
      → ((d : X) → test (get_or xs i d) ≡ true)
      → ((k : ℕ) (d : X) → k < length xs → k ≢ i → test (get_or xs k d) ≡ false)
      → filter (λ x. not (test x)) xs ≡ remove xs i
  only-one test [] i h is others = absurd (omega arith)
  only-one test (x ∷ xs) zero h is others =
      ap (λ b. cond (not b) (x ∷ filter (λ y. not (test y)) xs) (filter (λ y. not (test y)) xs)) (is x)
      ∙ all-stay test xs (λ k d l. others (suc k) d (omega arith) (λ e. omega arith))
  only-one test (x ∷ xs) (suc i) h is others =
      ap (λ b. cond (not b) (x ∷ filter (λ y. not (test y)) xs) (filter (λ y. not (test y)) xs))
      (others 0 x (omega arith) (λ e. omega arith))
      ∙ ap (λ ys. x ∷ ys)
      (only-one test xs i (omega arith) (λ d. is d) (λ k d l n. others (suc k) d (omega arith) (λ e. n (omega arith))))

  pub any-removed : (test : X → Bool) (xs : List X) (i : ℕ) (d : X)
      → i < length xs
      → list_any test xs ≡ (test (get_or xs i d) || list_any test (remove xs i))
  any-removed test [] i d h = absurd (omega arith)
  any-removed test (x ∷ xs) zero d h = refl
  any-removed test (x ∷ xs) (suc i) d h =
      ap (λ b. test x || b) (any-removed test xs i d (omega arith))
      ∙ swapped (test x) (test (get_or xs i d)) (list_any test (remove xs i))
    where
      swapped : (a b c : Bool) → (a || (b || c)) ≡ (b || (a || c))
      swapped true true c = refl
      swapped true false c = refl
      swapped false b c = refl

  -- ---- the place of the first that passes

  pub position-none : (test : X → Bool) (xs : List X)
      → None ≡ position test xs
      → (k : ℕ) (d : X)
      → k < length xs
      → test (get_or xs k d) ≡ false
  position-none test xs e k d h =
      elim (cases_lt (position_or_len test xs) (length xs)) [
        | inl below ↦ absurd (true≢false (sym (ap is_some (e
            ∙ ap (λ b. cond b (Some (position_or_len test xs)) None) (lt-ltb (position_or_len test xs) (length xs) below)))))
        | inr above ↦ fails_before_first test xs k d (omega arith)
      ]

  pub position-within : (test : X → Bool) (xs : List X) (i : ℕ) → position test xs ≡ Some i → i < length xs
  position-within test xs i e =
      elim (cases_lt (position_or_len test xs) (length xs)) [
        | inl below ↦
            let same = sym (ap (λ b. cond b (Some (position_or_len test xs)) None)
            (lt-ltb (position_or_len test xs) (length xs) below)) ∙ e in
            let number = some-same (position_or_len test xs) i same in
            omega (arith, below, number)
        | inr above ↦
            let past : nat_lt (position_or_len test xs) (length xs) ≡ false = grind (arith, nat_tests, above) in
            let none = sym (ap (λ b. cond b (Some (position_or_len test xs)) None) past) ∙ e in
            absurd (true≢false (sym (ap is_some none)))
      ]
    where
      some-same : (m n : ℕ) → Some m ≡ Some n → m ≡ n
      some-same m n e = cc

  -- ---- filters

  pub any-filter : (test keeps : X → Bool) (b : Bool)
      → ((x : X) → test x ≡ true → keeps x ≡ b)
      → (xs : List X)
      → list_any test (filter keeps xs) ≡ (list_any test xs && b)
  any-filter test keeps b h [] = refl
  any-filter test keeps b h (x ∷ xs) = at (keeps x) (test x) refl (h x) (any-filter test keeps b h xs)
    where
      none : (c : Bool) → (c && false) ≡ false
      none true = refl
      none false = refl

      at : (k t : Bool)
          → test x ≡ t
          → (t ≡ true → k ≡ b)
          → list_any test (filter keeps xs) ≡ (list_any test xs && b)
          → list_any test (cond k (x ∷ filter keeps xs) (filter keeps xs)) ≡ ((t || list_any test xs) && b)
      at true true is f e = ap (λ c. c || list_any test (filter keeps xs)) is ∙ f refl
      at true false is f e = ap (λ c. c || list_any test (filter keeps xs)) is ∙ e
      at false true is f e = e ∙ ap (λ c. list_any test xs && c) (sym (f refl)) ∙ none (list_any test xs) ∙ f refl
      at false false is f e = e

  pub filter-twice : (test keeps : X → Bool)
      → ((x : X) → test x ≡ true → keeps x ≡ true)
      → (xs : List X)
      → filter test (filter keeps xs) ≡ filter test xs
  filter-twice test keeps h [] = refl
  filter-twice test keeps h (x ∷ xs) = at (keeps x) (test x) refl (h x) (filter-twice test keeps h xs)
    where
      at : (k t : Bool)
          → test x ≡ t
          → (t ≡ true → k ≡ true)
          → filter test (filter keeps xs) ≡ filter test xs
          → filter test (cond k (x ∷ filter keeps xs) (filter keeps xs)) ≡ cond t (x ∷ filter test xs) (filter test xs)
      at true t is f e = ap (λ b. cond b (x ∷ filter test (filter keeps xs)) (filter test (filter keeps xs))) is
          ∙ ap (λ ys. cond t (x ∷ ys) ys) e
      at false true is f e = absurd (true≢false (sym (f refl)))
      at false false is f e = e

  -- ---- those that pass stand first

  -- those that pass stand before a place, all others from there on
  abbrev pub Splits : (X → Bool) → List X → ℕ → Type 0
  Splits test xs n = IsPartitionPoint (λ x. test x ≡ true) (λ x. test x ≡ false) xs n

  first-passes : (test : X → Bool) (x : X) (xs : List X) (n : ℕ) → Splits test (x ∷ xs) (suc n) → test x ≡ true
  first-passes test x xs n h = h.0 0 x (omega arith) (omega arith)

  rest-splits : (test : X → Bool) (x : X) (xs : List X) (n : ℕ) → Splits test (x ∷ xs) (suc n) → Splits test xs n
  rest-splits test x xs n h =
      (λ k d a b. h.0 (suc k) d (omega arith) (omega arith), λ k d a b. h.1 (suc k) d (omega arith) (omega arith))

  none-first : (test : X → Bool) (x : X) (xs : List X) → Splits test (x ∷ xs) 0 → test x ≡ false
  none-first test x xs h = h.1 0 x (omega arith) (omega arith)

  others-none : (test : X → Bool) (x : X) (xs : List X) → Splits test (x ∷ xs) 0 → Splits test xs 0
  others-none test x xs h = (λ k d a b. absurd (omega arith), λ k d a b. h.1 (suc k) d (omega arith) (omega arith))

  none-split : (test : X → Bool) (xs : List X) → Splits test xs 0 → filter test xs ≡ []
  none-split test [] h = refl
  none-split test (x ∷ xs) h =
      ap (λ b. cond b (x ∷ filter test xs) (filter test xs)) (none-first test x xs h)
      ∙ none-split test xs (others-none test x xs h)

  pub split-taken : (test : X → Bool) (xs : List X) (n : ℕ) → Splits test xs n → filter test xs ≡ take n xs
  split-taken test xs zero h = none-split test xs h
  split-taken test [] (suc n) h = refl
  split-taken test (x ∷ xs) (suc n) h =
      ap (λ b. cond b (x ∷ filter test xs) (filter test xs)) (first-passes test x xs n h)
      ∙ ap (λ ys. x ∷ ys) (split-taken test xs n (rest-splits test x xs n h))

  -- what stands before the place passes, so another test that fails there may leave it out
  pub split-dropped : (test other : X → Bool)
      → ((x : X) → test x ≡ true → other x ≡ false)
      → (xs : List X) (n : ℕ)
      → Splits test xs n
      → filter other xs ≡ filter other (drop n xs)
  split-dropped test other f xs zero h = refl
  split-dropped test other f [] (suc n) h = refl
  split-dropped test other f (x ∷ xs) (suc n) h =
      ap (λ b. cond b (x ∷ filter other xs) (filter other xs)) (f x (first-passes test x xs n h))
      ∙ split-dropped test other f xs n (rest-splits test x xs n h)

  pub rest-none : (test : X → Bool) (xs : List X) (n : ℕ) → Splits test xs n → Splits test (drop n xs) 0
  rest-none test xs zero h = h
  rest-none test [] (suc n) h = (λ k d a b. absurd (omega arith), λ k d a b. absurd (omega arith))
  rest-none test (x ∷ xs) (suc n) h = rest-none test xs n (rest-splits test x xs n h)

-- the slice from a place on
pub slice-from : {X : Type 0} (xs : List X) (n : ℕ) → take (length xs - n) (drop n xs) ≡ drop n xs
slice-from xs n = take_all (length xs - n) (drop n xs) (omega (arith, length-drop n xs))

module _ {X Y : Type 0} (f : X → Y) where
  pub map-drop : (n : ℕ) (xs : List X) → drop n (map f xs) ≡ map f (drop n xs)
  map-drop zero xs = refl
  map-drop (suc n) [] = refl
  map-drop (suc n) (x ∷ xs) = map-drop n xs

  pub map-take : (n : ℕ) (xs : List X) → take n (map f xs) ≡ map f (take n xs)
  map-take zero xs = refl
  map-take (suc n) [] = refl
  map-take (suc n) (x ∷ xs) = ap (λ ys. f x ∷ ys) (map-take n xs)
