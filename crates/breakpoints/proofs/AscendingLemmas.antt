-- Lists whose values ascend by an order: what a search finds there, and what a value more or less leaves.
use Rattle.std.proofs.Common.{◌≡◌, ℕ, zero, suc, ◌+◌, Bool, true, false, not, ◌&&◌, ◌||◌, cond, List, [], ◌∷◌, length, get_or, Ordering, Less, Equal, Greater, is_eq, is_lt, Result, Ok, Err, refl, sym, ap, ap₂, ◌∙◌, inl, inr, arith, is_ok, true≢false}
use Rattle.std.specs.Ordering.{match_ordering, ordering_index, ordering_reverse}
use Rattle.std.specs.Cmp.{IsTotalOrder, Equal-is}
use Rattle.std.specs.List.{list_any, insert, remove, AllByRecursion}
use Rattle.std.specs.List.Sorted.{IsStrictlySortedBy, IsSortedBy, IsNonDecreasingBy, IsBinarySearchResult, IsSearchInRange}
use Rattle.std.specs.BTreeMap.{is_at}
use Rattle.std.specs.BTreeSet.{insert_key}
use Rattle.std.specs.Set.{remove_key}
use Rattle.std.proofs.lemmas.Bool.{cases_lt}
use Rattle.std.proofs.lemmas.Cmp.{tied_back, alike_right}
use Rattle.std.proofs.lemmas.List.Folds.{list_any_none, list_any_at}
use Rattle.std.proofs.lemmas.List.Sorted.{searchable_from_sorted}
use Rattle.std.proofs.lemmas.Map.Keys.{Less-from_sorted, sorted_tail}
use Rattle.breakpoints.specs.Ascending.{IsSearched, Parts, Stands}

pub none-sorted : {K : Type 0} (R : K → K → Ordering) → IsStrictlySortedBy R []
unfolding IsStrictlySortedBy
none-sorted R = tt

-- ---- tests

whole : (b : Bool) → b ≡ (b && true)
whole true = refl
whole false = refl

none : (b : Bool) → false ≡ (b && false)
none true = refl
none false = refl

-- a value that is taken out was tested alike
left : (t u h : Bool) → u ≡ t → (t ≡ true → h ≡ false) → h ≡ ((u || h) && not t)
left true u h e f = f refl ∙ none (u || h)
left false true h e f = absurd (true≢false e)
left false false h e f = whole h

-- one that stays wasn't
passed : (t u h k : Bool) → (t ≡ true → u ≡ false) → k ≡ (h && not t) → (u || k) ≡ ((u || h) && not t)
passed true true h k f e = absurd (true≢false (f refl))
passed true false h k f e = e
passed false true h k f e = refl
passed false false h k f e = e

module _ {K : Type 0} {R : K → K → Ordering} (o : IsTotalOrder R) where
  -- ---- the order

  greater : (x y : K) → R x y ≡ Less → R y x ≡ Greater
  greater x y h = o.antisymm y x ∙ ap ordering_reverse h

  less : (x y : K) → R x y ≡ Greater → R y x ≡ Less
  less x y h = o.antisymm y x ∙ ap ordering_reverse h

  rises : (xs : List K) → IsStrictlySortedBy R xs → IsSortedBy (λ x y. is_lt (R x y)) xs
  rises xs s k d low h = ap is_lt (greater _ _ (Less-from_sorted R xs k (k + 1) d s (omega arith) h))

  pub searchable : (xs : List K) (x : K)
      → IsStrictlySortedBy R xs
      → IsNonDecreasingBy (λ y. ordering_index (R y x)) xs
  searchable xs x s = searchable_from_sorted o (λ y. y) xs x (rises xs s)

  -- ---- what a search finds

  pub has-standing : (xs : List K) (x : K) (i : ℕ) → Stands R xs x i → list_any (is_at (R x)) xs ≡ true
  has-standing xs x i s = list_any_at (is_at (R x)) xs i x s.0 (ap is_eq (tied_back o _ _ (s.1 x)))

  pub has-parted : (xs : List K) (x : K) (i : ℕ) → Parts R xs x i → list_any (is_at (R x)) xs ≡ false
  has-parted xs x i p =
      list_any_none (is_at (R x)) xs
      (λ k d h. elim (cases_lt k i) [
        | inl below ↦ ap is_eq (greater _ _ (p.1.0 k d (omega arith) below))
        | inr above ↦ ap is_eq (less _ _ (p.1.1 k d above h))
      ])

  pub has-searched : (xs : List K) (x : K) (r : Result ℕ ℕ)
      → IsSearched R xs x r
      → is_ok r ≡ list_any (is_at (R x)) xs
  has-searched xs x (Ok i) s = sym (has-standing xs x i s)
  has-searched xs x (Err i) s = sym (has-parted xs x i s)

  pub searched : (xs : List K) (x : K) (r : Result ℕ ℕ)
      → IsStrictlySortedBy R xs
      → IsSearchInRange r (length xs)
      → IsBinarySearchResult (λ y. R y x) xs r
      → IsSearched R xs x r
  searched xs x (Ok i) s within found = (within, found)
  searched xs x (Err i) s within found = (within, found (searchable xs x s))

  -- what is found in a list that needn't ascend is there
  pub has-found : (xs : List K) (x : K) (r : Result ℕ ℕ)
      → IsSearchInRange r (length xs)
      → IsBinarySearchResult (λ y. R y x) xs r
      → is_ok r ≡ true
      → list_any (is_at (R x)) xs ≡ true
  has-found xs x (Ok i) within found e = has-standing xs x i (within, found)
  has-found xs x (Err i) within found e = absurd (true≢false (sym e))

  -- ---- a value more

  tail-stands : (y : K) (ys : List K) (x : K) (i : ℕ) → Stands R (y ∷ ys) x (suc i) → Stands R ys x i
  tail-stands y ys x i s = (omega (arith, s.0), λ d. s.1 d)

  tail-parts : (y : K) (ys : List K) (x : K) (i : ℕ) → Parts R (y ∷ ys) x (suc i) → Parts R ys x i
  tail-parts y ys x i p = (
    omega (arith, p.0),
    (λ k d a b. p.1.0 (suc k) d (omega arith) (omega arith), λ k d a b. p.1.1 (suc k) d (omega arith) (omega arith)),
  )

  -- a value before one that stands behind it is below that one
  head-below : (y : K) (ys : List K) (x : K) (i : ℕ) → IsStrictlySortedBy R (y ∷ ys) → Stands R ys x i → R x y ≡ Greater
  head-below y ys x i s at =
      greater y x
      (sym (alike_right o (get_or ys i x) x y (at.1 x))
      ∙ Less-from_sorted R (y ∷ ys) 0 (suc i) x s (omega arith) (omega (arith, at.0)))

  pub put-standing : (xs : List K) (x : K) (i : ℕ)
      → IsStrictlySortedBy R xs
      → Stands R xs x i
      → insert_key R xs x ≡ xs
  put-standing [] x i s at = absurd (omega (arith, at.0))
  put-standing (y ∷ ys) x zero s at =
      ap (λ r. match_ordering r (x ∷ y ∷ ys) (y ∷ ys) (y ∷ insert_key R ys x)) (tied_back o y x (at.1 x))
  put-standing (y ∷ ys) x (suc i) s at =
      let behind = tail-stands y ys x i at in
      ap (λ r. match_ordering r (x ∷ y ∷ ys) (y ∷ ys) (y ∷ insert_key R ys x)) (head-below y ys x i s behind)
      ∙ ap (λ l. y ∷ l) (put-standing ys x i (sorted_tail R y ys s) behind)

  pub put-parted : (xs : List K) (x : K) (i : ℕ) → Parts R xs x i → insert xs i x ≡ insert_key R xs x
  put-parted [] x zero p = refl
  put-parted [] x (suc i) p = absurd (omega (arith, p.0))
  put-parted (y ∷ ys) x zero p =
      sym (ap (λ r. match_ordering r (x ∷ y ∷ ys) (y ∷ ys) (y ∷ insert_key R ys x))
      (less y x (p.1.1 0 x (omega arith) (omega arith))))
  put-parted (y ∷ ys) x (suc i) p =
      ap (λ l. y ∷ l) (put-parted ys x i (tail-parts y ys x i p))
      ∙ sym (ap (λ r. match_ordering r (x ∷ y ∷ ys) (y ∷ ys) (y ∷ insert_key R ys x))
      (greater y x (p.1.0 0 x (omega arith) (omega arith))))

  all-put : (P : K → Type 0) (xs : List K) (x : K) → AllByRecursion P xs → P x → AllByRecursion P (insert_key R xs x)
  all-put P [] x a p = (p, tt)
  all-put P (y ∷ ys) x a p = at (R x y) (all-put P ys x a.1 p)
    where
      at : (r : Ordering)
          → AllByRecursion P (insert_key R ys x)
          → AllByRecursion P (match_ordering r (x ∷ y ∷ ys) (y ∷ ys) (y ∷ insert_key R ys x))
      at Less h = (p, a)
      at Equal h = a
      at Greater h = (a.0, h)

  all-above : (x y : K) (ys : List K)
      → R x y ≡ Less
      → AllByRecursion (λ z. R y z ≡ Less) ys
      → AllByRecursion (λ z. R x z ≡ Less) ys
  all-above x y [] h a = tt
  all-above x y (z ∷ zs) h a = (o.trans x y z h a.0, all-above x y zs h a.1)

  pub put-sorted : (xs : List K) (x : K) → IsStrictlySortedBy R xs → IsStrictlySortedBy R (insert_key R xs x)
  unfolding IsStrictlySortedBy
  put-sorted [] x s = (tt, tt)
  put-sorted (y ∷ ys) x s = at (R x y) refl (put-sorted ys x s.1)
    where
      at : (r : Ordering)
          → R x y ≡ r
          → IsStrictlySortedBy R (insert_key R ys x)
          → IsStrictlySortedBy R (match_ordering r (x ∷ y ∷ ys) (y ∷ ys) (y ∷ insert_key R ys x))
      at Less e h = ((e, all-above x y ys e s.0), s)
      at Equal e h = s
      at Greater e h = (all-put (λ z. R y z ≡ Less) ys x s.0 (less x y e), h)

  -- what is found with it
  pub has-put : (xs : List K) (x q : K)
      → list_any (is_at (R q)) (insert_key R xs x) ≡ (is_at (R q) x || list_any (is_at (R q)) xs)
  has-put [] x q = refl
  has-put (y ∷ ys) x q = at (R x y) refl (has-put ys x q)
    where
      at : (r : Ordering)
          → R x y ≡ r
          → list_any (is_at (R q)) (insert_key R ys x) ≡ (is_at (R q) x || list_any (is_at (R q)) ys)
          → list_any (is_at (R q)) (match_ordering r (x ∷ y ∷ ys) (y ∷ ys) (y ∷ insert_key R ys x))
          ≡ (is_at (R q) x || (is_at (R q) y || list_any (is_at (R q)) ys))
      at Less e h = refl
      at Equal e h =
          twice (is_at (R q) y) (list_any (is_at (R q)) ys)
          ∙ ap (λ b. b || (is_at (R q) y || list_any (is_at (R q)) ys)) (ap is_eq (sym (alike_right o x y q e)))
        where
          twice : (a b : Bool) → (a || b) ≡ (a || (a || b))
          twice true b = refl
          twice false b = refl
      at Greater e h =
          ap (λ b. is_at (R q) y || b) h
          ∙ swapped (is_at (R q) y) (is_at (R q) x) (list_any (is_at (R q)) ys)
        where
          swapped : (a b c : Bool) → (a || (b || c)) ≡ (b || (a || c))
          swapped true true c = refl
          swapped true false c = refl
          swapped false b c = refl

  -- ---- a value less

  pub take-standing : (xs : List K) (x : K) (i : ℕ)
      → IsStrictlySortedBy R xs
      → Stands R xs x i
      → remove xs i ≡ remove_key (is_at (R x)) xs
  take-standing [] x i s at = absurd (omega (arith, at.0))
  take-standing (y ∷ ys) x zero s at =
      sym (ap (λ b. cond b ys (y ∷ remove_key (is_at (R x)) ys)) (ap is_eq (tied_back o y x (at.1 x))))
  take-standing (y ∷ ys) x (suc i) s at =
      let behind = tail-stands y ys x i at in
      ap (λ l. y ∷ l) (take-standing ys x i (sorted_tail R y ys s) behind)
      ∙ sym (ap (λ b. cond b ys (y ∷ remove_key (is_at (R x)) ys)) (ap is_eq (head-below y ys x i s behind)))

  pub take-absent : (test : K → Bool) (xs : List K) → list_any test xs ≡ false → xs ≡ remove_key test xs
  take-absent test [] n = refl
  take-absent test (y ∷ ys) n = at (test y) (take-absent test ys) n
    where
      at : (b : Bool)
          → (list_any test ys ≡ false → ys ≡ remove_key test ys)
          → (b || list_any test ys) ≡ false
          → y ∷ ys ≡ cond b ys (y ∷ remove_key test ys)
      at true h m = cc
      at false h m = ap (λ l. y ∷ l) (h m)

  all-taken : (P : K → Type 0) (test : K → Bool) (xs : List K)
      → AllByRecursion P xs
      → AllByRecursion P (remove_key test xs)
  all-taken P test [] a = tt
  all-taken P test (y ∷ ys) a = at (test y) (all-taken P test ys a.1)
    where
      at : (b : Bool) → AllByRecursion P (remove_key test ys) → AllByRecursion P (cond b ys (y ∷ remove_key test ys))
      at true h = a.1
      at false h = (a.0, h)

  pub take-sorted : (test : K → Bool) (xs : List K)
      → IsStrictlySortedBy R xs
      → IsStrictlySortedBy R (remove_key test xs)
  unfolding IsStrictlySortedBy
  take-sorted test [] s = tt
  take-sorted test (y ∷ ys) s = at (test y) (take-sorted test ys s.1)
    where
      at : (b : Bool)
          → IsStrictlySortedBy R (remove_key test ys)
          → IsStrictlySortedBy R (cond b ys (y ∷ remove_key test ys))
      at true h = s.1
      at false h = (all-taken (λ z. R y z ≡ Less) test ys s.0, h)

  -- what is found without it
  none-above : (x y q : K) (ys : List K)
      → R x y ≡ Equal
      → R q x ≡ Equal
      → AllByRecursion (λ z. R y z ≡ Less) ys
      → list_any (is_at (R q)) ys ≡ false
  none-above x y q [] e f a = refl
  none-above x y q (z ∷ zs) e f a =
      ap₂ (λ b c. b || c) (ap is_eq (o.congr q x z f ∙ o.congr x y z e ∙ a.0)) (none-above x y q zs e f a.1)

  pub has-taken : (xs : List K) (x q : K)
      → IsStrictlySortedBy R xs
      → list_any (is_at (R q)) (remove_key (is_at (R x)) xs) ≡ (list_any (is_at (R q)) xs && not (is_at (R q) x))
  unfolding IsStrictlySortedBy
  has-taken [] x q s = refl
  has-taken (y ∷ ys) x q s = at (is_at (R x) y) refl (has-taken ys x q s.1)
    where
      at : (b : Bool)
          → is_at (R x) y ≡ b
          → list_any (is_at (R q)) (remove_key (is_at (R x)) ys) ≡ (list_any (is_at (R q)) ys && not (is_at (R q) x))
          → list_any (is_at (R q)) (cond b ys (y ∷ remove_key (is_at (R x)) ys))
          ≡ ((is_at (R q) y || list_any (is_at (R q)) ys) && not (is_at (R q) x))
      at true e h =
          let same = (Equal-is (R x y)).0 e in
          left (is_at (R q) x) (is_at (R q) y) (list_any (is_at (R q)) ys) (ap is_eq (sym (alike_right o x y q same)))
          (λ f. none-above x y q ys same ((Equal-is (R q x)).0 f) s.0)
      at false e h =
          passed (is_at (R q) x) (is_at (R q) y) (list_any (is_at (R q)) ys)
          (list_any (is_at (R q)) (remove_key (is_at (R x)) ys))
          (λ f. ap is_eq (o.congr q x y ((Equal-is (R q x)).0 f)) ∙ e) h
