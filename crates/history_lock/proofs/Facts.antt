-- Lists of entries, and of views.
use Rattle.std.proofs.Common.{◌≡◌, ◌≢◌, ◌⊎◌, ℕ, zero, suc, ◌+◌, ◌≤◌, ◌==◌, List, [], ◌∷◌, ◌++◌, length, set, ◌||◌, Bool, true, false, true≢false, if◌then◌else◌, refl, sym, ap, ◌∙◌, subst, ⊎_elim, inl, inr, arith, length-append, eq-eqb, ne_eqb}
use mathlib.Core.Option.{some, some-ne-none, some-injective}
use mathlib.Core.Logic.{dite}
use native.Mathlib.Decide.{ℕ_discrete}
use lib.ListN.{get_elem?}
use Rattle.atomic_table.proofs.Lists.{at_set}
use Rattle.history_lock.specs.Histories.{has, by, made, Begins}
use Rattle.history_lock.specs.Rule.{total}

pub append_nil : {A : Type 0} (xs : List A) → xs ++ [] ≡ xs
append_nil [] = refl
append_nil (x ∷ xs) = ap (λ l. x ∷ l) (append_nil xs)

pub append_assoc : {A : Type 0} (xs ys zs : List A) → (xs ++ ys) ++ zs ≡ xs ++ (ys ++ zs)
append_assoc [] ys zs = refl
append_assoc (x ∷ xs) ys zs = ap (λ l. x ∷ l) (append_assoc xs ys zs)

pub begins_same : {A : Type 0} (xs : List A) → Begins xs xs
begins_same xs = ([], sym (append_nil xs))

pub begins_nil : {A : Type 0} (xs : List A) → Begins [] xs
begins_nil xs = (xs, refl)

pub begins_more : {A : Type 0} (xs ys zs : List A) → Begins xs ys → Begins xs (ys ++ zs)
begins_more xs ys zs b = (b.0 ++ zs, ap (λ l. l ++ zs) b.1 ∙ append_assoc xs b.0 zs)

pub begins_length : {A : Type 0} (xs ys : List A) → Begins xs ys → length xs ≤ length ys
begins_length xs ys b = let e : length ys ≡ length xs + length b.0 = ap length b.1 ∙ length-append xs b.0 in omega (arith, e)

-- of two beginnings of one list the shorter begins the longer
pub begins_both : {A : Type 0} (xs ys zs : List A) → Begins xs zs → Begins ys zs → length xs ≤ length ys → Begins xs ys
begins_both [] ys zs b c le = (ys, refl)
begins_both (x ∷ xs) [] zs b c le = absurd (omega arith)
begins_both (x ∷ xs) (y ∷ ys) [] b c le = absurd (cc)
begins_both {A} (x ∷ xs) (y ∷ ys) (z ∷ zs) b c le =
    let head : List A → A = λ l. first_or x l in
    let hx : z ≡ x = ap head b.1 in
    let hy : z ≡ y = ap head c.1 in
    let t = begins_both xs ys zs (b.0, ap rest_of b.1) (c.0, ap rest_of c.1) (omega arith) in
    (t.0, λ i. (sym hy ∙ hx) i ∷ t.1 i)
  where
    first_or : {A : Type 0} → A → List A → A
    first_or x [] = x
    first_or x (y ∷ ys) = y

    rest_of : {A : Type 0} → List A → List A
    rest_of [] = []
    rest_of (y ∷ ys) = ys

pub by_append : {E : Type 0} (x : ℕ) (es fs : List (ℕ × E)) → by x (es ++ fs) ≡ by x es ++ by x fs
by_append x [] fs = refl
by_append {E} x (e ∷ es) fs = by_step e.1 (by x (es ++ fs)) (by x es) (by x fs) (e.0 == x) (by_append x es fs)
  where
    by_step : (a : E) (l m n : List E) (b : Bool) → l ≡ m ++ n → (if b then a ∷ l else l) ≡ (if b then a ∷ m else m) ++ n
    by_step a l m n true p = ap (λ k. a ∷ k) p
    by_step a l m n false p = p

-- entries of one maker are none of another
pub by_made : {E : Type 0} (x k : ℕ) (es : List E) → k ≢ x → by x (made k es) ≡ []
by_made x k [] apart = refl
by_made x k (e ∷ es) apart = ap (λ (b : Bool). if b then e ∷ by x (made k es) else by x (made k es)) (ne_eqb k x apart) ∙ by_made x k es apart

pub length_made : {E : Type 0} (k : ℕ) (es : List E) → length (made k es) ≡ length es
length_made k [] = refl
length_made k (e ∷ es) = ap suc (length_made k es)

-- what is behind a beginning that has all of a maker's entries has none of them
pub by_behind : {E : Type 0} (x : ℕ) (seen between log : List (ℕ × E)) → log ≡ seen ++ between → by x log ≡ by x seen → by x between ≡ []
by_behind {E} x seen between log is same = no_more (by x seen) (by x between) (sym same ∙ (ap (by x) is ∙ by_append x seen between))
  where
    no_more : (es fs : List E) → es ≡ es ++ fs → fs ≡ []
    no_more [] fs p = sym p
    no_more (a ∷ es) fs p = no_more es fs (ap rest_of p)
      where
        rest_of : List E → List E
        rest_of [] = []
        rest_of (y ∷ ys) = ys

first_nil : {E : Type 0} (es fs : List E) → es ++ fs ≡ [] → es ≡ []
first_nil [] fs p = refl
first_nil (a ∷ es) fs p = absurd (cc)

-- between a beginning that has all of a maker's entries and the whole, each has the same of it
pub by_within : {E : Type 0} (x : ℕ) (short long log : List (ℕ × E)) → Begins short long → Begins long log → by x log ≡ by x short → by x long ≡ by x short
by_within {E} x short long log b c same =
    let all : log ≡ short ++ (b.0 ++ c.0) = c.1 ∙ (ap (λ l. l ++ c.0) b.1 ∙ append_assoc short b.0 c.0) in
    let none : by x (b.0 ++ c.0) ≡ [] = by_behind x short (b.0 ++ c.0) log all same in
    let front : by x b.0 ≡ [] = first_nil (by x b.0) (by x c.0) (sym (by_append x b.0 c.0) ∙ none) in
    ap (by x) b.1 ∙ (by_append x short b.0 ∙ (ap (λ l. by x short ++ l) front ∙ append_nil (by x short)))

-- a beginning of a history has no entry of a maker of whom the history has none
pub by_none : {E : Type 0} (x : ℕ) (seen log : List (ℕ × E)) → Begins seen log → by x log ≡ [] → by x seen ≡ []
by_none {E} x seen log b none = first_nil (by x seen) (by x b.0) (sym (by_append x seen b.0) ∙ (ap (by x) (sym b.1) ∙ none))

pub not_true : (b : Bool) → (b ≡ true → ⊥) → b ≡ false
not_true true h = absurd (h refl)
not_true false h = refl

-- a list that has no entry of any maker has none
pub by_none_of_all : {E : Type 0} (es : List (ℕ × E)) → ((x : ℕ) → by x es ≡ []) → es ≡ []
by_none_of_all [] none = refl
by_none_of_all {E} (e ∷ es) none =
    let more : by e.0 (e ∷ es) ≡ e.1 ∷ by e.0 es =
    ap (λ (b : Bool). if b then e.1 ∷ by e.0 es else by e.0 es) (eq-eqb e.0 e.0 refl) in
    absurd (cons_not_nil e.1 (by e.0 es) (sym more ∙ none e.0))
  where
    cons_not_nil : (a : E) (fs : List E) → a ∷ fs ≡ [] → ⊥
    cons_not_nil a fs p = absurd (cc)

pub or_true : (a b : Bool) → (a || b) ≡ true → (a ≡ true) ⊎ (b ≡ true)
or_true true b h = inl refl
or_true false b h = inr h

pub has_append : (x : ℕ) (ks ls : List ℕ) → has x (ks ++ ls) ≡ true → (has x ks ≡ true) ⊎ (has x ls ≡ true)
has_append x [] ls h = inr h
has_append x (k ∷ ks) ls h = by_case (has x (ks ++ ls)) (has x ks) (has x ls) (k == x) (has_append x ks ls) h
  where
    by_case : (m n o : Bool) (b : Bool) → (m ≡ true → (n ≡ true) ⊎ (o ≡ true)) → (if b then true else m) ≡ true → ((if b then true else n) ≡ true) ⊎ (o ≡ true)
    by_case m n o true rest h = inl refl
    by_case m n o false rest h = rest h

pub has_front : (x : ℕ) (ks ls : List ℕ) → has x ks ≡ true → has x (ks ++ ls) ≡ true
has_front x [] ls h = absurd (true≢false (sym h))
has_front x (k ∷ ks) ls h = by_case (has x ks) (has x (ks ++ ls)) (k == x) (has_front x ks ls) h
  where
    by_case : (m n : Bool) (b : Bool) → (m ≡ true → n ≡ true) → (if b then true else m) ≡ true → (if b then true else n) ≡ true
    by_case m n true rest h = refl
    by_case m n false rest h = rest h

pub has_behind : (x : ℕ) (ks ls : List ℕ) → has x ls ≡ true → has x (ks ++ ls) ≡ true
has_behind x [] ls h = h
has_behind x (k ∷ ks) ls h = by_case (has x (ks ++ ls)) (k == x) (has_behind x ks ls h)
  where
    by_case : (n : Bool) (b : Bool) → n ≡ true → (if b then true else n) ≡ true
    by_case n true h = refl
    by_case n false h = h

pub has_one : (x k : ℕ) → has x (k ∷ []) ≡ true → k ≡ x
has_one x k h = dite (ℕ_discrete k x) (λ e. e) (λ ne. absurd (true≢false (sym h ∙ ap (λ (b : Bool). if b then true else false) (ne_eqb k x ne))))

pub has_same : (k : ℕ) → has k (k ∷ []) ≡ true
has_same k = ap (λ (b : Bool). if b then true else false) (eq-eqb k k refl)

module _ {V : Type 0} where
  pub total_set : (f : V → ℕ) (views : List V) (i : ℕ) (v w : V) → get_elem? views i ≡ some v → total f (set views i w) + f v ≡ total f views + f w
  total_set f [] i v w e = absurd (some-ne-none v (sym e))
  total_set f (x ∷ xs) zero v w e = let same : f x ≡ f v = ap f (some-injective x v e) in omega (arith, same)
  total_set f (x ∷ xs) (suc i) v w e = let t = total_set f xs i v w e in omega (arith, t)

  pub total_snoc : (f : V → ℕ) (views : List V) (w : V) → total f (views ++ w ∷ []) ≡ total f views + f w
  total_snoc f [] w = omega arith
  total_snoc f (x ∷ xs) w = let t = total_snoc f xs w in omega (arith, t)

  pub total_none : (f : V → ℕ) (views : List V) → ((j : ℕ) (u : V) → get_elem? views j ≡ some u → f u ≡ 0)
      → total f views ≡ 0
  total_none f [] none = refl
  total_none f (x ∷ xs) none =
      let a = none 0 x refl in
      let b = total_none f xs (λ j u e. none (suc j) u e) in omega (arith, a, b)

  -- what holds of one view and of all the others holds of each
  pub each_set : (F : ℕ → V → Type 0) (views : List V) (id : ℕ) (w : V) → ((j : ℕ) (u : V) → j ≢ id → get_elem? views j ≡ some u → F j u) → F id w
      → (j : ℕ) (u : V) → get_elem? (set views id w) j ≡ some u → F j u
  each_set F views id w others mine j u e =
      ⊎_elim
      (λ (x : (j ≡ id) × (w ≡ u)). subst (λ (y : ℕ × V). F y.0 y.1) (λ i. (sym x.0 i, x.1 i)) mine)
      (λ (x : (j ≢ id) × (get_elem? views j ≡ some u)). others j u x.0 x.1)
      (at_set views id j w u e)

  pub set_there : (views : List V) (i : ℕ) (v w : V) → get_elem? views i ≡ some v → get_elem? (set views i w) i ≡ some w
  set_there [] i v w e = absurd (some-ne-none v (sym e))
  set_there (x ∷ xs) zero v w e = refl
  set_there (x ∷ xs) (suc i) v w e = set_there xs i v w e

  pub set_other : (views : List V) (i j : ℕ) (w : V) → j ≢ i → get_elem? (set views i w) j ≡ get_elem? views j
  set_other [] i j w ne = refl
  set_other (x ∷ xs) zero zero w ne = absurd (ne refl)
  set_other (x ∷ xs) zero (suc j) w ne = refl
  set_other (x ∷ xs) (suc i) zero w ne = refl
  set_other (x ∷ xs) (suc i) (suc j) w ne = set_other xs i j w (λ e. ne (ap suc e))

  pub set_swap : (views : List V) (i j : ℕ) (v w : V) → i ≢ j → set (set views i v) j w ≡ set (set views j w) i v
  set_swap [] i j v w ne = refl
  set_swap (x ∷ xs) zero zero v w ne = absurd (ne refl)
  set_swap (x ∷ xs) zero (suc j) v w ne = refl
  set_swap (x ∷ xs) (suc i) zero v w ne = refl
  set_swap (x ∷ xs) (suc i) (suc j) v w ne = ap (λ l. x ∷ l) (set_swap xs i j v w (λ e. ne (ap suc e)))

  snoc_at : (views : List V) (v w : V) (j : ℕ) → get_elem? (views ++ v ∷ []) j ≡ some w → (get_elem? views j ≡ some w) ⊎ ((j ≡ length views) × (v ≡ w))
  snoc_at [] v w zero e = inr (refl, some-injective v w e)
  snoc_at [] v w (suc j) e = absurd (some-ne-none w (sym e))
  snoc_at (x ∷ xs) v w zero e = inl e
  snoc_at (x ∷ xs) v w (suc j) e = ⊎_elim (λ h. inl h) (λ (h : (j ≡ length xs) × (v ≡ w)). inr (ap suc h.0, h.1)) (snoc_at xs v w j e)

  -- what holds of each past view and of the new one
  pub each_snoc : (F : ℕ → V → Type 0) (views : List V) (v : V) → ((j : ℕ) (u : V) → get_elem? views j ≡ some u → F j u) → F (length views) v
      → (j : ℕ) (u : V) → get_elem? (views ++ v ∷ []) j ≡ some u → F j u
  each_snoc F views v past new j u e = ⊎_elim (past j u) (λ (h : (j ≡ length views) × (v ≡ u)). subst (λ (y : ℕ × V). F y.0 y.1) (λ i. (sym h.0 i, h.1 i)) new) (snoc_at views v u j e)
