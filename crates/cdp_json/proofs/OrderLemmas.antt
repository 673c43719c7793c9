-- The order of members, as places and as the members themselves.
use Rattle.std.proofs.Common.{◌≡◌, ℕ, suc, ◌+◌, ◌-◌, ◌≤◌, ◌<◌, List, [], ◌∷◌, ◌++◌, length, get_or, map, zero, refl, sym, ap, ◌∙◌, arith, subst, Bor, Ordering, Less, Equal, Greater}
use Rattle.std.specs.Prelude.{true, false, not, ◌&&◌, Some, fold, All}
use Rattle.std.specs.Ordering.{is_gt, is_some_and, nat_cmp, match_ordering, ordering_reverse, ordering_then}
use Rattle.std.specs.Cmp.{nat_cmp_is, tied_itself, upto}
use Rattle.std.specs.Cmp.Lexicographic.{lists_agrees, slice_cmp, slice_partial_cmp}
use Rattle.std.proofs.lemmas.Bool.{and_parts, true≢false, not-true}
use Rattle.std.proofs.lemmas.Cmp.{nat_list_cmp_total}
use Rattle.std.specs.List.{range_with_len}
use Rattle.std.proofs.lemmas.List.Sums.{fold-append}
use Rattle.std.proofs.lemmas.Map.Views.{All-insert_key}
use Rattle.std.specs.BTreeSet.{insert_key}
use Rattle.cdp_json.specs.KeyOrder.{ascends, insert_by, in_order, key_at, order_of}
use Rattle.cdp_text.proofs.ListLemmas.{range-more}

-- ---- the order of what a function gives

match_map : {A B : Type 0} (f : A → B) (o : Ordering) (x : A) (y : A) (ys zs : List A) (ws : List B)
    → ws ≡ map f zs
    → match_ordering o (f x ∷ f y ∷ map f ys) (f y ∷ ws) (f y ∷ ws) ≡ map f
    (match_ordering o (x ∷ y ∷ ys) (y ∷ zs) (y ∷ zs))
match_map f Less x y ys zs ws e = refl
match_map f Equal x y ys zs ws e = ap (λ r. f y ∷ r) e
match_map f Greater x y ys zs ws e = ap (λ r. f y ∷ r) e

insert_by-map : {A B : Type 0} (f : A → B) (key : B → List ℕ) (x : A) (ys : List A)
    → insert_by key (f x) (map f ys) ≡ map f (insert_by (λ a. key (f a)) x ys)
insert_by-map f key x [] = refl
insert_by-map f key x (y ∷ ys) =
    match_map f (slice_cmp nat_cmp (key (f x)) (key (f y))) x y ys (insert_by (λ a. key (f a)) x ys)
    (insert_by key (f x) (map f ys)) (insert_by-map f key x ys)

ordered_onto : {A B : Type 0} (f : A → B) (key : B → List ℕ) (done xs : List A)
    → fold (λ ys y. insert_by key y ys) (map f done) (map f xs) ≡ map f
    (fold (λ ys y. insert_by (λ a. key (f a)) y ys) done xs)
ordered_onto f key done [] = refl
ordered_onto f key done (x ∷ xs) =
    ap (λ ys. fold (λ ys y. insert_by key y ys) ys (map f xs)) (insert_by-map f key x done)
    ∙ ordered_onto f key (insert_by (λ a. key (f a)) x done) xs

pub in_order-map : {A B : Type 0} (f : A → B) (key : B → List ℕ) (xs : List A)
    → in_order key (map f xs) ≡ map f (in_order (λ a. key (f a)) xs)
in_order-map f key xs = ordered_onto f key [] xs

-- ---- places

-- what stands at the places is the list
pub at_places : {A : Type 0} (f : ℕ → A) (xs : List A) (a : ℕ) (d : A)
    → ((i : ℕ) → i < length xs → f (a + i) ≡ get_or xs i d)
    → map f (range_with_len a (length xs)) ≡ xs
at_places f [] a d h = refl
at_places f (x ∷ xs) a d h =
    ap (λ y. y ∷ map f (range_with_len (a + 1) (length xs))) (ap f (omega arith) ∙ h 0 (omega arith))
    ∙ ap (λ ys. x ∷ ys) (at_places f xs (a + 1) d (λ i lt. ap f (omega arith) ∙ h (suc i) (omega (arith, lt))))

-- ---- one place more

abbrev pub Placed : List (List ℕ) → ℕ → List (Bor (List ℕ) × ℕ) → Type 0
Placed keys n xs = All (λ x. (x.0.now ≡ key_at keys x.1) × (x.1 < n)) xs

abbrev pub pair_cmp : Bor (List ℕ) × ℕ → Bor (List ℕ) × ℕ → Ordering
pair_cmp x y = ordering_then (slice_cmp nat_cmp x.0.now y.0.now) (nat_cmp x.1 y.1)

one_place : (o p : Ordering) (k x : Bor (List ℕ) × ℕ) (xs more : List (Bor (List ℕ) × ℕ)) (ws : List ℕ)
    → p ≡ Greater
    → map (λ y. y.1) more ≡ ws
    → map (λ y. y.1) (match_ordering (ordering_then o p) (k ∷ x ∷ xs) (x ∷ xs) (x ∷ more))
    ≡ match_ordering o (k.1 ∷ x.1 ∷ map (λ y. y.1) xs) (x.1 ∷ ws) (x.1 ∷ ws)
one_place Less p k x xs more ws h e = refl
one_place Equal p k x xs more ws h e = rw h (ap (λ r. x.1 ∷ r) e)
one_place Greater p k x xs more ws h e = ap (λ r. x.1 ∷ r) e

pub insert_place : (keys : List (List ℕ)) (k : Bor (List ℕ) × ℕ) (xs : List (Bor (List ℕ) × ℕ))
    → k.0.now ≡ key_at keys k.1
    → Placed keys k.1 xs
    → map (λ x. x.1) (insert_key pair_cmp xs k) ≡ insert_by (key_at keys) k.1 (map (λ x. x.1) xs)
insert_place keys k [] is all = refl
insert_place keys k (x ∷ xs) is all =
    one_place (slice_cmp nat_cmp k.0.now x.0.now) (nat_cmp k.1 x.1) k x xs (insert_key pair_cmp xs k)
    (insert_by (key_at keys) k.1 (map (λ y. y.1) xs)) (sym (nat_cmp_is k.1 x.1 Greater (all 0 x (omega arith)).1))
    (insert_place keys k xs is (λ i d lt. all (suc i) d (omega (arith, lt))))
    ∙ ap (λ o. match_ordering o (k.1 ∷ x.1 ∷ map (λ y. y.1) xs) (x.1 ∷ insert_by (key_at keys) k.1 (map (λ y. y.1) xs))
    (x.1 ∷ insert_by (key_at keys) k.1 (map (λ y. y.1) xs)))
    (ap (λ s. slice_cmp nat_cmp s x.0.now) is ∙ ap (slice_cmp nat_cmp (key_at keys k.1)) (all 0 x (omega arith)).0)

pub still_placed : (keys : List (List ℕ)) (k : Bor (List ℕ) × ℕ) (xs : List (Bor (List ℕ) × ℕ))
    → k.0.now ≡ key_at keys k.1
    → Placed keys k.1 xs
    → Placed keys (k.1 + 1) (insert_key pair_cmp xs k)
still_placed keys k xs is all =
    All-insert_key pair_cmp k (λ x. (x.0.now ≡ key_at keys x.1) × (x.1 < k.1 + 1)) xs
    (λ i d lt. let there = all i d lt in (there.0, omega (arith, there.1))) (is, omega arith)

pub in_order-place : (key : ℕ → List ℕ) (n : ℕ)
    → in_order key (range_with_len 0 (n + 1)) ≡ insert_by key n (in_order key (range_with_len 0 n))
in_order-place key n =
    let next : n + 1 ≡ suc n = omega arith in
    let last : 0 + n ≡ n = omega arith in
    ap (λ m. in_order key (range_with_len 0 m)) next
    ∙ ap (in_order key) (range-more 0 n)
    ∙ fold-append (λ done x. insert_by key x done) [] (range_with_len 0 n) ((0 + n) ∷ [])
    ∙ ap (λ i. insert_by key i (in_order key (range_with_len 0 n))) last

pub places_below : (keys : List (List ℕ)) (n : ℕ) (xs : List (Bor (List ℕ) × ℕ))
    → Placed keys n xs
    → All (λ place. place < n) (map (λ x. x.1) xs)
places_below keys n [] all k d lt = omega (arith, lt)
places_below keys n (x ∷ xs) all zero d lt = (all 0 x (omega arith)).1
places_below keys n (x ∷ xs) all (suc k) d lt =
    places_below keys n xs (λ i e l. all (suc i) e (omega (arith, l))) k d (omega (arith, lt))

-- ---- keys that ascend

-- the test of two texts
pub greater : (xs ys : List ℕ)
    → is_some_and is_gt (slice_partial_cmp (λ x y. Some (nat_cmp x y)) xs ys) ≡ is_gt (slice_cmp nat_cmp xs ys)
greater xs ys = ap (is_some_and is_gt) (lists_agrees (λ x y. refl) xs ys)

pub falls : (key next : List ℕ) (keys : List (List ℕ))
    → is_gt (slice_cmp nat_cmp key next) ≡ true
    → ascends (key ∷ next ∷ keys) ≡ false
falls key next keys h = ap (λ b. not b && ascends (next ∷ keys)) h

pub rises : (key next : List ℕ) (keys : List (List ℕ))
    → is_gt (slice_cmp nat_cmp key next) ≡ false
    → ascends (key ∷ next ∷ keys) ≡ ascends (next ∷ keys)
rises key next keys h = ap (λ b. not b && ascends (next ∷ keys)) h

pub only-one : {A : Type 0} (f : A → List ℕ) (key : List ℕ) (xs : List A)
    → length xs ≡ 0
    → ascends (key ∷ map f xs) ≡ true
only-one f key [] h = refl
only-one f key (x ∷ xs) h = absurd (omega (arith, h))

-- a key behind others that are at most it stays there
last_by : {A : Type 0} (key : A → List ℕ) (x y : A) (ys zs : List A) (o : Ordering) → is_gt (ordering_reverse o) ≡ false
    → zs ≡ ys ++ x ∷ []
    → match_ordering o (x ∷ y ∷ ys) (y ∷ zs) (y ∷ zs) ≡ y ∷ (ys ++ x ∷ [])
last_by key x y ys zs Less h e = absurd (true≢false h)
last_by key x y ys zs Equal h e = ap (λ r. y ∷ r) e
last_by key x y ys zs Greater h e = ap (λ r. y ∷ r) e

insert_last : (key : ℕ → List ℕ) (x a n : ℕ)
    → ((i : ℕ) → a ≤ i → i < a + n → is_gt (slice_cmp nat_cmp (key i) (key x)) ≡ false)
    → insert_by key x (range_with_len a n) ≡ range_with_len a n ++ x ∷ []
insert_last key x a zero below = refl
insert_last key x a (suc n) below =
    last_by key x a (range_with_len (a + 1) n) (insert_by key x (range_with_len (a + 1) n))
    (slice_cmp nat_cmp (key x) (key a))
    (ap is_gt (sym (nat_list_cmp_total.antisymm (key a) (key x))) ∙ below a (omega arith) (omega arith))
    (insert_last key x (a + 1) n (λ i from to. below i (omega (arith, from)) (omega (arith, to))))

next-at_most : (keys : List (List ℕ)) (i : ℕ) → ascends keys ≡ true → suc i < length keys
    → is_gt (slice_cmp nat_cmp (key_at keys i) (key_at keys (suc i))) ≡ false
next-at_most [] i h within = absurd (omega (arith, within))
next-at_most (key ∷ []) i h within = absurd (omega (arith, within))
next-at_most (key ∷ next ∷ keys) zero h within = not-true (is_gt (slice_cmp nat_cmp key next)) (and_parts _ _ h).0
next-at_most (key ∷ next ∷ keys) (suc i) h within =
    next-at_most (next ∷ keys) i (and_parts _ _ h).1 (omega (arith, within))

-- by how many places they are apart
later-at_most : (keys : List (List ℕ)) (i d p : ℕ) → ascends keys ≡ true → p ≡ i + d → p < length keys
    → is_gt (slice_cmp nat_cmp (key_at keys i) (key_at keys p)) ≡ false
later-at_most keys i zero p h is within =
    subst (λ q. is_gt (slice_cmp nat_cmp (key_at keys i) (key_at keys q)) ≡ false) (omega (arith, is))
    (ap is_gt (tied_itself nat_list_cmp_total (key_at keys i)))
later-at_most keys i (suc d) zero h is within = absurd (omega (arith, is))
later-at_most keys i (suc d) (suc p) h is within =
    upto nat_list_cmp_total (key_at keys i) (key_at keys p) (key_at keys (suc p))
    (later-at_most keys i d p h (omega (arith, is)) (omega (arith, within))) (next-at_most keys p h within)

in_order-ascending : (keys : List (List ℕ)) (n : ℕ) → ascends keys ≡ true → n ≤ length keys
    → in_order (key_at keys) (range_with_len 0 n) ≡ range_with_len 0 n
in_order-ascending keys zero h within = refl
in_order-ascending keys (suc n) h within =
    let next : suc n ≡ n + 1 = omega arith in
    let last : n ≡ 0 + n = omega arith in
    ap (λ m. in_order (key_at keys) (range_with_len 0 m)) next
    ∙ in_order-place (key_at keys) n
    ∙ ap (insert_by (key_at keys) n) (in_order-ascending keys n h (omega (arith, within)))
    ∙ insert_last (key_at keys) n 0 n
    (λ i from to. later-at_most keys i (n - i) n h (omega (arith, to)) (omega (arith, within)))
    ∙ ap (λ i. range_with_len 0 n ++ i ∷ []) last
    ∙ sym (range-more 0 n)

pub order-ascending : (keys : List (List ℕ)) → ascends keys ≡ true → order_of keys ≡ range_with_len 0 (length keys)
order-ascending keys h = in_order-ascending keys (length keys) h (omega arith)

pub range-next : (n : ℕ) → range_with_len 0 (n + 1) ≡ range_with_len 0 n ++ n ∷ []
range-next n =
    let next : n + 1 ≡ suc n = omega arith in
    let last : 0 + n ≡ n = omega arith in
    ap (range_with_len 0) next ∙ range-more 0 n ∙ ap (λ i. range_with_len 0 n ++ i ∷ []) last

pub range-below : (a n m : ℕ) → a + n ≡ m → All (λ place. place < m) (range_with_len a n)
range-below a zero m is k d lt = absurd (omega (arith, lt))
range-below a (suc n) m is zero d lt = omega (arith, is)
range-below a (suc n) m is (suc k) d lt = range-below (a + 1) n m (omega (arith, is)) k d (omega (arith, lt))
