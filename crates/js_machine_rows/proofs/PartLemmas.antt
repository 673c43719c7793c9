-- Lemmas on the parts that a task keeps.
use Rattle.std.proofs.Common.{◌≡◌, ℕ, zero, suc, ◌+◌, ◌-◌, ◌<◌, ◌≤◌, List, [], ◌∷◌, take, drop, Some, None, refl, sym, ap, ◌∙◌, arith}
use Rattle.std.specs.Prelude.{slice_get}
use Rattle.js_semantics.specs.Terms.{Term, end, more}
use Rattle.js_machine_nodes.specs.declared.table.NodeTable.{NodeTable}
use Rattle.js_machine_nodes.specs.Trees.{tree, trees, terms, kids_between}

-- ---- by index

get_take : {A : Type 0} (xs : List A) (n i : ℕ) → i < n → slice_get (take n xs) i ≡ slice_get xs i
get_take xs zero i h = absurd (omega arith)
get_take [] (suc n) i h = refl
get_take (x ∷ xs) (suc n) zero h = refl
get_take (x ∷ xs) (suc n) (suc i) h = get_take xs n i (omega arith)

get_past : {A : Type 0} (xs : List A) (n i : ℕ) → n ≤ i → slice_get (take n xs) i ≡ None
get_past xs zero i h = refl
get_past [] (suc n) i h = refl
get_past (x ∷ xs) (suc n) zero h = absurd (omega arith)
get_past (x ∷ xs) (suc n) (suc i) h = get_past xs n i (omega arith)

get_drop : {A : Type 0} (xs : List A) (m i : ℕ) → slice_get (drop m xs) i ≡ slice_get xs (m + i)
get_drop xs zero i = let e : i ≡ 0 + i = omega arith in ap (λ n. slice_get xs n) e
get_drop [] (suc m) i = refl
get_drop (x ∷ xs) (suc m) i =
    let e : suc (m + i) ≡ suc m + i = omega arith in
    get_drop xs m i ∙ ap (λ n. slice_get (x ∷ xs) n) e

pub part-within : (ks : List ℕ) (from to i : ℕ)
    → from + i < to
    → slice_get ks (from + i) ≡ slice_get (take (to - from) (drop from ks)) i
part-within ks from to i h = sym (get_take (drop from ks) (to - from) i (omega arith) ∙ get_drop ks from i)

pub part-past : (ks : List ℕ) (from to i : ℕ) → to ≤ from + i → None ≡ slice_get (take (to - from) (drop from ks)) i
part-past ks from to i h = sym (get_past (drop from ks) (to - from) i (omega arith))

-- ---- trees of parts

terms_none : (f : ℕ → Term) (ks : List ℕ) → None ≡ slice_get ks 0 → terms f ks ≡ end
terms_none f [] h = refl
terms_none f (k ∷ ks) h = cc

terms_one : (f : ℕ → Term) (ks : List ℕ) (k : ℕ)
    → Some k ≡ slice_get ks 0
    → terms f ks ≡ more (f k) (terms f (drop 1 ks))
terms_one f [] k h = cc
terms_one f (j ∷ ks) k h = ap (λ x. more (f x) (terms f ks)) (cc)

terms_two : (f : ℕ → Term) (ks : List ℕ) (k l : ℕ)
    → Some k ≡ slice_get ks 0
    → Some l ≡ slice_get ks 1
    → terms f ks ≡ more (f k) (more (f l) (terms f (drop 2 ks)))
terms_two f [] k l h g = cc
terms_two f (j ∷ []) k l h g = cc
terms_two f (j ∷ i ∷ ks) k l h g =
    ap (λ x. more (f x) (more (f i) (terms f ks))) (cc) ∙ ap (λ x. more (f k) (more (f x) (terms f ks))) (cc)

-- no parts
pub no-trees : (ts : List (List ℕ)) (t : NodeTable) (from to : ℕ)
    → None ≡ slice_get (kids_between t from to) 0
    → trees ts t from to ≡ end
no-trees ts t from to h = terms_none (tree ts t) (kids_between t from to) h

-- a part, and others
pub first-tree : (ts : List (List ℕ)) (t : NodeTable) (from to k : ℕ)
    → Some k ≡ slice_get (kids_between t from to) 0
    → trees ts t from to ≡ more (tree ts t k) (terms (tree ts t) (drop 1 (kids_between t from to)))
first-tree ts t from to k h = terms_one (tree ts t) (kids_between t from to) k h

-- two parts, and others
pub first-trees : (ts : List (List ℕ)) (t : NodeTable) (from to k l : ℕ)
    → Some k ≡ slice_get (kids_between t from to) 0
    → Some l ≡ slice_get (kids_between t from to) 1 →
    trees ts t from to ≡ more (tree ts t k) (more (tree ts t l) (terms (tree ts t) (drop 2 (kids_between t from to))))
first-trees ts t from to k l h g = terms_two (tree ts t) (kids_between t from to) k l h g
