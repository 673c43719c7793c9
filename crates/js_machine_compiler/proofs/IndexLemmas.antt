-- What the index of a source finds, after each step of the walk that fills it.
use Rattle.std.proofs.Common.{◌≡◌, ℕ, zero, suc, ◌+◌, ◌-◌, ◌<◌, ◌≤◌, false, List, [], ◌∷◌, ◌++◌, take, drop, length, Option, None, Some, slice_get, refl, sym, ap, subst, ◌∙◌, arith}
use Rattle.std.specs.Prelude.{unwrap_or}
use Rattle.js_semantics.specs.Terms.{Term, Terms, end, more, joined}
use Rattle.js_semantics.specs.Functions.{FunctionCode, first_code, code_here, function_in, function_in_all}
use Rattle.js_machine_nodes.specs.declared.node.Node.{Node}
use Rattle.js_machine_nodes.specs.declared.table.NodeTable.{NodeTable}
use Rattle.js_machine_nodes.specs.Ops.{is_literal}
use Rattle.js_machine_nodes.specs.Forms.{form_of}
use Rattle.js_machine_nodes.specs.Trees.{kid_at, kids_between, terms, tree, trees, EachBelow, IsTable}
use Rattle.js_machine_nodes.proofs.TreeLemmas.{kids-some, tree-at, node-at}

pub first_first : (a b c : Option FunctionCode) → first_code (first_code a b) c ≡ first_code a (first_code b c)
first_first (Some x) b c = refl
first_first None b c = refl

pub all_joined : (x : ℕ) (xs ys : Terms)
    → function_in_all x (joined xs ys) ≡ first_code (function_in_all x xs) (function_in_all x ys)
all_joined x end ys = refl
all_joined x (more t xs) ys =
    ap (first_code (function_in x t)) (all_joined x xs ys)
    ∙ sym (first_first (function_in x t) (function_in_all x xs) (function_in_all x ys))

terms_joined : (at : ℕ → Term) (ks ls : List ℕ) → terms at (ks ++ ls) ≡ joined (terms at ks) (terms at ls)
terms_joined at [] ls = refl
terms_joined at (k ∷ ks) ls = ap (more (at k)) (terms_joined at ks ls)

-- parts up to a place and from it on
take_both : (m n : ℕ) (xs : List ℕ) → take (m + n) xs ≡ take m xs ++ take n (drop m xs)
take_both zero n xs = let e : 0 + n ≡ n = omega arith in ap (λ k. take k xs) e
take_both (suc m) n [] =
    let e : suc m + n ≡ suc (m + n) = omega arith in ap (λ k. take k (let ys : List ℕ = [] in ys)) e ∙ sym (none_of n)
  where
    none_of : (k : ℕ) → take k (let ys : List ℕ = [] in ys) ≡ []
    none_of zero = refl
    none_of (suc k) = refl
take_both (suc m) n (x ∷ xs) =
    let e : suc m + n ≡ suc (m + n) = omega arith in ap (λ k. take k (x ∷ xs)) e ∙ ap (λ ys. x ∷ ys) (take_both m n xs)

drop_both : (m n : ℕ) (xs : List ℕ) → drop m (drop n xs) ≡ drop (n + m) xs
drop_both m zero xs = let e : m ≡ 0 + m = omega arith in ap (λ k. drop k xs) e
drop_both m (suc n) [] = none_of m ∙ sym (none_of (suc n + m))
  where
    none_of : (k : ℕ) → drop k (let ys : List ℕ = [] in ys) ≡ []
    none_of zero = refl
    none_of (suc k) = refl
drop_both m (suc n) (x ∷ xs) =
    let e : suc (n + m) ≡ suc n + m = omega arith in drop_both m n xs ∙ ap (λ k. drop k (x ∷ xs)) e

kids_both : (t : NodeTable) (from mid to : ℕ)
    → from ≤ mid
    → mid ≤ to
    → kids_between t from to ≡ kids_between t from mid ++ kids_between t mid to
kids_both t from mid to h k =
    let a : to - from ≡ (mid - from) + (to - mid) = omega arith in
    let b : from + (mid - from) ≡ mid = omega arith in
    ap (λ n. take n (drop from t.kids.items)) a ∙ take_both (mid - from) (to - mid) (drop from t.kids.items)
    ∙ ap (λ xs. take (mid - from) (drop from t.kids.items) ++ take (to - mid) xs)
    (drop_both (mid - from) from t.kids.items ∙ ap (λ n. drop n t.kids.items) b)

-- what is found in a node: itself, or in its parts from the first to the last
pub found_in_node : (ts : List (List ℕ)) (t : NodeTable) (n : ℕ) (node : Node) (x : ℕ)
    → IsTable t
    → slice_get t.nodes.items n ≡ Some node
    → is_literal node.op ≡ false
    → function_in x (tree ts t n) ≡ first_code
    (code_here (form_of ts t node.op node.info) x (trees ts t node.mid node.end))
    (function_in_all x (trees ts t node.first node.end))
found_in_node ts t n node x table e l =
    let i = node-at t n node table e in
    ap (function_in x) (tree-at t n node table e l ts)
    ∙ ap (λ o. first_code (code_here (form_of ts t node.op node.info) x (trees ts t node.mid node.end)) o)
    (sym (ap (λ ks. function_in_all x (terms (tree ts t) ks)) (kids_both t node.first node.mid node.end i.now i.later)
    ∙ ap (function_in_all x)
    (terms_joined (tree ts t) (kids_between t node.first node.mid) (kids_between t node.mid node.end))
    ∙ all_joined x (trees ts t node.first node.mid) (trees ts t node.mid node.end)))

get_kid : (ks : List ℕ) (i : ℕ) → i < length ks → slice_get ks i ≡ Some (unwrap_or (slice_get ks i) 0)
get_kid [] i h = absurd (omega arith)
get_kid (k ∷ ks) zero h = refl
get_kid (k ∷ ks) (suc i) h = get_kid ks i (omega arith)

pub kid_some : (t : NodeTable) (i : ℕ) → i < length t.kids.items → slice_get t.kids.items i ≡ Some (kid_at t i)
unfolding kid_at
kid_some t i h = get_kid t.kids.items i h

-- one more part, from the last to the first
pub found_before : (ts : List (List ℕ)) (t : NodeTable) (n i : ℕ) (node : Node) (x : ℕ)
    (before now after : Option FunctionCode)
    → IsTable t
    → slice_get t.nodes.items n ≡ Some node
    → i < node.end
    → now ≡ first_code (function_in_all x (trees ts t (i + 1) node.end)) before
    → after ≡ first_code (function_in x (tree ts t (kid_at t i))) now
    → after ≡ first_code (function_in_all x (trees ts t i node.end)) before
found_before ts t n i node x before now after table e l a b =
    let w = node-at t n node table e in
    b ∙ ap (first_code (function_in x (tree ts t (kid_at t i)))) a
    ∙ sym (first_first (function_in x (tree ts t (kid_at t i))) (function_in_all x (trees ts t (i + 1) node.end))
    before)
    ∙ ap (λ ks. first_code (function_in_all x (terms (tree ts t) ks)) before)
    (sym (kids-some t i node.end (kid_at t i) l (kid_some t i (omega (arith, w.within)))))

each_at : (m : ℕ) (ks : List ℕ) (i n k : ℕ) → EachBelow m (take n ks) → i < n → slice_get ks i ≡ Some k → k < m
each_at m [] i n k b l e = absurd cc
each_at m (j ∷ ks) zero zero k b l e = absurd (omega arith)
each_at m (j ∷ ks) zero (suc n) k b l e = let h : j ≡ k = cc in subst (λ (q : ℕ). q < m) h b.0
each_at m (j ∷ ks) (suc i) zero k b l e = absurd (omega arith)
each_at m (j ∷ ks) (suc i) (suc n) k b l e = each_at m ks i n k b.1 (omega arith) e

get_drop : (ks : List ℕ) (from i : ℕ) → slice_get (drop from ks) i ≡ slice_get ks (from + i)
get_drop ks zero i = let e : i ≡ 0 + i = omega arith in ap (slice_get ks) e
get_drop [] (suc from) i = refl
get_drop (k ∷ ks) (suc from) i =
    let e : suc (from + i) ≡ suc from + i = omega arith in get_drop ks from i ∙ ap (slice_get (k ∷ ks)) e

-- the walk goes down
pub kid_below : (t : NodeTable) (n i : ℕ) (node : Node)
    → IsTable t
    → slice_get t.nodes.items n ≡ Some node
    → node.first ≤ i
    → i < node.end
    → kid_at t i < n
kid_below t n i node table e h l =
    let w = node-at t n node table e in
    let f : node.first + (i - node.first) ≡ i = omega arith in
    each_at n (drop node.first t.kids.items) (i - node.first) (node.end - node.first) (kid_at t i) w.before
    (omega arith)
    (get_drop t.kids.items node.first (i - node.first)
    ∙ ap (slice_get t.kids.items) f
    ∙ kid_some t i (omega (arith, w.within)))
