-- A node's tree is its form over its parts' trees.
use Rattle.std.proofs.Common.{◌≡◌, ℕ, zero, suc, ◌+◌, ◌-◌, ◌<◌, ◌≤◌, Bool, true, false, List, [], ◌∷◌, take, drop, Option, None, Some, if◌then◌else◌, slice_get, refl, sym, ap, subst, ◌∙◌, arith}
use Rattle.std.proofs.lemmas.List.{drop-drop}
use Rattle.std.proofs.Math.Seq.{take-nil}
use Rattle.js_heap.specs.declared.value.Value.{Value}
use Rattle.js_heap.specs.declared.value.Value.TheVariants as values
use Rattle.js_semantics.specs.Terms.{Term, done, part, more}
use Rattle.js_machine_nodes.specs.declared.node.Node.{Node}
use Rattle.js_machine_nodes.specs.declared.table.NodeTable.{NodeTable}
use Rattle.js_machine_nodes.specs.Ops.{is_literal}
use Rattle.js_machine_nodes.specs.Forms.{form_of}
use Rattle.js_machine_nodes.specs.Trees.{constant_at, kids_between, terms, node_term, tree_within, tree, trees, EachBelow, IsNode, IsNodeAt, IsTable}

-- ---- places in the list of parts

drop_some : {X : Type 0} (ks : List X) (at : ℕ) (k : X) → slice_get ks at ≡ Some k → drop at ks ≡ k ∷ drop (suc at) ks
drop_some [] at k h = cc
drop_some (x ∷ ks) zero k h = cc
drop_some (x ∷ ks) (suc at) k h = drop_some ks at k h

drop_none : {X : Type 0} (ks : List X) (at : ℕ) → slice_get ks at ≡ None → drop at ks ≡ []
drop_none [] zero h = refl
drop_none [] (suc at) h = refl
drop_none (x ∷ ks) zero h = cc
drop_none (x ∷ ks) (suc at) h = drop_none ks at h

pub kids-some : (t : NodeTable) (at mid k : ℕ)
    → at < mid
    → slice_get t.kids.items at ≡ Some k
    → kids_between t at mid ≡ k ∷ kids_between t (at + 1) mid
kids-some t at mid k h e =
    let n : ℕ = mid - (at + 1) in
    let m : mid - at ≡ suc n = omega arith in
    let s : suc at ≡ at + 1 = omega arith in
    ap (λ x. take x (drop at t.kids.items)) m
    ∙ ap (λ xs. take (suc n) xs) (drop_some t.kids.items at k e)
    ∙ ap (λ x. k ∷ take n (drop x t.kids.items)) s

pub kids-none : (t : NodeTable) (at mid : ℕ) → slice_get t.kids.items at ≡ None → kids_between t at mid ≡ []
kids-none t at mid e = ap (λ xs. take (mid - at) xs) (drop_none t.kids.items at e) ∙ take-nil (mid - at)

pub kids-end : (t : NodeTable) (at mid : ℕ) → mid ≤ at → kids_between t at mid ≡ []
kids-end t at mid h =
    let m : mid - at ≡ 0 = omega arith in
    ap (λ x. take x (drop at t.kids.items)) m

-- ---- trees

pub terms_same : (a b : ℕ → Term) (i : ℕ) (ks : List ℕ)
    → ((k : ℕ) → k < i → a k ≡ b k)
    → EachBelow i ks
    → terms a ks ≡ terms b ks
terms_same a b i [] same below = refl
terms_same a b i (k ∷ ks) same below =
    ap (λ t. more t (terms a ks)) (same k below.0) ∙ ap (more (b k)) (terms_same a b i ks same below.1)

pub literal-tree : (t : NodeTable) (n : ℕ) (node : Node) (v : Value)
    → slice_get t.nodes.items n ≡ Some node
    → is_literal node.op ≡ true
    → v ≡ constant_at t node.info
    → (ts : List (List ℕ))
    → tree ts t n ≡ done v
unfolding tree
literal-tree t n node v e l c ts =
    let P : Bool
    → Term = λ b. if b then done (constant_at t node.info) else part (form_of ts t node.op node.info)
    (terms (tree_within ts t n) (kids_between t node.first node.mid))
    (terms (tree_within ts t n) (kids_between t node.mid node.end)) in
    ap (node_term ts t (tree_within ts t n)) e ∙ ap P l ∙ ap done (sym c)

pub no-tree : (t : NodeTable) (n : ℕ)
    → slice_get t.nodes.items n ≡ None
    → (ts : List (List ℕ))
    → tree ts t n ≡ done values.Undefined
unfolding tree
no-tree t n e ts = ap (node_term ts t (tree_within ts t n)) e

-- ---- one level, where the parts of each node stand before it

each_first : (m : ℕ) (n k : ℕ) (xs : List ℕ) → k ≤ n → EachBelow m (take n xs) → EachBelow m (take k xs)
each_first m n zero xs h b = tt
each_first m n (suc k) [] h b = tt
each_first m zero (suc k) (x ∷ xs) h b = absurd (omega arith)
each_first m (suc n) (suc k) (x ∷ xs) h b = (b.0, each_first m n k xs (omega arith) b.1)

each_later : (m : ℕ) (i n k : ℕ) (xs : List ℕ) → k + i ≤ n → EachBelow m (take n xs) → EachBelow m (take k (drop i xs))
each_later m zero n k xs h b = each_first m n k xs (omega arith) b
each_later m (suc i) n k [] h b = subst (λ (ys : List ℕ). EachBelow m ys) (sym (take-nil k)) tt
each_later m (suc i) zero k (x ∷ xs) h b = let e : k ≡ 0 = omega arith in absurd (omega arith)
each_later m (suc i) (suc n) k (x ∷ xs) h b = each_later m i n k xs (omega arith) b.1

pub now-below : (t : NodeTable) (n : ℕ) (node : Node)
    → IsNode t n node
    → EachBelow n (kids_between t node.first node.mid)
now-below t n node i =
    each_first n (node.end - node.first) (node.mid - node.first) (drop node.first t.kids.items)
    (omega (arith, i.now, i.later)) i.before

pub later-below : (t : NodeTable) (n : ℕ) (node : Node)
    → IsNode t n node
    → EachBelow n (kids_between t node.mid node.end)
later-below t n node i =
    let xs : List ℕ = t.kids.items in
    let k : node.first + (node.mid - node.first) ≡ node.mid = omega (arith, i.now) in
    let e : drop (node.mid - node.first) (drop node.first xs) ≡ drop node.mid xs = drop-drop (node.mid - node.first)
    node.first xs
    ∙ ap (λ j. drop j xs) k in
    subst (λ (ys : List ℕ). EachBelow n (take (node.end - node.mid) ys)) e
    (each_later n (node.mid - node.first) (node.end - node.first) (node.end - node.mid) (drop node.first xs)
    (omega (arith, i.now, i.later)) i.before)

node_same : (ts : List (List ℕ)) (t : NodeTable) (a b : ℕ → Term) (n : ℕ) (o : Option Node)
    → ((k : ℕ) → k < n → a k ≡ b k)
    → IsNodeAt t n o
    → node_term ts t a o ≡ node_term ts t b o
node_same ts t a b n None same i = refl
node_same ts t a b n (Some node) same i =
    ap (λ us. if is_literal node.op then done (constant_at t node.info) else part (form_of ts t node.op node.info) us
    (terms a (kids_between t node.mid node.end)))
    (terms_same a b n (kids_between t node.first node.mid) same (now-below t n node i))
    ∙ ap (λ us. if is_literal node.op then done (constant_at t node.info) else part (form_of ts t node.op node.info)
    (terms b (kids_between t node.first node.mid)) us)
    (terms_same a b n (kids_between t node.mid node.end) same (later-below t n node i))

tree_same : (ts : List (List ℕ)) (t : NodeTable)
    → IsTable t
    → (f g n : ℕ)
    → n < f
    → n < g
    → tree_within ts t f n ≡ tree_within ts t g n
tree_same ts t table zero g n h k = absurd (omega arith)
tree_same ts t table (suc f) zero n h k = absurd (omega arith)
tree_same ts t table (suc f) (suc g) n h k =
    node_same ts t (tree_within ts t f) (tree_within ts t g) n (slice_get t.nodes.items n)
    (λ j l. tree_same ts t table f g j (omega arith) (omega arith)) (table.nodes n)

one_level : (ts : List (List ℕ)) (t : NodeTable)
    → IsTable t
    → (n : ℕ)
    → tree ts t n ≡ node_term ts t (tree ts t) (slice_get t.nodes.items n)
unfolding tree
one_level ts t table n =
    node_same ts t (tree_within ts t n) (tree ts t) n (slice_get t.nodes.items n)
    (λ j l. tree_same ts t table n (suc j) j l (omega arith)) (table.nodes n)

pub tree-at : (t : NodeTable) (n : ℕ) (node : Node)
    → IsTable t
    → slice_get t.nodes.items n ≡ Some node
    → is_literal node.op ≡ false
    → (ts : List (List ℕ))
    → tree ts t n ≡ part (form_of ts t node.op node.info) (trees ts t node.first node.mid)
    (trees ts t node.mid node.end)
tree-at t n node table e l ts =
    one_level ts t table n
    ∙ ap (node_term ts t (tree ts t)) e
    ∙ ap (λ b. if b then done (constant_at t node.info) else part (form_of ts t node.op node.info)
    (trees ts t node.first node.mid) (trees ts t node.mid node.end))
    l

pub node-at : (t : NodeTable) (n : ℕ) (node : Node)
    → IsTable t
    → slice_get t.nodes.items n ≡ Some node
    → IsNode t n node
node-at t n node table e = subst (λ (o : Option Node). IsNodeAt t n o) e (table.nodes n)
