-- The parts of a task get their values one after another.
use Rattle.std.proofs.Common.{◌≡◌, ℕ, ◌+◌, ◌<◌, ◌≤◌, List, [], ◌∷◌, ◌++◌, None, Some, slice_get, refl, sym, ap, subst, ◌∙◌, arith}
use Rattle.js_heap.specs.declared.value.Value.{Value}
use Rattle.js_semantics.specs.Terms.{done, Terms, end, more, joined, dones}
use Rattle.js_machine_nodes.specs.declared.table.NodeTable.{NodeTable}
use Rattle.js_machine_nodes.specs.Trees.{kids_between, terms, tree, trees, EachBelow}
use Rattle.js_machine_engine.specs.Tasks.{Wide}
use Rattle.js_machine_engine.specs.Stacks.{values_of, with_value, at_part}
use Rattle.js_machine_engine.specs.Parts.{IsOpen, at_of, mid_of, parts_of, IsTaken, IsNextPart}
use Rattle.js_machine_nodes.proofs.TreeLemmas.{kids-some, kids-none, kids-end}

-- ---- values and parts

pub joined-value : (vs : List Value) (v : Value) (us : Terms)
    → joined (dones (vs ++ v ∷ [])) us ≡ joined (dones vs) (more (done v) us)
joined-value [] v us = refl
joined-value (x ∷ vs) v us = ap (more (done x)) (joined-value vs v us)

pub joined-end : (vs : List Value) → joined (dones vs) end ≡ dones vs
joined-end [] = refl
joined-end (x ∷ vs) = ap (more (done x)) (joined-end vs)

-- ---- one part after the other

value_at_place : (ts : List (List ℕ)) (t : NodeTable) (at mid k : ℕ) (vs : List Value) (v : Value)
    → at < mid
    → slice_get t.kids.items at ≡ Some k
    → tree ts t k ≡ done v
    → joined (dones (vs ++ v ∷ [])) (trees ts t (at + 1) mid) ≡ joined (dones vs) (trees ts t at mid)
value_at_place ts t at mid k vs v h e d =
    joined-value vs v (trees ts t (at + 1) mid)
    ∙ ap (λ x. joined (dones vs) (more x (trees ts t (at + 1) mid))) (sym d)
    ∙ ap (λ ks. joined (dones vs) (terms (tree ts t) ks)) (sym (kids-some t at mid k h e))

below_some : (t : NodeTable) (at mid k m : ℕ)
    → at < mid
    → slice_get t.kids.items at ≡ Some k
    → EachBelow m (kids_between t at mid)
    → EachBelow m (k ∷ kids_between t (at + 1) mid)
below_some t at mid k m h e b = let P : List ℕ → Type 0 = EachBelow m in subst P (kids-some t at mid k h e) b

pub taken-none-yet : (t : NodeTable) (old : List Wide) → IsTaken t old old (at_of old)
taken-none-yet t [] = record { same = refl; parts = λ ts. refl; below = λ m b. b }
taken-none-yet t (w ∷ ws) = record { same = refl; parts = λ ts. refl; below = λ m b. b }

taken_value_of : (t : NodeTable) (w : Wide) (ws : List Wide) (at k : ℕ) (vs us : List Value) (v : Value)
    → ((ts : List (List ℕ)) → joined (dones vs) (trees ts t at w.mid) ≡ parts_of ts t (w ∷ ws))
    → ((m : ℕ) → EachBelow m (kids_between t w.at w.mid) → EachBelow m (kids_between t at w.mid))
    → at < w.mid
    → slice_get t.kids.items at ≡ Some k
    → ((ts : List (List ℕ)) → tree ts t k ≡ done v)
    → us ≡ vs ++ v ∷ []
    → IsTaken t (w ∷ ws) (record w { values = us } ∷ ws) (at + 1)
taken_value_of t w ws at k vs us v parts below h e d u = record {
  same = refl;
  parts =
      λ ts. ap (λ x. joined (dones x) (trees ts t (at + 1) w.mid)) u
      ∙ value_at_place ts t at w.mid k vs v h e (d ts)
      ∙ parts ts;
  below = λ m b. (below_some t at w.mid k m h e (below m b)).1;
}

pub taken-value : (t : NodeTable) (old new next : List Wide) (at mid k : ℕ) (v : Value)
    → IsTaken t old new at
    → mid ≡ mid_of old
    → at < mid
    → slice_get t.kids.items at ≡ Some k
    → ((ts : List (List ℕ)) → tree ts t k ≡ done v)
    → next ≡ with_value v new
    → IsTaken t old next (at + 1)
taken-value t [] new next at mid k v i q h e d n = absurd (omega arith)
taken-value t (w ∷ ws) new next at mid k v i q h e d n =
    let f : next ≡ record w { values = values_of new ++ v ∷ [] } ∷ ws = n ∙ ap (with_value v) i.same in
    let P : List Wide → Type 0 = λ xs. IsTaken t (w ∷ ws) xs (at + 1) in
    subst P (sym f)
    (taken_value_of t w ws at k (values_of new) (values_of new ++ v ∷ []) v i.parts i.below (omega arith) e d refl)

-- ---- the next part, or none

part_of : (t : NodeTable) (w : Wide) (ws : List Wide) (at k : ℕ) (vs : List Value)
    → ((ts : List (List ℕ)) → joined (dones vs) (trees ts t at w.mid) ≡ parts_of ts t (w ∷ ws))
    → ((m : ℕ) → EachBelow m (kids_between t w.at w.mid) → EachBelow m (kids_between t at w.mid))
    → at < w.mid
    → slice_get t.kids.items at ≡ Some k
    → IsOpen (slice_get t.nodes.items k)
    → IsNextPart t (w ∷ ws) (record w { values = vs; at = at + 1 } ∷ ws) (Some k)
part_of t w ws at k vs parts below h e o = record {
  same = refl;
  parts = λ ts. sym (parts ts) ∙ ap (λ ks. joined (dones vs) (terms (tree ts t) ks)) (kids-some t at w.mid k h e);
  part = record { form = o; below = λ m b. (below_some t at w.mid k m h e (below m b)).0 };
}

pub taken-part : (t : NodeTable) (old new next : List Wide) (at mid k : ℕ)
    → IsTaken t old new at
    → mid ≡ mid_of old
    → at < mid
    → slice_get t.kids.items at ≡ Some k
    → IsOpen (slice_get t.nodes.items k)
    → next ≡ at_part (at + 1) new
    → IsNextPart t old next (Some k)
taken-part t [] new next at mid k i q h e o n = absurd (omega arith)
taken-part t (w ∷ ws) new next at mid k i q h e o n =
    let f : next ≡ record w { values = values_of new; at = at + 1 } ∷ ws = n ∙ ap (at_part (at + 1)) i.same in
    let P : List Wide → Type 0 = λ xs. IsNextPart t (w ∷ ws) xs (Some k) in
    subst P (sym f) (part_of t w ws at k (values_of new) i.parts i.below (omega arith) e o)

end_of : (t : NodeTable) (w : Wide) (ws : List Wide) (at : ℕ) (vs : List Value)
    → ((ts : List (List ℕ)) → joined (dones vs) (trees ts t at w.mid) ≡ parts_of ts t (w ∷ ws))
    → kids_between t at w.mid ≡ []
    → IsNextPart t (w ∷ ws) (record w { values = vs; at = w.mid } ∷ ws) None
end_of t w ws at vs parts e = record {
  same = refl;
  parts = λ ts. sym (parts ts) ∙ ap (λ ks. joined (dones vs) (terms (tree ts t) ks)) e ∙ joined-end vs;
  part = refl;
}

pub taken-end : (t : NodeTable) (old new next : List Wide) (at mid : ℕ)
    → IsTaken t old new at
    → mid ≡ mid_of old
    → kids_between t at mid ≡ []
    → next ≡ at_part mid new
    → IsNextPart t old next None
taken-end t [] new next at mid i q e n =
    let f : next ≡ [] = n ∙ ap (at_part mid) i.same in
    let P : List Wide → Type 0 = λ xs. IsNextPart t [] xs None in
    subst P (sym f) (record { same = refl; parts = λ ts. refl; part = refl })
taken-end t (w ∷ ws) new next at mid i q e n =
    let f : next ≡ record w { values = values_of new; at = w.mid } ∷ ws = n
    ∙ ap (at_part mid) i.same
    ∙ ap (λ x. record w { values = values_of new; at = x } ∷ ws) q in
    let P : List Wide → Type 0 = λ xs. IsNextPart t (w ∷ ws) xs None in
    let g : kids_between t at w.mid ≡ [] = ap (λ x. kids_between t at x) (sym q) ∙ e in
    subst P (sym f) (end_of t w ws at (values_of new) i.parts g)

pub taken-none : (t : NodeTable) (old new next : List Wide) (at mid : ℕ)
    → IsTaken t old new at
    → mid ≡ mid_of old
    → slice_get t.kids.items at ≡ None
    → next ≡ at_part mid new
    → IsNextPart t old next None
taken-none t old new next at mid i q e n = taken-end t old new next at mid i q (kids-none t at mid e) n

pub taken-all : (t : NodeTable) (old new next : List Wide) (at mid : ℕ)
    → IsTaken t old new at
    → mid ≡ mid_of old
    → mid ≤ at
    → next ≡ at_part mid new
    → IsNextPart t old next None
taken-all t old new next at mid i q h n = taken-end t old new next at mid i q (kids-end t at mid h) n

same_part : (t : NodeTable) (old : List Wide) → at_of old ≡ mid_of old → old ≡ at_part (mid_of old) old
same_part t [] e = refl
same_part t (w ∷ ws) e = ap (λ x. record w { at = x } ∷ ws) e

pub taken-already : (t : NodeTable) (old : List Wide) → at_of old ≡ mid_of old → IsNextPart t old old None
taken-already t old e =
    taken-all t old old old (at_of old) (mid_of old) (taken-none-yet t old) refl (omega arith) (same_part t old e)
