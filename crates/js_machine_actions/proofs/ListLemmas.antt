-- Lemmas on lists as built-in functions read them.
use Rattle.std.proofs.Common.{◌≡◌, ℕ, zero, suc, ◌+◌, ◌-◌, ◌<◌, ◌≤◌, Bool, true, false, List, [], ◌∷◌, ◌++◌, length, drop, get_or, Option, Some, None, refl, sym, ap, ◌∙◌, subst, arith, drop-cons, append_assoc}
use Rattle.std.proofs.Math.Bool.{and-false}
use Rattle.std.specs.Prelude.{nat_eq, take, ◌==◌, ◌&&◌}
use Rattle.std.proofs.lemmas.List.{drop_all, take_all, length-drop, drop_more}
use Rattle.js_heap.specs.declared.value.Value.{Value}
use Rattle.js_heap.specs.declared.value.Value.TheVariants as values
use Rattle.js_heap.specs.World.{World}
use Rattle.js_semantics.specs.BuiltIns.{last_of, joined_part, joined_parts, with_part, begins_with, first_occurrence, indices_from, enumerable_keys}
use Rattle.std.specs.Prelude.{negsuc, decimal, slice_get, if◌then◌else◌}
use Rattle.js_heap.specs.declared.cell.Property.{Property}
use Rattle.js_machine_actions.specs.Texts.{key_if}
use Rattle.js_machine_actions.proofs.Joining.{with_parts}

-- ---- the last value

last_at : (vs : List Value) (n : ℕ) (d : Value) → length vs ≡ suc n → last_of vs ≡ get_or vs n d
last_at [] n d e = absurd (omega arith)
last_at (v ∷ []) zero d e = refl
last_at (v ∷ []) (suc n) d e = absurd (omega arith)
last_at (v ∷ u ∷ vs) zero d e = absurd (omega arith)
last_at (v ∷ u ∷ vs) (suc n) d e = last_at (u ∷ vs) n d (omega arith)

pub last-at : (vs : List Value) (d : Value) → 0 < length vs → last_of vs ≡ get_or vs (length vs - 1) d
last-at vs d h = last_at vs (length vs - 1) d (omega arith)

pub ruleset last_rules = (last-at)

-- ---- joins

-- a join that fails further on fails
pub parts-none : (ts : List (List ℕ)) → with_parts ts None ≡ None
parts-none [] = refl
parts-none (t ∷ ts) = ap (λ r. with_part (Some t) r) (parts-none ts)

pub parts-all : (ts : List (List ℕ)) → with_parts ts (Some []) ≡ Some ts
parts-all [] = refl
parts-all (t ∷ ts) = ap (λ r. with_part (Some t) r) (parts-all ts)

pub parts-more : (ts : List (List ℕ)) (t : List ℕ) (r : Option (List (List ℕ)))
    → with_parts (ts ++ t ∷ []) r ≡ with_parts ts (with_part (Some t) r)
parts-more [] t r = refl
parts-more (u ∷ ts) t r = ap (λ x. with_part (Some u) x) (parts-more ts t r)

-- the parts so far, with the parts of the elements that are left
pub part-none : (w : World) (ts : List (List ℕ)) (v : Value) (vs : List Value)
    → None ≡ joined_part w v
    → with_parts ts (joined_parts w (v ∷ vs)) ≡ None
part-none w ts v vs h = ap (λ o. with_parts ts (with_part o (joined_parts w vs))) (sym h) ∙ parts-none ts

pub part-some : (w : World) (ts : List (List ℕ)) (t : List ℕ) (v : Value) (vs : List Value)
    → Some t ≡ joined_part w v
    → with_parts (ts ++ t ∷ []) (joined_parts w vs) ≡ with_parts ts (joined_parts w (v ∷ vs))
part-some w ts t v vs h =
    parts-more ts t (joined_parts w vs) ∙ ap (λ o. with_parts ts (with_part o (joined_parts w vs))) h

pub ruleset part_rules = (part-none, part-some, parts-all)

-- ---- the start of a text

pub begins-short : (us vs : List ℕ) → length us < length vs → begins_with us vs ≡ false
begins-short [] [] h = absurd (omega arith)
begins-short [] (v ∷ vs) h = refl
begins-short (u ∷ us) [] h = absurd (omega arith)
begins-short (u ∷ us) (v ∷ vs) h = ap (λ b. nat_eq u v && b) (begins-short us vs (omega arith)) ∙ and-false (nat_eq u v)

pub ruleset begin_rules = (begins-short)

-- ---- occurrences

occurs_cons : (i u : ℕ) (xs r vs : List ℕ)
    → xs ≡ u ∷ r
    → begins_with xs vs ≡ false
    → first_occurrence i xs vs ≡ first_occurrence (i + 1) r vs
occurs_cons i u xs r vs e h =
    let P : List ℕ
    → Type 0 = λ ys. begins_with ys vs ≡ false
    → first_occurrence i ys vs ≡ first_occurrence (i + 1) r vs in
    subst P (sym e) (λ g. rw g refl) h

pub occurs-step : (us vs : List ℕ) (i : ℕ) (b : Bool)
    → i < length us
    → b ≡ begins_with (take (length us - i) (drop i us)) vs
    → b ≡ false
    → first_occurrence i (drop i us) vs ≡ first_occurrence (i + 1) (drop (i + 1) us) vs
occurs-step us vs i b h f g =
    let l : length (drop i us) ≤ length us - i = omega (arith, length-drop i us) in
    let t : take (length us - i) (drop i us) ≡ drop i us = take_all (length us - i) (drop i us) l in
    let e : begins_with (drop i us) vs ≡ false = ap (λ xs. begins_with xs vs) (sym t) ∙ sym f ∙ g in
    let n : suc i ≡ i + 1 = omega arith in
    occurs_cons i (get_or us i 0) (drop i us) (drop (suc i) us) vs (drop-cons us i 0 h) e
    ∙ ap (λ m. first_occurrence (i + 1) (drop m us) vs) n

not_begun : (vs : List ℕ) (b : Bool) → b ≡ (length vs == 0) → b ≡ false → begins_with [] vs ≡ false
not_begun [] b e f = cc
not_begun (v ∷ vs) b e f = refl

pub occurs-end : (us vs : List ℕ) (i : ℕ) (b : Bool)
    → length us ≤ i
    → b ≡ (length vs == 0)
    → b ≡ false
    → first_occurrence i (drop i us) vs ≡ negsuc 0
occurs-end us vs i b h e f = rw (drop_all i us h) (rw (not_begun vs b e f) refl)

-- ---- indices

pub indices-step : (ks ns : List (List ℕ)) (vs : List Value) (i : ℕ) (t : List ℕ)
    → ns ≡ ks ++ t ∷ []
    → t ≡ decimal i
    → i < length vs
    → ks ++ indices_from i (drop i vs) ≡ indices_from 0 vs
    → ns ++ indices_from (i + 1) (drop (i + 1) vs) ≡ indices_from 0 vs
indices-step ks ns vs i t e f h k =
    let m : ns ≡ ks ++ decimal i ∷ [] = e ∙ ap (λ x. ks ++ x ∷ []) f in
    let d : drop i vs ≡ get_or vs i values.Undefined ∷ drop (i + 1) vs = drop_more vs i values.Undefined h in
    let s : ks ++ indices_from i (drop i vs) ≡ ks ++ (decimal i ∷ indices_from (i + 1) (drop (i + 1) vs)) = ap
    (λ xs. ks ++ indices_from i xs) d in
    let j : (ks ++ decimal i ∷ []) ++ indices_from (i + 1) (drop (i + 1) vs) ≡ ks ++
    (decimal i ∷ indices_from (i + 1) (drop (i + 1) vs)) = simp append_assoc in
    ap (λ xs. xs ++ indices_from (i + 1) (drop (i + 1) vs)) m ∙ j ∙ sym s ∙ k

-- ---- joins, as far as they came

none_of : (o p : Option (List ℕ)) → ((t : List ℕ) → o ≡ Some t → ⊥) → o ≡ p → None ≡ p
none_of None p h e = e
none_of (Some t) p h e = absurd (h t refl)

pub part-fails : (w : World) (ts : List (List ℕ)) (vs : List Value) (i : ℕ) (o : Option (List ℕ))
    (all : Option (List (List ℕ)))
    → with_parts ts (joined_parts w (drop i vs)) ≡ all
    → i < length vs
    → o ≡ joined_part w (get_or vs i values.Undefined)
    → ((t : List ℕ) → o ≡ Some t → ⊥)
    → None ≡ all
part-fails w ts vs i o all h l e n =
    sym (part-none w ts (get_or vs i values.Undefined) (drop (i + 1) vs)
    (none_of o (joined_part w (get_or vs i values.Undefined)) n e))
    ∙ ap (λ xs. with_parts ts (joined_parts w xs)) (sym (drop_more vs i values.Undefined l))
    ∙ h

pub part-goes : (w : World) (ts ns : List (List ℕ)) (t : List ℕ) (vs : List Value) (i : ℕ) (o : Option (List ℕ))
    (all : Option (List (List ℕ)))
    → with_parts ts (joined_parts w (drop i vs)) ≡ all
    → i < length vs
    → o ≡ joined_part w (get_or vs i values.Undefined)
    → o ≡ Some t
    → ns ≡ ts ++ t ∷ []
    → with_parts ns (joined_parts w (drop (i + 1) vs)) ≡ all
part-goes w ts ns t vs i o all h l e n f =
    ap (λ xs. with_parts xs (joined_parts w (drop (i + 1) vs))) f
    ∙ part-some w ts t (get_or vs i values.Undefined) (drop (i + 1) vs) (sym n ∙ e)
    ∙ ap (λ xs. with_parts ts (joined_parts w xs)) (sym (drop_more vs i values.Undefined l))
    ∙ h

pub part-ends : (w : World) (ts : List (List ℕ)) (vs : List Value) (i : ℕ) (all : Option (List (List ℕ)))
    → with_parts ts (joined_parts w (drop i vs)) ≡ all
    → length vs ≤ i
    → Some ts ≡ all
part-ends w ts vs i all h l =
    sym (parts-all ts) ∙ ap (λ xs. with_parts ts (joined_parts w xs)) (sym (drop_all i vs l)) ∙ h

-- ---- keys

keys_if : (b : Bool) (key : List ℕ) (ks : List (List ℕ))
    → (if b then key ∷ ks else ks) ≡ (if b then key ∷ [] else []) ++ ks
keys_if true key ks = refl
keys_if false key ks = refl

keys_from : (ps : List Property) (i : ℕ)
    → i < length ps
    → enumerable_keys (drop i ps) ≡ key_if (slice_get ps i) ++ enumerable_keys (drop (suc i) ps)
keys_from [] i h = absurd (omega arith)
keys_from (p ∷ ps) zero h = keys_if p.enumerable p.key (enumerable_keys ps)
keys_from (p ∷ ps) (suc i) h = keys_from ps i (omega arith)

pub keys-step : (ks ns : List (List ℕ)) (ps : List Property) (i : ℕ) (o : Option Property)
    → ns ≡ ks ++ key_if o
    → o ≡ slice_get ps i
    → i < length ps
    → ks ++ enumerable_keys (drop i ps) ≡ enumerable_keys ps
    → ns ++ enumerable_keys (drop (i + 1) ps) ≡ enumerable_keys ps
keys-step ks ns ps i o e f h k =
    let n : ns ≡ ks ++ key_if (slice_get ps i) = e ∙ ap (λ x. ks ++ key_if x) f in
    let s : suc i ≡ i + 1 = omega arith in
    let j : (ks ++ key_if (slice_get ps i)) ++ enumerable_keys (drop (suc i) ps) ≡ ks ++
    (key_if (slice_get ps i) ++ enumerable_keys (drop (suc i) ps)) = simp append_assoc in
    ap (λ x. ns ++ enumerable_keys (drop x ps)) (sym s)
    ∙ ap (λ xs. xs ++ enumerable_keys (drop (suc i) ps)) n
    ∙ j
    ∙ ap (λ xs. ks ++ xs) (sym (keys_from ps i h))
    ∙ k
