-- Lemmas on the order of properties.
use Rattle.std.proofs.Common.{◌≡◌, ℕ, zero, suc, ◌<◌, ◌≤◌, Bool, true, false, List, [], ◌∷◌, length, take, drop, get_or, Option, Some, None, refl, sym, ap, subst, ◌∙◌, arith, if◌then◌else◌}
use Rattle.std.specs.Prelude.{remove}
use Rattle.std.proofs.lemmas.Bool.{ltb-false, eqb-false, ltb-true, le-ltb, or_from, or_parts}
use Rattle.std.proofs.lemmas.List.{length-take-le}
use Rattle.js_heap.specs.declared.value.Value.{Value}
use Rattle.js_heap.specs.declared.cell.Property.{Property}
use Rattle.js_heap.specs.Keys.{same_units, has_key, index_of_key, stands_before, placed}
use Rattle.js_heap_memory.specs.PropertyOrder.{with_value_at, AreIndicesOf, AreAbove, AreNames, AreLeading, Ascend, MayFollow, AllFollow, AreInOrder}
use Rattle.js_heap_memory.proofs.PropertyKeyLemmas.{same-sym, zip-length}
use Rattle.js_heap_memory.proofs.PropertyIndexLemmas.{same-index}

-- ---- a new property

before_other : (a b : Option ℕ) → stands_before a b ≡ true → stands_before b a ≡ false
before_other None b h = cc
before_other (Some i) None h = refl
before_other (Some i) (Some j) h = let l = ltb-true i j h in le-ltb j i (omega arith)

before_all : (a b c : Option ℕ) → stands_before a b ≡ true → stands_before c b ≡ false → stands_before c a ≡ false
before_all None b c h k = cc
before_all (Some i) b None h k = refl
before_all (Some i) None (Some m) h k = cc
before_all (Some i) (Some j) (Some m) h k =
    let l = ltb-true i j h in
    let g = ltb-false m j k in
    le-ltb m i (omega arith)

follow_before : (p q : Property) (ps : List Property)
    → stands_before (index_of_key p.key) (index_of_key q.key) ≡ true
    → has_key ps p.key ≡ false
    → AllFollow q ps
    → AllFollow p ps
follow_before p q [] b n h = tt
follow_before p q (r ∷ ps) b n h =
    let t = or_parts (same_units r.key p.key) (has_key ps p.key) n in (
      (same-sym p.key r.key ∙ t.0, before_all (index_of_key p.key) (index_of_key q.key) (index_of_key r.key) b h.0.1),
      follow_before p q ps b t.1 h.1,
    )

follow_if : (b : Bool) (q p r : Property) (ps qs : List Property)
    → MayFollow q p
    → AllFollow q (r ∷ ps)
    → AllFollow q qs
    → AllFollow q (if b then p ∷ r ∷ ps else r ∷ qs)
follow_if true q p r ps qs m h k = (m, h)
follow_if false q p r ps qs m h k = (h.0, k)

follow_placed : (q p : Property) (ps : List Property) → MayFollow q p → AllFollow q ps → AllFollow q (placed ps p)
follow_placed q p [] m h = (m, tt)
follow_placed q p (r ∷ ps) m h =
    follow_if (stands_before (index_of_key p.key) (index_of_key r.key)) q p r ps (placed ps p) m h
    (follow_placed q p ps m h.1)

placed_if : (b : Bool) (p q : Property) (ps qs : List Property)
    → (b ≡ true → AreInOrder (p ∷ q ∷ ps))
    → (b ≡ false → AreInOrder (q ∷ qs))
    → AreInOrder (if b then p ∷ q ∷ ps else q ∷ qs)
placed_if true p q ps qs f g = f refl
placed_if false p q ps qs f g = g refl

pub order-placed : (ps : List Property) (p : Property)
    → AreInOrder ps
    → has_key ps p.key ≡ false
    → AreInOrder (placed ps p)
order-placed [] p h n = (tt, tt)
order-placed (q ∷ ps) p h n =
    let t = or_parts (same_units q.key p.key) (has_key ps p.key) n in
    placed_if (stands_before (index_of_key p.key) (index_of_key q.key)) p q ps (placed ps p)
    (λ b. (
      (
        (same-sym p.key q.key ∙ t.0, before_other (index_of_key p.key) (index_of_key q.key) b),
        follow_before p q ps b t.1 h.0,
      ),
      h,
    ))
    (λ b. (follow_placed q p ps (t.0, b) h.0, order-placed ps p h.1 t.1))

-- ---- another value, one property less

follow_value : (q : Property) (ps : List Property) (i : ℕ) (v : Value)
    → AllFollow q ps
    → AllFollow q (with_value_at ps i v)
follow_value q [] i v h = tt
follow_value q (p ∷ ps) zero v h = h
follow_value q (p ∷ ps) (suc i) v h = (h.0, follow_value q ps i v h.1)

pub order-value : (ps : List Property) (i : ℕ) (v : Value) → AreInOrder ps → AreInOrder (with_value_at ps i v)
order-value [] i v h = tt
order-value (p ∷ []) zero v h = h
order-value (p ∷ q ∷ ps) zero v h = ((h.0.0, follow_record p ps v h.0.1), h.1)
  where
    follow_record : (p : Property) (ps : List Property) (v : Value)
        → AllFollow p ps
        → AllFollow (record p { value = v }) ps
    follow_record p [] v h = tt
    follow_record p (q ∷ ps) v h = (h.0, follow_record p ps v h.1)
order-value (p ∷ ps) (suc i) v h = (follow_value p ps i v h.0, order-value ps i v h.1)

follow_remove : (q : Property) (ps : List Property) (i : ℕ) → AllFollow q ps → AllFollow q (remove ps i)
follow_remove q [] zero h = tt
follow_remove q [] (suc i) h = tt
follow_remove q (p ∷ ps) zero h = h.1
follow_remove q (p ∷ ps) (suc i) h = (h.0, follow_remove q ps i h.1)

pub order-remove : (ps : List Property) (i : ℕ) → AreInOrder ps → AreInOrder (remove ps i)
order-remove [] zero h = tt
order-remove [] (suc i) h = tt
order-remove (p ∷ ps) zero h = h.1
order-remove (p ∷ ps) (suc i) h = (follow_remove p ps i h.0, order-remove ps i h.1)

-- ---- parts of the list

follow_take : (q : Property) (ps : List Property) (n : ℕ) → AllFollow q ps → AllFollow q (take n ps)
follow_take q ps zero h = tt
follow_take q [] (suc n) h = tt
follow_take q (p ∷ ps) (suc n) h = (h.0, follow_take q ps n h.1)

pub order-take : (ps : List Property) (n : ℕ) → AreInOrder ps → AreInOrder (take n ps)
order-take ps zero h = tt
order-take [] (suc n) h = tt
order-take (p ∷ ps) (suc n) h = (follow_take p ps n h.0, order-take ps n h.1)

pub order-drop : (ps : List Property) (n : ℕ) → AreInOrder ps → AreInOrder (drop n ps)
order-drop ps zero h = h
order-drop [] (suc n) h = tt
order-drop (p ∷ ps) (suc n) h = order-drop ps n h.1

follow_at : (q d : Property) (ps : List Property) (n : ℕ)
    → AllFollow q ps
    → n < length ps
    → same_units q.key (get_or ps n d).key ≡ false
follow_at q d [] n h l = absurd (omega arith)
follow_at q d (p ∷ ps) zero h l = h.0.0
follow_at q d (p ∷ ps) (suc n) h l = follow_at q d ps n h.1 (omega arith)

-- no property has the key of one behind it
pub order-fresh : (ps : List Property) (n : ℕ) (d : Property)
    → AreInOrder ps
    → n < length ps
    → has_key (take n ps) (get_or ps n d).key ≡ false
order-fresh ps zero d h l = refl
order-fresh [] (suc n) d h l = absurd (omega arith)
order-fresh (p ∷ ps) (suc n) d h l =
    or_from _ _ (follow_at p d ps n h.0 (omega arith)) (order-fresh ps n d h.1 (omega arith))

-- ---- indices in front, names behind

above_from : (p : Property) (i : ℕ) (is : List ℕ) (ps : List Property)
    → index_of_key p.key ≡ Some i
    → AreIndicesOf is ps
    → AllFollow p ps
    → AreAbove i is
above_from p i [] [] e h f = tt
above_from p i [] (q ∷ ps) e h f = absurd h
above_from p i (j ∷ is) [] e h f = absurd h
above_from p i (j ∷ is) (q ∷ ps) e h f =
    let differ = eqb-false i j (sym (same-index p.key q.key i j e h.0) ∙ f.0.0) in
    let late = ltb-false j i
    (sym (ap (stands_before (Some j)) e) ∙ sym (ap (λ o. stands_before o (index_of_key p.key)) h.0) ∙ f.0.1) in
    let k : i < j = omega arith in
    (k, above_from p i is ps e h.1 f.1)

ascend_from : (is : List ℕ) (ps : List Property) → AreIndicesOf is ps → AreInOrder ps → Ascend is
ascend_from [] [] h o = tt
ascend_from [] (p ∷ ps) h o = absurd h
ascend_from (i ∷ is) [] h o = absurd h
ascend_from (i ∷ is) (p ∷ ps) h o = (above_from p i is ps h.0 h.1 o.0, ascend_from is ps h.1 o.1)

behind_name : (o p : Option ℕ) → p ≡ None → stands_before o p ≡ false → o ≡ None
behind_name None p e h = refl
behind_name (Some i) None e h = cc
behind_name (Some i) (Some j) e h = cc

names_from : (p : Property) (ps : List Property) → index_of_key p.key ≡ None → AllFollow p ps → AreNames ps
names_from p [] e f = tt
names_from p (q ∷ ps) e f = (behind_name (index_of_key q.key) (index_of_key p.key) e f.0.1, names_from p ps e f.1)

pub order-names : (ps : List Property) (n : ℕ) (p : Property)
    → AreInOrder ps
    → n < length ps
    → p ≡ get_or ps n p
    → index_of_key p.key ≡ None
    → AreNames (drop n ps)
order-names [] n p h l e k = absurd (omega arith)
order-names (q ∷ ps) zero p h l e k =
    let f : q ≡ p = sym e in
    let j = ap (λ (r : Property). index_of_key r.key) f ∙ k in
    (j, names_from q ps j h.0)
order-names (q ∷ ps) (suc n) p h l e k = order-names ps n p h.1 (omega arith) e k

pub order-leading : (is : List ℕ) (ps : List Property) (n : ℕ)
    → AreInOrder ps
    → n ≤ length ps
    → AreIndicesOf is (take n ps)
    → AreNames (drop n ps)
    → AreLeading is ps
order-leading is ps n o l h a =
    let e : length is ≡ n = zip-length _ is (take n ps) h ∙ length-take-le n ps l in
    record {
      within = omega arith;
      indices = subst (λ (m : ℕ). AreIndicesOf is (take m ps)) (sym e) h;
      order = ascend_from is (take n ps) h (order-take ps n o);
      names = subst (λ (m : ℕ). AreNames (drop m ps)) (sym e) a;
    }

-- where all are indices, there is no name
pub order-end : (is : List ℕ) (ps : List Property) (n : ℕ)
    → AreInOrder ps
    → n ≡ length ps
    → AreIndicesOf is (take n ps)
    → AreLeading is ps
order-end is ps n o e h = order-leading is ps n o (omega arith) h (rw e (none ps))
  where
    none : (qs : List Property) → AreNames (drop (length qs) qs)
    none [] = tt
    none (q ∷ qs) = none qs
