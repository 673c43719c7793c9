-- Lemmas on properties in two lists, one behind the other.
use Rattle.std.proofs.Common.{◌≡◌, ℕ, zero, suc, ◌+◌, ◌<◌, ◌≤◌, Bool, true, false, List, [], ◌∷◌, ◌++◌, length, Some, None, Option, Ok, Err, Result, OnOk, OnErr, refl, ap, ◌∙◌, append_assoc, arith, if◌then◌else◌}
use Rattle.std.specs.Prelude.{remove}
use Rattle.js_heap.specs.declared.value.Value.{Value}
use Rattle.js_heap.specs.declared.cell.Property.{Property}
use Rattle.js_heap.specs.Keys.{same_units, has_key, index_of_key, stands_before, placed}
use Rattle.js_heap.specs.Places.{key_place}
use Rattle.js_heap_memory.specs.PropertyOrder.{with_value_at, AreNames}
use Rattle.js_heap_memory.proofs.PropertyKeyLemmas.{if_false}
use Rattle.std.proofs.lemmas.Bool.{or_parts}

-- ---- places

front_if : (b : Bool) (m n k : ℕ)
    → (if b then 0 else 1 + m) < suc n
    → (m < n → k ≡ m)
    → (if b then 0 else 1 + k) ≡ (if b then 0 else 1 + m)
front_if true m n k h e = refl
front_if false m n k h e = ap (λ j. 1 + j) (e (omega arith))

pub place-front : (es ns : List Property) (key : List ℕ)
    → key_place es key < length es
    → key_place (es ++ ns) key ≡ key_place es key
place-front [] ns key h = absurd (omega arith)
place-front (e ∷ es) ns key h = front_if (same_units e.key key) _ _ _ h (place-front es ns key)

behind_if : (b : Bool) (m n k j : ℕ)
    → suc n ≤ (if b then 0 else 1 + m)
    → (n ≤ m → k ≡ n + j)
    → (if b then 0 else 1 + k) ≡ suc n + j
behind_if true m n k j h e = absurd (omega arith)
behind_if false m n k j h e = let f : k ≡ n + j = e (omega arith) in omega arith

pub place-behind : (es ns : List Property) (key : List ℕ)
    → length es ≤ key_place es key
    → key_place (es ++ ns) key ≡ length es + key_place ns key
place-behind [] ns key h = omega arith
place-behind (e ∷ es) ns key h = behind_if (same_units e.key key) _ _ _ _ h (place-behind es ns key)

pub value-front : (es ns : List Property) (i : ℕ) (v : Value)
    → i < length es
    → with_value_at (es ++ ns) i v ≡ with_value_at es i v ++ ns
value-front [] ns i v h = absurd (omega arith)
value-front (e ∷ es) ns zero v h = refl
value-front (e ∷ es) ns (suc i) v h = ap {B = List Property} (λ qs. e ∷ qs) (value-front es ns i v (omega arith))

pub value-behind : (es ns : List Property) (i j : ℕ) (v : Value)
    → i ≡ length es + j
    → with_value_at (es ++ ns) i v ≡ es ++ with_value_at ns j v
value-behind [] ns i j v h = let e : i ≡ j = omega arith in ap (λ k. with_value_at ns k v) e
value-behind (e ∷ es) ns zero j v h = absurd (omega arith)
value-behind (e ∷ es) ns (suc i) j v h = ap {B = List Property} (λ qs. e ∷ qs) (value-behind es ns i j v (omega arith))

-- ---- a key that neither list has

pub has-front : (es ns : List Property) (key : List ℕ) → has_key (es ++ ns) key ≡ false → has_key es key ≡ false
has-front [] ns key h = refl
has-front (e ∷ es) ns key h =
    let t = or_parts (same_units e.key key) (has_key (es ++ ns) key) h in
    let u = has-front es ns key t.1 in
    cc

pub has-behind : (es ns : List Property) (key : List ℕ) → has_key (es ++ ns) key ≡ false → has_key ns key ≡ false
has-behind [] ns key h = h
has-behind (e ∷ es) ns key h = has-behind es ns key (or_parts (same_units e.key key) (has_key (es ++ ns) key) h).1

-- ---- a new property

before_name : (i : ℕ) (o p : Option ℕ) → o ≡ Some i → p ≡ None → stands_before o p ≡ true
before_name i o p e f = cc

if_true : (b : Bool) (xs ys : List Property) → b ≡ true → (if b then xs else ys) ≡ xs
if_true true xs ys e = refl
if_true false xs ys e = cc

placed_first : (ns : List Property) (p : Property) (i : ℕ)
    → AreNames ns
    → index_of_key p.key ≡ Some i
    → placed ns p ≡ p ∷ ns
placed_first [] p i h e = refl
placed_first (n ∷ ns) p i h e =
    if_true (stands_before (index_of_key p.key) (index_of_key n.key)) _ _ (before_name i _ _ e h.0)

placed_if : (b : Bool) (p e : Property) (es ns qs rs : List Property)
    → qs ≡ rs ++ ns
    → (if b then p ∷ e ∷ (es ++ ns) else e ∷ qs) ≡ (if b then p ∷ e ∷ es else e ∷ rs) ++ ns
placed_if true p e es ns qs rs h = refl
placed_if false p e es ns qs rs h = ap {B = List Property} (λ zs. e ∷ zs) h

-- an index stands among the elements
pub placed-index : (es ns : List Property) (p : Property) (i : ℕ)
    → AreNames ns
    → index_of_key p.key ≡ Some i
    → placed (es ++ ns) p ≡ placed es p ++ ns
placed-index [] ns p i h e = placed_first ns p i h e
placed-index (q ∷ es) ns p i h e =
    placed_if (stands_before (index_of_key p.key) (index_of_key q.key)) p q es ns _ _ (placed-index es ns p i h e)

no_name_before : (o p : Option ℕ) → o ≡ None → stands_before o p ≡ false
no_name_before o p e = cc

-- another key stands behind all
pub placed-name : (ps : List Property) (p : Property) → index_of_key p.key ≡ None → placed ps p ≡ ps ++ p ∷ []
placed-name [] p e = refl
placed-name (q ∷ ps) p e =
    if_false (stands_before (index_of_key p.key) (index_of_key q.key)) _ _ (no_name_before _ _ e)
    ∙ ap {B = List Property} (λ zs. q ∷ zs) (placed-name ps p e)

pub placed-behind : (es ns : List Property) (p : Property)
    → index_of_key p.key ≡ None
    → placed (es ++ ns) p ≡ es ++ (ns ++ p ∷ [])
placed-behind es ns p e = placed-name (es ++ ns) p e ∙ append_assoc es ns (p ∷ [])

-- ---- names

pub names-push : (ns : List Property) (p : Property) → AreNames ns → index_of_key p.key ≡ None → AreNames (ns ++ p ∷ [])
names-push [] p h e = (e, tt)
names-push (n ∷ ns) p h e = (h.0, names-push ns p h.1 e)

pub names-value : (ns : List Property) (i : ℕ) (v : Value) → AreNames ns → AreNames (with_value_at ns i v)
names-value [] i v h = tt
names-value (n ∷ ns) zero v h = h
names-value (n ∷ ns) (suc i) v h = (h.0, names-value ns i v h.1)

pub names-remove : (ns : List Property) (i : ℕ) → AreNames ns → AreNames (remove ns i)
names-remove [] zero h = tt
names-remove [] (suc i) h = tt
names-remove (n ∷ ns) zero h = h.1
names-remove (n ∷ ns) (suc i) h = (h.0, names-remove ns i h.1)

pub names-pushed : {T E : Type 0} (r : Result T E) (ns all : List Property) (p : Property)
    → AreNames ns
    → index_of_key p.key ≡ None
    → OnOk r (all ≡ ns ++ p ∷ [])
    → OnErr r (all ≡ ns)
    → AreNames all
names-pushed (Ok x) ns all p h e o f = rw o (names-push ns p h e)
names-pushed (Err x) ns all p h e o f = rw f h

-- what follows from what holds after a success
pub ok-then : {T E : Type 0} {P Q : Type 0} (r : Result T E) → (P → Q) → OnOk r P → OnOk r Q
ok-then (Ok x) f h = f h
ok-then (Err x) f h = h
