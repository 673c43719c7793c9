-- Lemmas on the own properties of an object.
use Rattle.std.proofs.Common.{◌≡◌, ℕ, ◌+◌, ◌<◌, ◌≤◌, Bool, true, false, List, [], ◌∷◌, length, Option, Some, refl, ap, ◌∙◌, if◌then◌else◌}
use Rattle.std.specs.Prelude.{slice_get}
use Rattle.std.proofs.lemmas.Bool.{lt-ltb, le-ltb}
use Rattle.js_heap.specs.declared.value.Value.{Value}
use Rattle.js_heap.specs.declared.cell.Property.{Property}
use Rattle.js_heap.specs.Keys.{property_at, same_units, has_key, with_value, placed, put_property, assigned}
use Rattle.js_heap.specs.Places.{key_place}
use Rattle.js_heap_memory.specs.PropertyOrder.{with_value_at}
use Rattle.js_heap.proofs.PlaceLemmas.{has-place, one_plus, put_if as put_old}

put_if : (b : Bool) (ps : List Property) (key : List ℕ) (v : Value)
    → b ≡ false
    → (if b then with_value ps key v else placed ps (assigned key v)) ≡ placed ps (assigned key v)
put_if true ps key v e = cc
put_if false ps key v e = refl

-- a value under a new key is one more property
pub put-new : (ps : List Property) (key : List ℕ) (v : Value)
    → has_key ps key ≡ false
    → put_property ps key v ≡ placed ps (assigned key v)
put-new ps key v e = put_if (has_key ps key) ps key v e

pub put-past : (ps : List Property) (key : List ℕ) (v : Value)
    → length ps ≤ key_place ps key
    → put_property ps key v ≡ placed ps (assigned key v)
put-past ps key v h = put-new ps key v (has-place ps key ∙ le-ltb (key_place ps key) (length ps) h)

found_if : (b : Bool) (p : Property) (ps : List Property) (n : ℕ) (o : Option Property)
    → o ≡ slice_get ps n
    → (if b then Some p else o) ≡ slice_get (p ∷ ps) (if b then 0 else 1 + n)
found_if true p ps n o e = refl
found_if false p ps n o e = rw (one_plus n) e

-- a key's property stands at its place
pub find-place : (ps : List Property) (key : List ℕ) → property_at ps key ≡ slice_get ps (key_place ps key)
find-place [] key = refl
find-place (p ∷ ps) key = found_if (same_units p.key key) p ps _ _ (find-place ps key)

value_if : (b : Bool) (p : Property) (ps : List Property) (n : ℕ) (v : Value) (qs : List Property)
    → qs ≡ with_value_at ps n v
    → (if b then record p { value = v } ∷ ps else p ∷ qs) ≡ with_value_at (p ∷ ps) (if b then 0 else 1 + n) v
value_if true p ps n v qs e = refl
value_if false p ps n v qs e = rw (one_plus n) (ap {B = List Property} (λ zs. p ∷ zs) e)

value-place : (ps : List Property) (key : List ℕ) (v : Value)
    → with_value ps key v ≡ with_value_at ps (key_place ps key) v
value-place [] key v = refl
value-place (p ∷ ps) key v = value_if (same_units p.key key) p ps _ v _ (value-place ps key v)

-- a value under a key that is there changes the property at its place
pub put-there : (ps : List Property) (key : List ℕ) (v : Value)
    → key_place ps key < length ps
    → put_property ps key v ≡ with_value_at ps (key_place ps key) v
put-there ps key v h =
    put_old (has_key ps key) ps key v (has-place ps key ∙ lt-ltb (key_place ps key) (length ps) h)
    ∙ value-place ps key v

pub has-past : (ps : List Property) (key : List ℕ) → length ps ≤ key_place ps key → has_key ps key ≡ false
has-past ps key h = has-place ps key ∙ le-ltb (key_place ps key) (length ps) h
