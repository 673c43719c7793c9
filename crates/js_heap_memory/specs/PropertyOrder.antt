-- Properties beside what finds them: their keys, and the array indices that keys are.
use Rattle.std.specs.Prelude.{◌≡◌, ℕ, zero, suc, ◌<◌, ◌≤◌, List, [], ◌∷◌, Some, None, Result, MatchResult, length, slice_index, take, drop, false, Vec}
use Rattle.std.specs.List.{AllZip}
use Rattle.js_heap.specs.declared.value.Value.{Value}
use Rattle.js_heap.specs.declared.cell.Property.{Property}
use Rattle.js_heap.specs.Keys.{same_units, index_of_key, stands_before}

-- another value for the property at a place
abbrev pub with_value_at : List Property → ℕ → Value → List Property
with_value_at [] i v = []
with_value_at (p ∷ ps) zero v = record p { value = v } ∷ ps
with_value_at (p ∷ ps) (suc i) v = p ∷ with_value_at ps i v

-- these are the properties' keys, in their order
abbrev pub AreKeysOf : {Z : Type 0} → List (Vec ℕ Z) → List Property → Type 0
AreKeysOf ks ps = AllZip (λ k p. k.items ≡ p.key) ks ps

-- these are the array indices that the properties' keys are, in their order
abbrev pub AreIndicesOf : List ℕ → List Property → Type 0
AreIndicesOf is ps = AllZip (λ i p. index_of_key p.key ≡ Some i) is ps

-- all of these numbers are above one
abbrev pub AreAbove : ℕ → List ℕ → Type 0
AreAbove i [] = Unit {0}
AreAbove i (j ∷ js) = (i < j) × AreAbove i js

-- each number is below those behind it
abbrev pub Ascend : List ℕ → Type 0
Ascend [] = Unit {0}
Ascend (i ∷ is) = AreAbove i is × Ascend is

-- no key is an array index
abbrev pub AreNames : List Property → Type 0
AreNames [] = Unit {0}
AreNames (p ∷ ps) = (index_of_key p.key ≡ None) × AreNames ps

-- the place of a number among ascending ones, or else the place at which it would stand
abbrev pub IsSearched : List ℕ → ℕ → Result ℕ ℕ → Type 0
IsSearched is x r =
    MatchResult r (λ i. (i < length is) × (slice_index is i ≡ x))
    (λ i. (i ≤ length is)
    × ((k : ℕ) → k < i → slice_index is k < x)
    × ((k : ℕ) → i ≤ k → k < length is → x < slice_index is k))

-- a property may stand behind another: its key differs, and isn't one that stands before (ECMA-262, 10.1.11)
abbrev pub MayFollow : Property → Property → Type 0
MayFollow p q = (same_units p.key q.key ≡ false) × (stands_before (index_of_key q.key) (index_of_key p.key) ≡ false)

-- all of these properties may stand behind one
abbrev pub AllFollow : Property → List Property → Type 0
AllFollow p [] = Unit {0}
AllFollow p (q ∷ qs) = MayFollow p q × AllFollow p qs

-- the properties stand in the order of own keys, and no two have one key
abbrev pub AreInOrder : List Property → Type 0
AreInOrder [] = Unit {0}
AreInOrder (p ∷ ps) = AllFollow p ps × AreInOrder ps

-- the indices that the keys of the first properties are, where the others' keys are none
pub record AreLeading (is : List ℕ) (ps : List Property) : Type 0 where
  pub within : length is ≤ length ps
  pub indices : AreIndicesOf is (take (length is) ps)
  pub order : Ascend is
  pub names : AreNames (drop (length is) ps)
