-- The laws of parts.
use Rattle.std.proofs.Common.{◌≡◌, ℕ, zero, suc, ◌+◌, List, [], ◌∷◌, ◌++◌, length, codes, decimal, Bool, true, false, if◌then◌else◌, Option, Some, None, refl, sym, ap, ◌∙◌, arith}
use Rattle.std.specs.Prelude.{map, slice_get, option_map}
use Rattle.std.proofs.lemmas.Option.{same_Some}
use Rattle.js_heap.specs.declared.cell.Binding.{Binding}
use Rattle.js_heap.specs.declared.cell.Cell.TheVariants as cells
use Rattle.js_heap.specs.declared.cell.Property.{Property}
use Rattle.js_heap.specs.declared.value.Value.{Value}
use Rattle.js_heap.specs.Keys.{property_at, same_units}
use Rattle.js_heap_parts.specs.Parts.{CellPart, element_part, elements_from, length_part, name_parts, names_parts, property_part, property_parts}
use Rattle.js_heap_parts.specs.Laws.{HaveElements, HaveOwnKeys, HaveProperties, bound_names, indices_from, name_if, part_at, part_key, property_key}

-- ---- own keys

property_keys : (ps : List Property) → map part_key (property_parts ps) ≡ map property_key ps
property_keys [] = refl
property_keys (p ∷ ps) = ap (λ ks. p.key ∷ ks) (property_keys ps)

element_keys : (i n : ℕ) (vs : List Value)
    → map part_key (elements_from i vs ++ length_part n ∷ []) ≡ indices_from i vs ++ codes "length" ∷ []
element_keys i n [] = refl
element_keys i n (v ∷ vs) = ap (λ ks. decimal i ∷ ks) (element_keys (i + 1) n vs)

name_keys : (name : List ℕ) (constant : Bool) (value : Option Value) (ps : List CellPart) (ks : List (List ℕ))
    → map part_key ps ≡ ks
    → map part_key (name_parts name constant value ++ ps) ≡ name_if name value ++ ks
name_keys name constant None ps ks e = e
name_keys name constant (Some v) ps ks e = ap (λ xs. name ∷ xs) e

names_keys : (bs : List Binding) → map part_key (names_parts bs) ≡ bound_names bs
names_keys [] = refl
names_keys (b ∷ bs) = name_keys b.name b.constant b.value (names_parts bs) (bound_names bs) (names_keys bs)

pub have-own-keys : HaveOwnKeys
have-own-keys (Some (cells.Object ps)) = (property_keys ps, refl)
have-own-keys (Some (cells.Error class ps)) = (property_keys ps, refl)
have-own-keys (Some (cells.Array vs)) = (element_keys 0 (length vs) vs, refl)
have-own-keys (Some (cells.Bindings kind name outer names)) = (refl, names_keys names)
have-own-keys (Some (cells.Text us)) = (refl, refl)
have-own-keys (Some (cells.Function code name len scope receiver)) = (refl, refl)
have-own-keys None = (refl, refl)

-- ---- values and flags

chosen : (b : Bool) (p : Property) (parted : Option CellPart) (found : Option Property)
    → parted ≡ option_map property_part found
    → (if b then Some (property_part p) else parted) ≡ option_map property_part (if b then Some p else found)
chosen true p parted found e = refl
chosen false p parted found e = e

pub have-properties : HaveProperties
have-properties [] key = refl
have-properties (p ∷ ps) key =
    chosen (same_units p.key key) p (part_at (property_parts ps) key) (property_at ps key) (have-properties ps key)

element_at : (j i n : ℕ) (vs : List Value) (v : Value) → slice_get vs i ≡ Some v
    → slice_get (elements_from j vs ++ length_part n ∷ []) i ≡ Some (element_part (j + i) v)
element_at j i n [] v e = cc
element_at j zero n (x ∷ vs) v e =
    let same : x ≡ v = same_Some x v e in
    let here : j + zero ≡ j = omega arith in
    ap (λ y. Some (element_part j y)) same ∙ ap (λ k. Some (element_part k v)) (sym here)
element_at j (suc i) n (x ∷ vs) v e =
    let here : (j + 1) + i ≡ j + suc i = omega arith in
    element_at (j + 1) i n vs v e ∙ ap (λ k. Some (element_part k v)) here

length_at : (j n : ℕ) (vs : List Value)
    → slice_get (elements_from j vs ++ length_part n ∷ []) (length vs) ≡ Some (length_part n)
length_at j n [] = refl
length_at j n (v ∷ vs) = length_at (j + 1) n vs

pub have-elements : HaveElements
have-elements vs = (
  λ i v e.
      let here : 0 + i ≡ i = omega arith in
      element_at 0 i (length vs) vs v e ∙ ap (λ k. Some (element_part k v)) here,
  length_at 0 (length vs) vs,
)
