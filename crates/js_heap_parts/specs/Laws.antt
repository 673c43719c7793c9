-- What holds of the parts of cells.
use Rattle.std.specs.Prelude.{◌≡◌, ℕ, ◌+◌, List, [], ◌∷◌, ◌++◌, map, length, codes, decimal, slice_get, option_map, if◌then◌else◌, Option, Some, None}
use Rattle.js_heap.specs.declared.cell.Binding.{Binding}
use Rattle.js_heap.specs.declared.cell.Cell.{Cell}
use Rattle.js_heap.specs.declared.cell.Cell.TheVariants as cells
use Rattle.js_heap.specs.declared.cell.Property.{Property}
use Rattle.js_heap.specs.declared.value.Value.{Value}
use Rattle.js_heap.specs.Keys.{property_at, same_units}
use Rattle.js_heap_parts.specs.Parts.{CellPart, element_part, length_part, object_parts, property_part, scope_parts}

-- ---- own keys (ECMA-262, 10.1.11)

-- the key of a part
abbrev pub part_key : CellPart → List ℕ
part_key p = p.key

-- the key of a property
abbrev pub property_key : Property → List ℕ
property_key p = p.key

-- the indices of an array from one on, in ascending order
abbrev pub indices_from : ℕ → List Value → List (List ℕ)
indices_from i [] = []
indices_from i (v ∷ vs) = decimal i ∷ indices_from (i + 1) vs

-- a name, if it has a value
abbrev pub name_if : List ℕ → Option Value → List (List ℕ)
name_if name None = []
name_if name (Some v) = name ∷ []

-- those of these names that have a value
abbrev pub bound_names : List Binding → List (List ℕ)
bound_names [] = []
bound_names (b ∷ bs) = name_if b.name b.value ++ bound_names bs

-- the own keys of an object, in order: those of its properties, or the indices of an array and `length`
abbrev pub own_keys : Option Cell → List (List ℕ)
own_keys (Some (cells.Object ps)) = map property_key ps
own_keys (Some (cells.Error class ps)) = map property_key ps
own_keys (Some (cells.Array vs)) = indices_from 0 vs ++ codes "length" ∷ []
own_keys cell = []

-- the names of a scope that have a value
abbrev pub scope_keys : Option Cell → List (List ℕ)
scope_keys (Some (cells.Bindings kind name outer names)) = bound_names names
scope_keys cell = []

-- the parts have these keys
abbrev pub HaveOwnKeys : Type 0
HaveOwnKeys =
    (cell : Option Cell)
    → (map part_key (object_parts cell) ≡ own_keys cell) × (map part_key (scope_parts cell) ≡ scope_keys cell)

-- ---- values and flags

-- the part of a key
abbrev pub part_at : List CellPart → List ℕ → Option CellPart
part_at [] key = None
part_at (p ∷ ps) key = if same_units p.key key then Some p else part_at ps key

-- the part of a key is the property of that key
abbrev pub HaveProperties : Type 0
HaveProperties =
    (ps : List Property) (key : List ℕ)
    → part_at (object_parts (Some (cells.Object ps))) key ≡ option_map property_part (property_at ps key)

-- the part at an index is the element there; behind the elements stands the length
abbrev pub HaveElements : Type 0
HaveElements =
    (vs : List Value)
    → ((i : ℕ) (v : Value)
    → slice_get vs i ≡ Some v
    → slice_get (object_parts (Some (cells.Array vs))) i ≡ Some (element_part i v))
    × (slice_get (object_parts (Some (cells.Array vs))) (length vs) ≡ Some (length_part (length vs)))
