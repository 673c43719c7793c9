-- Cells: their kinds, what they count, and their changes.
use Rattle.std.specs.Prelude.{ℕ, ◌+◌, ◌*◌, Bool, List, [], ◌∷◌, ◌++◌, length, take, slice_set, Option, Some, None, nat_lt, nat_le, if◌then◌else◌}
use Rattle.std.specs.Option.{is_some}
use Rattle.js_heap.specs.declared.value.Value.{Value}
use Rattle.js_heap.specs.declared.cell.Property.{Property}
use Rattle.js_heap.specs.declared.cell.Binding.{Binding}
use Rattle.js_heap.specs.declared.cell.Cell.{Cell}
use Rattle.js_heap.specs.declared.cell.Cell.TheVariants as cells
use Rattle.js_heap.specs.declared.change.Change.{Change}
use Rattle.js_heap.specs.declared.change.Change.TheVariants as changes
use Rattle.js_heap.specs.Keys.{same_units, put_property, without_key}

-- what kind of cell it is
pub data CellKind : Type 0 where
  an_object an_error an_array a_text a_function a_scope : CellKind

-- the kind of a cell
abbrev pub kind_of : Cell → CellKind
kind_of (cells.Object ps) = an_object
kind_of (cells.Error class ps) = an_error
kind_of (cells.Array vs) = an_array
kind_of (cells.Text us) = a_text
kind_of (cells.Function code n l s t) = a_function
kind_of (cells.Bindings k n o ns) = a_scope

-- ---- counting

-- a property counts 8 units and those of its key
abbrev pub property_weight : Property → ℕ
property_weight p = 8 + length p.key

-- what properties count together
abbrev pub properties_weight : List Property → ℕ
properties_weight [] = 0
properties_weight (p ∷ ps) = property_weight p + properties_weight ps

-- a text counts its units, each property, element and binding 8 units
abbrev pub weight : Cell → ℕ
weight (cells.Object ps) = properties_weight ps
weight (cells.Error class ps) = properties_weight ps
weight (cells.Array vs) = 8 * length vs
weight (cells.Text us) = length us
weight (cells.Function code n l s t) = 0
weight (cells.Bindings k n o ns) = 8 * length ns

-- ---- scopes

-- a name's binding
abbrev pub binding_of : List Binding → List ℕ → Option Binding
binding_of [] n = None
binding_of (b ∷ bs) n = if same_units b.name n then Some b else binding_of bs n

-- a declared name has a value
abbrev pub bound : List Binding → List ℕ → Value → List Binding
bound [] n v = []
bound (b ∷ bs) n v = if same_units b.name n then record b { value = Some v } ∷ bs else b ∷ bound bs n v

-- a name without a value
abbrev pub declared : List ℕ → Bool → Binding
declared n constant = record { name = n; constant = constant; value = None }

-- ---- changes

-- an element up to the length; at the length it is one more
abbrev pub with_element : List Value → ℕ → Value → List Value
with_element vs i v = if nat_lt i (length vs) then slice_set vs i v else vs ++ v ∷ []

-- the cell after a change of its kind; no other change is one
abbrev pub changed : Cell → Change → Option Cell
changed (cells.Object ps) (changes.Put k v) = Some (cells.Object (put_property ps k v))
changed (cells.Object ps) (changes.Remove k) = Some (cells.Object (without_key ps k))
changed (cells.Error class ps) (changes.Put k v) = Some (cells.Error class (put_property ps k v))
changed (cells.Error class ps) (changes.Remove k) = Some (cells.Error class (without_key ps k))
changed (cells.Array vs) (changes.Element i v) =
    if nat_le i (length vs) then Some (cells.Array (with_element vs i v)) else None
changed (cells.Array vs) (changes.Length l) = if nat_le l (length vs) then Some (cells.Array (take l vs)) else None
changed (cells.Bindings k n o ns) (changes.Declare d constant) =
    Some (cells.Bindings k n o (ns ++ declared d constant ∷ []))
changed (cells.Bindings k n o ns) (changes.Bind d v) =
    if is_some (binding_of ns d) then Some (cells.Bindings k n o (bound ns d v)) else None
changed _ _ = None
