-- The parts of cells: own properties (ECMA-262, 6.1.7.1), and the names of scopes that have a value, in the order of own
-- keys (10.1.11).
use Rattle.std.specs.Prelude.{ℕ, ◌+◌, Bool, true, false, not, List, [], ◌∷◌, ◌++◌, map, length, codes, decimal, filter, Option, Some, None, pos}
use Rattle.js_heap.specs.declared.cell.Binding.{Binding}
use Rattle.js_heap.specs.declared.cell.Cell.{Cell}
use Rattle.js_heap.specs.declared.cell.Cell.TheVariants as cells
use Rattle.js_heap.specs.declared.cell.Property.{Property}
use Rattle.js_heap.specs.declared.value.Value.{Value}
use Rattle.js_heap.specs.declared.value.Value.TheVariants as values

-- a part: its key, its value, and its flags
pub record CellPart : Type 0 where
  pub key : List ℕ
  pub value : Value
  pub enumerable : Bool
  pub writable : Bool
  pub configurable : Bool

-- ---- objects

-- a property of an object
abbrev pub property_part : Property → CellPart
property_part p =
    record {
      key = p.key;
      value = p.value;
      enumerable = p.enumerable;
      writable = p.writable;
      configurable = p.configurable;
    }

-- the properties of an object
abbrev pub property_parts : List Property → List CellPart
property_parts ps = map property_part ps

-- ---- arrays

-- an element of an array, which can be changed in every way
abbrev pub element_part : ℕ → Value → CellPart
element_part i v = record { key = decimal i; value = v; enumerable = true; writable = true; configurable = true }

-- the elements of an array from an index on
abbrev pub elements_from : ℕ → List Value → List CellPart
elements_from i [] = []
elements_from i (v ∷ vs) = element_part i v ∷ elements_from (i + 1) vs

-- the length of an array, which can be written alone (10.4.2)
abbrev pub length_part : ℕ → CellPart
length_part n =
    record {
      key = codes "length";
      value = values.Number (pos n);
      enumerable = false;
      writable = true;
      configurable = false;
    }

-- ---- scopes

-- a name that has a value; a constant one can't be written
abbrev pub bound_part : List ℕ → Bool → Value → CellPart
bound_part name constant v =
    record { key = name; value = v; enumerable = true; writable = not constant; configurable = true }

-- a name: nothing before it has a value
abbrev pub name_parts : List ℕ → Bool → Option Value → List CellPart
name_parts name constant None = []
name_parts name constant (Some v) = bound_part name constant v ∷ []

-- names, in order
abbrev pub names_parts : List Binding → List CellPart
names_parts [] = []
names_parts (b ∷ bs) = name_parts b.name b.constant b.value ++ names_parts bs

-- ---- cells

-- those of an object, an error or an array; a text and a function have none, since what their properties hold has no cell
abbrev pub object_parts : Option Cell → List CellPart
object_parts (Some (cells.Object ps)) = property_parts ps
object_parts (Some (cells.Error class ps)) = property_parts ps
object_parts (Some (cells.Array vs)) = elements_from 0 vs ++ length_part (length vs) ∷ []
object_parts cell = []

-- those of a scope; another cell has none
abbrev pub scope_parts : Option Cell → List CellPart
scope_parts (Some (cells.Bindings kind name outer names)) = names_parts names
scope_parts cell = []

-- the enumerable ones
abbrev pub enumerable : List CellPart → List CellPart
enumerable ps = filter (λ p. p.enumerable) ps
