-- Previews of objects (Chrome DevTools Protocol 1.3, `Runtime.ObjectPreview` and `Runtime.PropertyPreview`): the first
-- of their enumerable properties in short, without handles.
use Rattle.std.specs.Prelude.{ℕ, ◌+◌, Bool, true, false, List, [], ◌∷◌, ◌++◌, map, length, take, codes, decimal, nat_lt, nat_le, if◌then◌else◌, Option, Some}
use Rattle.js_heap.specs.declared.cell.Cell.{Cell}
use Rattle.js_heap.specs.declared.cell.Cell.TheVariants as cells
use Rattle.js_heap.specs.declared.cell.Property.{Property}
use Rattle.js_heap.specs.declared.value.Value.{Value}
use Rattle.js_heap.specs.declared.value.Value.TheVariants as values
use Rattle.js_heap.specs.Values.{cell_text, shown, type_text}
use Rattle.js_heap.specs.World.{World, read_cell}
use Rattle.cdp_json.specs.Json.{Json, boolean, text}
use Rattle.cdp_json.specs.Parts.{Pair, list_of, object_of}
use Rattle.remote_objects.specs.Values.{array_text, subtyped}

-- ---- texts

-- a text of more than 100 units is cut to 99 and an ellipsis
abbrev pub shortened : List ℕ → List ℕ
shortened units = if nat_le (length units) 100 then units else take 99 units ++ 8230 ∷ []

-- what is shown of a cell; of a function nothing
abbrev pub cell_description : World → Option Cell → List ℕ
cell_description w (Some (cells.Error class ps)) = cell_text w (Some (cells.Error class ps))
cell_description w (Some (cells.Array vs)) = array_text (length vs)
cell_description w (Some (cells.Function code name len scope receiver)) = []
cell_description w cell = codes "Object"

-- what is shown of a value: a primitive one's text, or what is shown of its cell
abbrev pub value_text : World → Value → List ℕ
value_text w (values.Object a) = cell_description w (read_cell w a)
value_text w v = shown w v

-- ---- subtypes; empty where there is none

-- the subtype of a cell
abbrev pub cell_subtype : Option Cell → List ℕ
cell_subtype (Some (cells.Error class ps)) = codes "error"
cell_subtype (Some (cells.Array vs)) = codes "array"
cell_subtype cell = []

-- the subtype of a value
abbrev pub value_subtype : World → Value → List ℕ
value_subtype w values.Null = codes "null"
value_subtype w (values.Object a) = cell_subtype (read_cell w a)
value_subtype w v = []

-- the member that names it, if there is one
abbrev pub subtype_pairs : List ℕ → List Pair
subtype_pairs [] = []
subtype_pairs (u ∷ us) = subtyped (u ∷ us)

-- ---- properties

-- an enumerable own property: its name and its value
pub record PreviewedProperty : Type 0 where
  pub name : List ℕ
  pub value : Value

-- the entry of this name and value
abbrev pub entry : List ℕ → Value → PreviewedProperty
entry name value = record { name = name; value = value }

-- a property, if it is enumerable
abbrev pub entry_if : Property → List PreviewedProperty
entry_if p = if p.enumerable then entry p.key p.value ∷ [] else []

-- the enumerable ones of these properties
abbrev pub enumerable : List Property → List PreviewedProperty
enumerable [] = []
enumerable (p ∷ ps) = entry_if p ++ enumerable ps

-- the elements of an array from an index on
abbrev pub indexed : ℕ → List Value → List PreviewedProperty
indexed i [] = []
indexed i (v ∷ vs) = entry (decimal i) v ∷ indexed (i + 1) vs

-- the entries of a cell, in order (ECMA-262, 10.1.11)
abbrev pub entries : Option Cell → List PreviewedProperty
entries (Some (cells.Object ps)) = enumerable ps
entries (Some (cells.Error class ps)) = enumerable ps
entries (Some (cells.Array vs)) = indexed 0 vs
entries cell = []

-- an entry in short
abbrev pub property_preview : World → PreviewedProperty → Json
property_preview w e = object_of (
    (codes "name", text (shortened e.name))
    ∷ (codes "type", text (type_text w e.value))
    ∷ (codes "value", text (shortened (value_text w e.value)))
    ∷ subtype_pairs (value_subtype w e.value))

-- ---- objects

-- the first of a list, and whether there are more
pub record PreviewList : Type 0 where
  pub first : List Json
  pub more : Bool

-- the first so many
abbrev pub first_of : ℕ → List Json → PreviewList
first_of n js = record { first = take n js; more = nat_lt n (length js) }

-- so many are listed of an array's elements, and of another object's properties
abbrev pub most_listed : Option Cell → ℕ
most_listed (Some (cells.Array vs)) = 100
most_listed cell = 5

-- the first properties of a cell in short
abbrev pub listed : World → Option Cell → PreviewList
listed w cell = first_of (most_listed cell) (map (property_preview w) (entries cell))

-- a preview of this description, with these properties and a subtype, where there is one
abbrev pub preview_of : List ℕ → PreviewList → List ℕ → Json
preview_of description l subtype = object_of (
    (codes "description", text (shortened description))
    ∷ (codes "overflow", boolean l.more)
    ∷ (codes "properties", list_of l.first)
    ∷ (codes "type", text (codes "object"))
    ∷ subtype_pairs subtype)

-- the preview of a cell
abbrev pub preview : World → Option Cell → Json
preview w cell = preview_of (cell_description w cell) (listed w cell) (cell_subtype cell)

-- an object, an array or an error has one; a function has none
abbrev pub has_preview : Option Cell → Bool
has_preview (Some (cells.Function code name len scope receiver)) = false
has_preview cell = true

-- the member that has it, if the cell has one
abbrev pub preview_pairs : World → Option Cell → List Pair
preview_pairs w cell = if has_preview cell then (codes "preview", preview w cell) ∷ [] else []
