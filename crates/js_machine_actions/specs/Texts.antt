-- Texts and lists as code makes them.
use Rattle.std.specs.Prelude.{ℕ, List, [], ◌∷◌, Option, Some, None, ℤ, pos, negsuc, slice_get, if◌then◌else◌}
use Rattle.js_heap.specs.declared.value.Addr.{Addr}
use Rattle.js_heap.specs.declared.value.Value.{Value}
use Rattle.js_heap.specs.declared.cell.Property.{Property}
use Rattle.js_heap.specs.declared.cell.Cell.{Cell}
use Rattle.js_heap.specs.declared.cell.Cell.TheVariants as cells
use Rattle.js_heap.specs.World.{World, read_cell}

-- ---- arrays and texts at an address

-- the elements of an array; any other cell has none
abbrev pub elements_of_cell : Option Cell → List Value
elements_of_cell (Some (cells.Array vs)) = vs
elements_of_cell _ = []

-- the elements of the array at an address
abbrev pub elements_at : World → Addr → List Value
elements_at w a = elements_of_cell (read_cell w a)

-- the two ends of a part; none where an argument names no place
abbrev pub both_places : Option ℕ → Option ℕ → Option (ℕ × ℕ)
both_places (Some i) (Some j) = Some (i, j)
both_places _ _ = None

-- the unit of an index
abbrev pub unit_of : List ℕ → ℤ → Option ℕ
unit_of us (pos i) = slice_get us i
unit_of us (negsuc i) = None

-- ---- keys

-- the key of a property, if there is one that is enumerable
abbrev pub key_if : Option Property → List (List ℕ)
key_if None = []
key_if (Some p) = if p.enumerable then p.key ∷ [] else []
