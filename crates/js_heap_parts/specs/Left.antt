-- What is left of a cell's parts.
use Rattle.std.specs.Prelude.{◌≡◌, ℕ, List, [], ◌∷◌, ◌++◌, drop, length, Option, MatchOption}
use Rattle.js_heap.specs.declared.cell.Property.{Property}
use Rattle.js_heap.specs.declared.value.Value.{Value}
use Rattle.js_heap_memory.specs.Cells.{bindings}
use Rattle.js_heap_parts.specs.Parts.{CellPart, elements_from, length_part, names_parts, property_parts}
use Rattle.js_heap_parts.specs.Shown.{part_shown}
use Rattle.js_heap_parts.specs.declared.left.Left.{Left}
use Rattle.js_heap_parts.specs.declared.left.Left.TheVariants as left
use Rattle.js_heap_parts.specs.declared.part.Part.{Part}

-- the properties from a place on
abbrev pub properties_left : List Property → ℕ → List CellPart
properties_left ps place = property_parts (drop place ps)

-- the elements from an index on, and the length behind them
abbrev pub elements_left : List Value → ℕ → List CellPart
elements_left vs i = elements_from i (drop i vs) ++ length_part (length vs) ∷ []

-- the parts that are still to come
abbrev pub parts_left : Left → List CellPart
parts_left left.Nothing = []
parts_left (left.Properties ps place) = properties_left ps.now place
parts_left (left.Elements vs i) = elements_left vs.now i
parts_left (left.Names n) = names_parts (bindings n.names.now n.slots.now)

-- these are the first part and what is left behind it
abbrev pub SplitsOff : List CellPart → Part × Left → Type 0
SplitsOff ps s = ps ≡ part_shown s.0 ∷ parts_left s.1

-- they are, where there is one
abbrev pub Splits : List CellPart → Option (Part × Left) → Type 0
Splits ps r = MatchOption r (ps ≡ []) (SplitsOff ps)
