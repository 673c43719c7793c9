-- The names of scopes.
use Rattle.std.specs.Prelude.{ℕ, List, [], map, Option, Some}
use Rattle.js_heap.specs.declared.cell.Binding.{Binding}
use Rattle.js_heap.specs.declared.cell.Cell.{Cell}
use Rattle.js_heap.specs.declared.cell.Cell.TheVariants as cells
use Rattle.js_heap.specs.declared.value.Addr.{Addr}
use Rattle.js_heap.specs.World.{World, read_cell}

-- the name alone
abbrev pub binding_name : Binding → List ℕ
binding_name b = b.name

-- the names of a scope with this cell in the order in which they were declared, also those without a value yet; another
-- cell has none
abbrev pub names_of_cell : Option Cell → List (List ℕ)
names_of_cell (Some (cells.Bindings kind name outer names)) = map binding_name names
names_of_cell cell = []

-- the names of the scope at an address, in that order
abbrev pub declared_names : World → Addr → List (List ℕ)
declared_names w a = names_of_cell (read_cell w a)
