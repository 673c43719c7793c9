-- The cells that a run begins with.
use Rattle.std.specs.Prelude.{◌≡◌, ℕ, Bool, true, List, [], ◌∷◌, ◌++◌, length}
use Rattle.js_heap.specs.declared.value.Addr.{Addr}
use Rattle.js_heap.specs.declared.value.Value.TheVariants as values
use Rattle.js_heap.specs.declared.cell.Binding.{Binding}
use Rattle.js_heap.specs.declared.cell.Cell.{Cell}
use Rattle.js_heap.specs.declared.cell.Cell.TheVariants as cells
use Rattle.js_heap_memory.specs.declared.stored.Slot.{Slot}
use Rattle.js_heap_memory.specs.declared.stored.Stored.{Stored}
use Rattle.js_heap_memory.specs.Cells.{bindings, cell_of, cells_of, SlotsWithin, Within, AllWithin}

-- an object with a function as its only property
abbrev pub holder : Bool → List ℕ → Addr → Cell
holder enumerable key a =
    cells.Object
    (record { key = key; value = values.Object a; writable = true; enumerable = enumerable; configurable = true } ∷ [])

-- a cell that is of any table of names
abbrev pub IsCell : Stored → Cell → Type 0
IsCell c d = ((ts : List (List ℕ)) → cell_of ts c ≡ d) × ((end : ℕ) → Within end c)

-- a cell of the names of a table
pub record IsCellOf (ts : List (List ℕ)) (c : Stored) (d : Cell) : Type 0 where
  pub cell : cell_of ts c ≡ d
  pub within : Within (length ts) c

-- names of a table that are added to a scope
pub record GainsNames (ts : List (List ℕ)) (ss rs : List Slot) (new : List Binding) : Type 0 where
  pub names : bindings ts rs ≡ bindings ts ss ++ new
  pub within : SlotsWithin (length ts) ss → SlotsWithin (length ts) rs

-- cells of a table that are added to others
pub record GainsCells (ts : List (List ℕ)) (cs ds : List Stored) (new : List Cell) : Type 0 where
  pub cells : cells_of ts ds ≡ cells_of ts cs ++ new
  pub within : AllWithin (length ts) cs → AllWithin (length ts) ds
