-- The cells that stored ones stand for, with texts for the numbers of names.
use Rattle.std.specs.Prelude.{ℕ, ◌+◌, ◌<◌, List, [], ◌∷◌, Option, Some, None, false}
use Rattle.js_heap.specs.declared.value.Value.{Value}
use Rattle.js_heap.specs.declared.cell.Binding.{Binding}
use Rattle.js_heap.specs.declared.cell.Cell.{Cell}
use Rattle.js_heap.specs.declared.cell.Cell.TheVariants as cells
use Rattle.js_heap.specs.Arguments.{argument}
use Rattle.js_heap_memory.specs.Names.{name_of}
use Rattle.js_heap_memory.specs.declared.names.NameId.{NameId}
use Rattle.js_heap_memory.specs.declared.stored.Slot.{Slot}
use Rattle.js_heap_memory.specs.declared.stored.FunctionName.{FunctionName}
use Rattle.js_heap_memory.specs.declared.stored.FunctionName.TheVariants as function_names
use Rattle.js_heap_memory.specs.declared.stored.FunctionCell.{FunctionCell}
use Rattle.js_heap_memory.specs.declared.stored.Stored.{Stored}
use Rattle.js_heap_memory.specs.declared.stored.Stored.TheVariants as stored

-- ---- texts for numbers

-- the text of a function's name
abbrev pub name_text : List (List ℕ) → FunctionName → List ℕ
name_text ts function_names.Empty = []
name_text ts (function_names.Known n) = name_of ts n.number
name_text ts (function_names.Made text) = text.value

-- a name of a scope
abbrev pub binding_at : List (List ℕ) → Slot → Binding
binding_at ts s = record { name = name_of ts s.name.number; constant = s.constant; value = s.value }

-- the names of a scope in their order
abbrev pub bindings : List (List ℕ) → List Slot → List Binding
bindings ts [] = []
bindings ts (s ∷ ss) = binding_at ts s ∷ bindings ts ss

-- the function that a stored one stands for
abbrev pub function_cell : List (List ℕ) → FunctionCell → Cell
function_cell ts f = cells.Function f.code (name_text ts f.name) f.length f.scope f.this

-- the cell that a stored one stands for
abbrev pub cell_of : List (List ℕ) → Stored → Cell
cell_of ts (stored.Object ps) = cells.Object ps
cell_of ts (stored.Error class ps) = cells.Error class ps
cell_of ts (stored.Array vs) = cells.Array vs
cell_of ts (stored.Text us) = cells.Text us
cell_of ts (stored.Function f) = function_cell ts f.value
cell_of ts (stored.Scope k n o ss) = cells.Bindings k (name_text ts n) o (bindings ts ss)

-- the cell that a stored one stands for, where there is one
abbrev pub cell_at : List (List ℕ) → Option Stored → Option Cell
cell_at ts None = None
cell_at ts (Some c) = Some (cell_of ts c)

-- the cells that stored ones stand for
abbrev pub cells_of : List (List ℕ) → List Stored → List Cell
cells_of ts [] = []
cells_of ts (c ∷ cs) = cell_of ts c ∷ cells_of ts cs

-- ---- by numbers

-- the texts of some names
abbrev pub texts_of : List (List ℕ) → List NameId → List (List ℕ)
texts_of ts [] = []
texts_of ts (n ∷ ns) = name_of ts n.number ∷ texts_of ts ns

-- parameters with their arguments
abbrev pub slots_from : ℕ → List NameId → List Value → List Slot
slots_from i [] args = []
slots_from i (n ∷ ns) args =
    record { name = n; constant = false; value = Some (argument args i) } ∷ slots_from (i + 1) ns args

-- ---- only numbers below one

-- all names of a scope are numbers below one
abbrev pub SlotsWithin : ℕ → List Slot → Type 0
SlotsWithin n [] = Unit {0}
SlotsWithin n (s ∷ ss) = (s.name.number < n) × SlotsWithin n ss

-- the name of a function is a number below one, where it is a number
abbrev pub NameWithin : ℕ → FunctionName → Type 0
NameWithin n (function_names.Known m) = m.number < n
NameWithin n _ = Unit {0}

-- all names in a stored cell are numbers below one
abbrev pub Within : ℕ → Stored → Type 0
Within n (stored.Function f) = NameWithin n f.value.name
Within n (stored.Scope k name o ss) = NameWithin n name × SlotsWithin n ss
Within n _ = Unit {0}

-- all names in stored cells are numbers below one
abbrev pub AllWithin : ℕ → List Stored → Type 0
AllWithin n [] = Unit {0}
AllWithin n (c ∷ cs) = Within n c × AllWithin n cs
