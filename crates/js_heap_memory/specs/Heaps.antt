-- A heap without its table of names, and the world that it is with one.
use Rattle.std.specs.Prelude.{ℕ, zero, suc, ◌+◌, ◌<◌, ◌^◌, ◌≡◌, Bool, true, ◌&&◌, nat_lt, List, [], ◌∷◌, length, None, Result, Ok, Err}
use Rattle.js_heap.specs.declared.value.Value.{Value}
use Rattle.js_heap.specs.declared.change.Counted.TheVariants as counted
use Rattle.js_heap.specs.World.{World}
use Rattle.js_heap_memory.specs.declared.stored.Slot.{Slot}
use Rattle.js_heap_memory.specs.declared.stored.FunctionName.{FunctionName}
use Rattle.js_heap_memory.specs.declared.stored.FunctionName.TheVariants as function_names
use Rattle.js_heap_memory.specs.declared.stored.Stored.{Stored}
use Rattle.js_heap_memory.specs.declared.stored.Stored.TheVariants as stored
use Rattle.js_heap_memory.specs.declared.world.Refused.{Refused}
use Rattle.js_heap_memory.specs.declared.world.Refused.TheVariants.{Effect, Full, Memory}
use Rattle.js_heap_memory.specs.Cells.{AllWithin, cells_of}
use Rattle.js_heap_memory.specs.Places.{with_value_at}

-- ---- whether all names are known

-- all names of a scope are numbers below one
abbrev pub all_below : List Slot → ℕ → Bool
all_below [] n = true
all_below (s ∷ ss) n = nat_lt s.name.number n && all_below ss n

-- the name of a function is a number below one, where it is a number
abbrev pub is_below : FunctionName → ℕ → Bool
is_below (function_names.Known m) n = nat_lt m.number n
is_below _ n = true

-- only numbers below one
abbrev pub is_within : Stored → ℕ → Bool
is_within (stored.Function f) n = is_below f.value.name n
is_within (stored.Scope k name o ss) n = is_below name n && all_below ss n
is_within _ n = true

-- ---- a value for the name at a place of the scope at a place

-- the scope with that value; what is no scope stays as it is
abbrev pub value_in_cell : Stored → ℕ → Value → Stored
value_in_cell (stored.Scope k n o ss) place v = stored.Scope k n o (with_value_at ss place v)
value_in_cell c place v = c

-- the cells, of which the scope at the first place has that value
abbrev pub value_in_cells : List Stored → ℕ → ℕ → Value → List Stored
value_in_cells [] i place v = []
value_in_cells (c ∷ cs) zero place v = value_in_cell c place v ∷ cs
value_in_cells (c ∷ cs) (suc i) place v = c ∷ value_in_cells cs i place v

-- ---- heaps

-- the program's cells and what is left of the room; names below `ends` are known
pub record Heap : Type 0 where
  pub cells : List Stored
  pub ends : ℕ
  pub cells_left : ℕ
  pub units_left : ℕ

-- the world of the program's own run
abbrev pub base_world : List (List ℕ) → List Stored → ℕ → ℕ → World
base_world ts cs cells_left units_left =
    record {
      base = cells_of ts cs;
      scratch = [];
      start = None;
      room = record {
        cells = cells_left;
        units = units_left;
      };
    }

-- the world that a heap is with a table of names
abbrev pub heap_world : List (List ℕ) → Heap → World
heap_world ts h = base_world ts h.cells h.cells_left h.units_left

-- all names are known, and places are numbers of 32 bits
pub record Fit (cs : List Stored) (ends cells_left : ℕ) : Type 0 where
  pub within : AllWithin ends cs
  pub places : length cs + cells_left < 2 ^ 32

-- ---- room for one more cell

-- the units left once there is one more cell of so many units, or the count that would pass its limit
abbrev pub MakesRoom : ℕ → ℕ → ℕ → Result ℕ Refused → Type 0
MakesRoom cells_left units_left units (Ok left) = (0 < cells_left) × (units + left ≡ units_left)
MakesRoom cells_left units_left units (Err (Full counted.Cells)) = cells_left ≡ 0
MakesRoom cells_left units_left units (Err (Full counted.Units)) = (0 < cells_left) × (units_left < units)
MakesRoom cells_left units_left units (Err Effect) = ⊥
MakesRoom cells_left units_left units (Err Memory) = ⊥
