-- Worlds: one finite map from addresses to cells, with its two counts, and the calls on it.
-- Addresses are given in sequence, so the map is two lists: the program's cells, and those that evaluations made.
use Rattle.std.specs.Prelude.{ℕ, ◌+◌, ◌-◌, Bool, true, false, List, [], ◌∷◌, ◌++◌, length, Option, Some, None, slice_get, slice_set, nat_lt, nat_le, if◌then◌else◌}
use Rattle.std.specs.Option.{is_some}
use Rattle.js_heap.specs.declared.value.Addr.{Addr}
use Rattle.js_heap.specs.declared.value.Addr.TheVariants.{Base, Scratch}
use Rattle.js_heap.specs.declared.cell.Cell.{Cell}
use Rattle.js_heap.specs.declared.change.Change.{Change}
use Rattle.js_heap.specs.declared.change.Counted.{Counted}
use Rattle.js_heap.specs.declared.change.Counted.TheVariants as counted
use Rattle.js_heap.specs.declared.limits.TheConstants.{MOST_CELLS, MOST_UNITS, MOST_SCRATCH_CELLS, MOST_SCRATCH_UNITS}
use Rattle.js_heap.specs.Cells.{weight, changed}

-- How much may still be made: the limit less what is counted. What isn't counted, as the built-in cells and
-- the cells of the scripts' string literals, never was taken from it. What is removed is given back.
pub record Room : Type 0 where
  pub cells : ℕ
  pub units : ℕ

-- start is None in the program's own run; in an evaluation it is the number of the first scratch cell that is its own
pub record World : Type 0 where
  pub base : List Cell
  pub scratch : List Cell
  pub start : Option ℕ
  pub room : Room

-- the limits of a run's cells
abbrev pub base_room : Room
base_room = record { cells = MOST_CELLS; units = MOST_UNITS }

-- the limits of a session's cells
abbrev pub scratch_room : Room
scratch_room = record { cells = MOST_SCRATCH_CELLS; units = MOST_SCRATCH_UNITS }

-- what a call on a world answers; a refusal has the world as it stays
pub data Tried (A : Type 0) : Type 0 where
  fine : (a : A) (w : World) → Tried A
  effect : Tried A
  full : Counted → Tried A

-- the cell at an address, if it is live
abbrev pub read_cell : World → Addr → Option Cell
read_cell w (Base i) = slice_get w.base i
read_cell w (Scratch i) = slice_get w.scratch i

-- in an evaluation, only the cells that it made may be written
abbrev pub is_own : Option ℕ → Addr → Bool
is_own None a = true
is_own (Some start) (Base i) = false
is_own (Some start) (Scratch i) = nat_le start i

-- ---- making

-- where a new cell stands: behind the others, in an evaluation behind those that evaluations made
abbrev pub next_address : World → Option ℕ → Addr
next_address w None = Base (length w.base)
next_address w (Some start) = Scratch (length w.scratch)

-- the world with that cell
abbrev pub with_cell : World → Option ℕ → Cell → World
with_cell w None c = record w { base = w.base ++ c ∷ [] }
with_cell w (Some start) c = record w { scratch = w.scratch ++ c ∷ [] }

-- one cell and its units less
abbrev pub room_less : Room → ℕ → Room
room_less r units = record { cells = r.cells - 1; units = r.units - units }

-- makes a cell; refused where a count would pass its limit, by the cells' count before the units'
abbrev pub make_cell : World → Cell → Tried Addr
make_cell w c =
    if nat_lt 0 w.room.cells
    then (if nat_le (weight c) w.room.units
    then fine (next_address w w.start) (record (with_cell w w.start c) { room = room_less w.room (weight c) })
    else full counted.Units)
    else full counted.Cells

-- ---- writing

-- another cell in place of the one at an address
abbrev pub replaced : World → Addr → Cell → World
replaced w (Base i) c = record w { base = slice_set w.base i c }
replaced w (Scratch i) c = record w { scratch = slice_set w.scratch i c }

-- the room after a cell counts other units than before
abbrev pub room_after : Room → ℕ → ℕ → Room
room_after r before now = record r { units = (r.units + before) - now }

-- the change of a live cell; what is no change of its kind changes nothing
abbrev pub written : World → Addr → Cell → Option Cell → Tried (Unit {0})
written w a old None = fine tt w
written w a old (Some new) =
    if nat_le (weight new) (w.room.units + weight old)
    then fine tt (record (replaced w a new) { room = room_after w.room (weight old) (weight new) })
    else full counted.Units

-- the change of the cell at an address; where none is live nothing changes
abbrev pub written_at : World → Addr → Option Cell → Change → Tried (Unit {0})
written_at w a None c = fine tt w
written_at w a (Some old) c = written w a old (changed old c)

-- writes a change; refused where the cell isn't the evaluation's own, and where a count would pass its limit
abbrev pub write_cell : World → Addr → Change → Tried (Unit {0})
write_cell w a c = if is_own w.start a then written_at w a (read_cell w a) c else effect

-- the world is that of an evaluation, where what reaches outside, as printing does, is refused
abbrev pub is_evaluation : World → Bool
is_evaluation w = is_some w.start
