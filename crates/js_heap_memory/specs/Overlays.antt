-- The cells of evaluations over a program's.
use Rattle.std.specs.Prelude.{ℕ, ◌≤◌, List, [], length, take, Some}
use Rattle.js_heap.specs.declared.value.Addr.{Addr}
use Rattle.js_heap.specs.declared.value.Addr.TheVariants.{Scratch}
use Rattle.js_heap.specs.declared.cell.Cell.{Cell}
use Rattle.js_heap.specs.World.{World, scratch_room}
use Rattle.js_heap.specs.ScratchSpaces.{ScratchSpace}
use Rattle.js_heap_memory.specs.declared.stored.Stored.{Stored}
use Rattle.js_heap_memory.specs.Cells.{cells_of, AllWithin}
use Rattle.js_heap_memory.specs.Heaps.{Heap}

-- a session's cells, of which those from `start` on are an evaluation's own; names below `ends` are known
pub record Over : Type 0 where
  pub base : Heap
  pub cells : List Stored
  pub ends : ℕ
  pub start : ℕ
  pub cells_left : ℕ
  pub units_left : ℕ

-- the world of an evaluation
abbrev pub overlay_world : List (List ℕ) → List Cell → List Stored → ℕ → ℕ → ℕ → World
overlay_world ts base cs start cells_left units_left =
    record {
      base = base;
      scratch = cells_of ts cs;
      start = Some start;
      room = record {
        cells = cells_left;
        units = units_left;
      };
    }

-- the world that a session's cells over a program's are with a table of names
abbrev pub over_world : List (List ℕ) → Over → World
over_world ts o = overlay_world ts (cells_of ts o.base.cells) o.cells o.start o.cells_left o.units_left

-- what a session made so far
abbrev pub space_of : List (List ℕ) → Heap → ScratchSpace
space_of ts h = record { cells = cells_of ts h.cells; room = record { cells = h.cells_left; units = h.units_left } }

-- a session that made nothing yet
abbrev pub first_space : ScratchSpace
first_space = record { cells = []; room = scratch_room }

-- what a session made so far, by the world after its evaluation
abbrev pub space_after : World → ScratchSpace
space_after w = record { cells = w.scratch; room = w.room }

-- where the next cell will stand
abbrev pub next_of : Heap → Addr
next_of h = Scratch (length h.cells)

-- ---- marks

-- where a session's cells ended, and what was left of their room; names below `ends` were known
pub record OverlayMark : Type 0 where
  pub count : ℕ
  pub ends : ℕ
  pub cells_left : ℕ
  pub units_left : ℕ

-- a mark at the present end of a session's cells
abbrev pub mark_of : Heap → OverlayMark
mark_of h = record { count = length h.cells; ends = h.ends; cells_left = h.cells_left; units_left = h.units_left }

-- only the cells before a mark, with the room that was left there
abbrev pub space_at : ScratchSpace → OverlayMark → ScratchSpace
space_at x m = record { cells = take m.count x.cells; room = record { cells = m.cells_left; units = m.units_left } }

-- the cells before a place, which no evaluation may change any more, have only names below a number
pub record Earlier (cs : List Stored) (place known : ℕ) : Type 0 where
  pub within : AllWithin known (take place cs)
  pub before : place ≤ length cs
