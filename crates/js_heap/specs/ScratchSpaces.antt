-- The world of an evaluation.
use Rattle.std.specs.Prelude.{ℕ, ◌-◌, List, [], ◌∷◌, ◌++◌, length, Some, nat_le, if◌then◌else◌}
use Rattle.js_heap.specs.declared.value.Addr.{Addr}
use Rattle.js_heap.specs.declared.value.Addr.TheVariants.{Scratch}
use Rattle.js_heap.specs.declared.cell.Cell.{Cell}
use Rattle.js_heap.specs.declared.cell.Cell.TheVariants as cells
use Rattle.js_heap.specs.declared.change.Counted.TheVariants as counted
use Rattle.js_heap.specs.World.{Room, World, Tried, fine, full}

-- what a session made so far: its cells, and the room that is left
pub record ScratchSpace : Type 0 where
  pub cells : List Cell
  pub room : Room

-- the program's world, copied, with a session's cells; only cells from here on are the evaluation's own
abbrev pub copied_world : World → ScratchSpace → World
copied_world w x = record { base = w.base; scratch = x.cells; start = Some (length x.cells); room = x.room }

-- The source is kept under the next number, so that functions which the evaluation makes can be called and described
-- later. It stands in the map as its text; it counts its units and no cell.
abbrev pub keep_source : World → List ℕ → Tried Addr
keep_source w units =
    if nat_le (length units) w.room.units
    then fine (Scratch (length w.scratch))
    (record w {
      scratch = w.scratch ++ cells.Text units ∷ [];
      room = record {
        cells = w.room.cells;
        units = w.room.units - length units;
      };
    })
    else full counted.Units
