-- What a world holds and what it may still make, together.
use Rattle.std.specs.Prelude.{◌≡◌, ℕ, ◌+◌, ◌≤◌, List, [], ◌∷◌, length}
use Rattle.js_heap.specs.declared.cell.Cell.{Cell}
use Rattle.js_heap.specs.BuiltIns.{first_world}
use Rattle.js_heap.specs.Cells.{weight}
use Rattle.js_heap.specs.ScratchSpaces.{ScratchSpace, copied_world}
use Rattle.js_heap.specs.World.{World}
use Rattle.js_semantics.specs.Evaluation.{Answer, a_result, a_throw, an_effect, is_full_of, spent}
use Rattle.js_semantics.specs.Run.{Run, state_of}

-- the units that cells take
abbrev pub units_in : List Cell → ℕ
units_in [] = 0
units_in (c ∷ cs) = weight c + units_in cs

-- the cells of a world, and those that may still be made
abbrev pub all_cells : World → ℕ
all_cells w = length w.base + length w.scratch + w.room.cells

-- the units that they take, and those that may still be taken
abbrev pub all_units : World → ℕ
all_units w = units_in w.base + units_in w.scratch + w.room.units

-- one world has as much of both as another
pub record Balances (w v : World) : Type 0 where
  pub cells : all_cells v ≡ all_cells w
  pub units : all_units v ≡ all_units w

-- so do the worlds of two runs
abbrev pub RunBalances : Run → Run → Type 0
RunBalances r q = Balances (state_of r).world (state_of q).world

-- The world of a program's run, whose scripts have these string literals: how many cells and units it has beside those
-- before the first step, and that the room is what is left.
pub record IsWithinRoom (literals : List (List ℕ)) (r : Run) : Type 0 where
  pub cells : length (state_of r).world.base ≤ length (first_world literals).base + 1048576
  pub units : units_in (state_of r).world.base ≤ units_in (first_world literals).base + 67108864
  pub balances : Balances (first_world literals) (state_of r).world

-- One world has as much of both as another, beside the one cell in which a source is kept: for that no room is taken,
-- though its units are.
pub record KeepsSource (w v : World) : Type 0 where
  pub cells : all_cells v ≡ all_cells w + 1
  pub units : all_units v ≡ all_units w

-- the world behind an evaluation is such beside the copied world with the cells of its session
abbrev pub AnswerBalances : World → ScratchSpace → Answer → Type 0
AnswerBalances w x (a_result v after) = KeepsSource (copied_world w x) after
AnswerBalances w x (a_throw v after) = KeepsSource (copied_world w x) after
AnswerBalances w x an_effect = Unit {0}
AnswerBalances w x (is_full_of what) = Unit {0}
AnswerBalances w x spent = Unit {0}
