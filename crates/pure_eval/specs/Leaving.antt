-- What an evaluation leaves of its session's cells.
use Rattle.std.specs.Prelude.{◌≡◌, ℕ, ◌≤◌, List, length, take, Some}
use Rattle.js_heap.specs.World.{World, Tried, fine}
use Rattle.js_heap.specs.ScratchSpaces.{ScratchSpace}
use Rattle.js_semantics.specs.Terms.{Term}
use Rattle.js_semantics.specs.Evaluation.{after_try, copied_world, keep_source, make_literals, Answer, a_result, a_throw, an_effect, is_full_of, spent}
use Rattle.js_heap_memory.specs.declared.world.Refused.{Refused}
use Rattle.js_heap_memory.specs.declared.world.Refused.TheVariants as refusals
use Rattle.js_heap_memory.specs.Overlays.{OverlayMark, space_after, space_at}
use Rattle.pure_eval.specs.declared.evaluated.Evaluated.{Evaluated}
use Rattle.pure_eval.specs.declared.evaluated.Evaluated.TheVariants as ends

-- behind a value and a throw the cells that it made stay, else they are cut again
abbrev pub space_behind : Evaluated → World → OverlayMark → ScratchSpace
space_behind (ends.Value v) w m = space_after w
space_behind (ends.Thrown v) w m = space_after w
space_behind e w m = space_at (space_after w) m

-- the world of an evaluation behind a session's cells, which were marked before it
pub record GoesOnFrom (w : World) (x : ScratchSpace) (m : OverlayMark) : Type 0 where
  pub start : w.start ≡ Some (length x.cells)
  pub long : length x.cells ≤ length w.scratch
  pub earlier : take (length x.cells) w.scratch ≡ x.cells
  pub count : m.count ≡ length x.cells
  pub cells_left : m.cells_left ≡ x.room.cells
  pub units_left : m.units_left ≡ x.room.units

-- the answer of the definition: with the cells of its world, or with the session's cells as before; want of memory says
-- nothing
abbrev pub Leaves : Answer → Evaluated → ScratchSpace → ScratchSpace → Type 0
Leaves a (ends.Value v) old new = (w : World) × (a ≡ a_result v w) × (new ≡ space_after w)
Leaves a (ends.Thrown v) old new = (w : World) × (a ≡ a_throw v w) × (new ≡ space_after w)
Leaves a ends.Effect old new = (a ≡ an_effect) × (new ≡ old)
Leaves a (ends.Full what) old new = (a ≡ is_full_of what) × (new ≡ old)
Leaves a ends.Spent old new = (a ≡ spent) × (new ≡ old)
Leaves a ends.Memory old new = Unit {0}

-- ---- before the first step

-- the source is kept, and the cells of its string literals are made
abbrev pub placed : World → List ℕ → List (List ℕ) → Tried (Unit {0})
placed w source literals = after_try (keep_source w source) (λ at v. make_literals v literals)

-- a term that is ready in the copied world with the cells of a session
abbrev pub made_ready : World → ScratchSpace → List ℕ → List (List ℕ) → Term → Tried Term
made_ready w x source literals t = after_try (placed (copied_world w x) source literals) (λ u v. fine t v)

-- how an evaluation ends that is refused before its first step
abbrev pub refused_end : Refused → Evaluated
refused_end refusals.Effect = ends.Effect
refused_end (refusals.Full what) = ends.Full what
refused_end refusals.Memory = ends.Memory

-- ---- evaluations that are forgotten

-- cut to a mark, a session's cells are those of before; want of memory says nothing
abbrev pub ComesBack : Evaluated → ScratchSpace → OverlayMark → ScratchSpace → Type 0
ComesBack ends.Memory after m before = Unit {0}
ComesBack end after m before = space_at after m ≡ before
