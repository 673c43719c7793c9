-- The point that a position is.
use Rattle.std.specs.Prelude.{ℕ}
use Rattle.js_heap.specs.declared.value.Value.{Value}
use Rattle.js_semantics.specs.declared.form.SourceMark.{SourceMark}
use Rattle.js_machine_engine.specs.declared.task.Point.{Point}
use Rattle.js_machine_engine.specs.declared.task.Point.TheVariants as points
use Rattle.js_machine_engine.specs.declared.task.PointKind.{PointKind}
use Rattle.js_machine_engine.specs.declared.task.PointKind.TheVariants as kinds

-- a point of this kind, with what goes with it
abbrev pub point_of : PointKind → ℕ → Value → SourceMark → Point
point_of kinds.Row n v place = points.Row
point_of kinds.Leaf n v place = points.Leaf n
point_of kinds.Stands n v place = points.Stands v place
point_of kinds.Done n v place = points.Done v
