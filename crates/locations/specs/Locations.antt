-- The break locations of a script: one for each offset that has a mark, in ascending order.
use Rattle.std.specs.Prelude.{ℕ, zero, suc, List, [], ◌∷◌, ◌++◌, length, Option, Some, None}
use Rattle.cdp_text.specs.Position.{position}
use Rattle.js_tree.specs.declared.script.Script.{Script}
use Rattle.locations.specs.declared.spot.SpotKind.{SpotKind}
use Rattle.locations.specs.declared.spot.Spot.{Spot}
use Rattle.locations.specs.Marks.{Marks, statements_marks}
use Rattle.locations.specs.Kinds.{kind_at}

-- the location at an offset
abbrev pub here : List ℕ → ℕ → Option SpotKind → List Spot
here source x None = []
here source x (Some kind) = record { pos = position source x; kind = kind } ∷ []

-- the locations before an offset, where this is what stands at each
abbrev pub locations_below : List ℕ → (ℕ → Option SpotKind) → ℕ → List Spot
locations_below source kinds zero = []
locations_below source kinds (suc x) = locations_below source kinds x ++ here source x (kinds x)

-- the marks of a script
abbrev pub script_marks : Script → Marks
script_marks s = statements_marks s.body

-- A mark may stand at the end of the source.
abbrev pub break_locations : Script → List Spot
break_locations s = locations_below s.source (kind_at s.spans (script_marks s)) (suc (length s.source))
