-- Where marks are in the scripts of a run: script, line and column.
use Rattle.std.specs.Prelude.{ℕ, List, Option, Some, None}
use Rattle.cdp_text.specs.declared.position.Pos.{Pos}
use Rattle.cdp_text.specs.declared.position.Place.{Place}
use Rattle.cdp_text.specs.Position.{origin, position, line_starts}
use Rattle.js_tree.specs.declared.script.Script.{Script}
use Rattle.js_tree.specs.Scripts.{script_numbered}
use Rattle.js_semantics.specs.declared.form.Source.{Source}
use Rattle.js_semantics.specs.declared.form.Source.TheVariants.{Script as script_source, Kept as kept_source}
use Rattle.js_semantics.specs.declared.form.Mark.{Mark}
use Rattle.js_semantics.specs.Frames.{offset_of}

-- the line and the column of a mark in a script
abbrev pub pos_in : Option Script → Mark → Pos
pos_in None m = origin
pos_in (Some s) m = position s.source (offset_of s.spans m)

-- the place that is shown of a mark in a source; what isn't in a script has none, and is shown at the beginning of none
abbrev pub shown_place : List Script → Source → Mark → Place
shown_place scripts (script_source n) m = record { script = n; pos = pos_in (script_numbered scripts n) m }
shown_place scripts (kept_source a) m = record { script = 0; pos = origin }

-- where the lines of a script begin
abbrev pub starts_of : Script → List ℕ
starts_of s = line_starts s.source
