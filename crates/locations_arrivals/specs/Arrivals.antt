-- Where a run arrives: at a mark of the script that runs.
use Rattle.std.specs.Prelude.{◌≡◌, ℕ, ◌+◌, true, List, [], ◌∷◌, Some}
use Rattle.std.specs.List.{Contains}
use Rattle.cdp_text.specs.Position.{position}
use Rattle.js_tree.specs.declared.script.Script.{Script}
use Rattle.js_semantics.specs.declared.form.Mark.{Mark}
use Rattle.js_semantics.specs.declared.form.Source.TheVariants.{Script as script_source}
use Rattle.js_semantics.specs.Terms.{Term}
use Rattle.js_heap.specs.BuiltIns.{script_scope}
use Rattle.js_semantics.specs.State.{Frame, State, spot_of}
use Rattle.js_semantics.specs.Frames.{active, frame_at, at, offset_of, is_debugger}
use Rattle.js_semantics.specs.Run.{Run, running, over}
use Rattle.locations.specs.declared.spot.SpotKind.{SpotKind}
use Rattle.locations.specs.declared.spot.SpotKind.TheVariants as kinds
use Rattle.locations.specs.Kinds.{stronger}
use Rattle.locations.specs.Locations.{script_marks, break_locations}
use Rattle.locations.specs.Order.{IsAt}

-- scripts with the numbers from `n` on, in order
abbrev pub ScriptsAreNumbered : ℕ → List Script → Type 0
ScriptsAreNumbered n [] = Unit {0}
ScriptsAreNumbered n (s ∷ ss) = (s.number ≡ n) × ScriptsAreNumbered (n + 1) ss

-- the script of the top frame's source is one of these
abbrev pub RunsIn : Script → State → Type 0
RunsIn script s = (spot_of s).source ≡ script_source script.number

-- a mark of a script, and of this kind
abbrev pub IsMark : Script → Mark → SpotKind → Type 0
IsMark script m kind = Contains (script_marks script) (record { mark = m; kind = kind })

-- one of the script's break locations stands at a mark's place, and is of this kind or a stronger one
abbrev pub IsLocated : Script → Mark → SpotKind → Type 0
IsLocated script m kind =
    (strongest : SpotKind)
    × (stronger kind strongest ≡ strongest)
    × Contains (break_locations script)
    (record { pos = position script.source (offset_of script.spans m); kind = strongest })

-- what holds of each configuration of a run of these scripts
pub record Arrives (scripts : List Script) (t : Term) (s : State) : Type 0 where
  -- the top frame is of one of the scripts
  pub in_a_script : (script : Script) × Contains scripts script × RunsIn script s
  -- each active frame is of one of the scripts
  pub each_frame : (d : ℕ) (f : Frame)
      → frame_at d script_scope t s ≡ Some f
      → (script : Script) × Contains scripts script × (f.source ≡ script_source script.number)
  -- an arrival is at one of that script's marks, and so at one of its break locations
  pub at_a_mark : (script : Script) (m : Mark)
      → Contains scripts script
      → RunsIn script s
      → at script.spans t ≡ Some m
      → (kind : SpotKind) × IsMark script m kind
  pub at_a_location : (script : Script) (m : Mark)
      → Contains scripts script
      → RunsIn script s
      → at script.spans t ≡ Some m
      → IsAt (break_locations script) (position script.source (offset_of script.spans m))
  -- one at a `debugger` statement is at a mark of that kind, and so at a location of that kind or a stronger one
  pub at_a_debugger : (script : Script) (m : Mark)
      → Contains scripts script
      → RunsIn script s
      → at script.spans t ≡ Some m
      → is_debugger (active t) ≡ true
      → IsMark script m kinds.Debugger × IsLocated script m kinds.Debugger

-- what holds of a run of these scripts at each of its configurations; of one that is over nothing
abbrev pub RunArrives : List Script → Run → Type 0
RunArrives scripts (running t s) = Arrives scripts t s
RunArrives scripts (over f s) = Unit {0}
