-- Where a step leaves a program, in the words of the rules by which it is stopped.
use Rattle.std.specs.Prelude.{◌^◌, ◌<◌, ◌-◌, List, length, Bool, false, Option, Some, None}
use Rattle.std.specs.Option.{option_map}
use Rattle.cdp_text.specs.declared.position.Place.{Place}
use Rattle.cdp_text.specs.Position.{position}
use Rattle.js_tree.specs.declared.script.Script.{Script}
use Rattle.js_tree.specs.Scripts.{script_numbered}
use Rattle.js_semantics.specs.Terms.{Term}
use Rattle.js_semantics.specs.declared.form.Source.{Source}
use Rattle.js_semantics.specs.declared.form.Source.TheVariants.{Script as script_source, Kept as kept_source}
use Rattle.js_semantics.specs.declared.form.Mark.{Mark}
use Rattle.js_semantics.specs.State.{Frame, State, top_spot}
use Rattle.js_semantics.specs.Frames.{active, at, depth, is_debugger, offset_of, thrown, StandingThrow}
use Rattle.js_machine_inspection.specs.Sources.{spans_in}
use Rattle.stepping.specs.declared.arrival.Arrival.{Arrival}

-- ---- places

-- the script that a source is, if it is one; scripts are counted from 1
abbrev pub script_in : List Script → Source → Option Script
script_in scripts (script_source number) = script_numbered scripts number
script_in scripts (kept_source a) = None

-- the place of a mark in a script
abbrev pub place_in : Mark → Script → Place
place_in mark s = record { script = s.number; pos = position s.source (offset_of s.spans mark) }

-- the place of a mark in a source, where that is a script
abbrev pub place_of : List Script → Source → Mark → Option Place
place_of scripts source mark = option_map (place_in mark) (script_in scripts source)

-- the place of a mark, if there is a mark
abbrev pub place_at : List Script → Source → Option Mark → Option Place
place_at scripts source None = None
place_at scripts source (Some mark) = place_of scripts source mark

-- ---- arrivals

-- no `try` with a `catch` takes the throw, in any frame
abbrev pub is_uncaught : StandingThrow → Bool
is_uncaught thrown = thrown.uncaught

-- where something is left to reduce. A throw that stands was raised by the step that led there: one that travels
-- doesn't stand.
abbrev pub arrival_at : List Script → Term → List Frame → Arrival
arrival_at scripts t frames = record {
  place = place_at scripts (top_spot frames).source (at (spans_in scripts (top_spot frames).source) t);
  depth = length frames - 1;
  debugger = is_debugger (active t);
  raised = option_map is_uncaught (thrown t);
}

-- a program that is over arrives nowhere, and no throw stands in it
abbrev pub at_the_end : State → Arrival
at_the_end s = record { place = None; depth = depth s; debugger = false; raised = None }

-- ---- scripts whose lines are kept beside them

-- a script whose positions are of 32 bits
abbrev pub IsShort : Script → Type 0
IsShort s = length s.source < 2 ^ 32
