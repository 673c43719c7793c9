-- How a program stands, as a session sees it.
use Rattle.std.specs.Prelude.{List, [], Option, Some, None, unwrap_or}
use Rattle.std.specs.Option.{option_map}
use Rattle.std.specs.Coded.{Unit-prop}
use Rattle.js_tree.specs.declared.script.Script.{Script}
use Rattle.js_heap.specs.declared.value.Value.{Value}
use Rattle.js_heap.specs.BuiltIns.{script_scope}
use Rattle.js_semantics.specs.Frames.{thrown, StandingThrow}
use Rattle.js_semantics.specs.Run as runs
use Rattle.js_semantics.specs.Run.{Run, running, over, Finish, ended, threw, by_effect, by_full}
use Rattle.js_machine.specs.declared.end.End.{End}
use Rattle.js_machine.specs.declared.end.End.TheVariants as ends
use Rattle.js_machine.specs.Machines.{IsKept}
use Rattle.frames_scopes_types.specs.Frames.{ShownFrame}
use Rattle.frames_scopes.specs.Frames.{walk}
use Rattle.cdp_text.specs.declared.position.Place.{Place}
use Rattle.cdp_session.specs.declared.ending.Ending.{Ending}
use Rattle.cdp_session.specs.declared.ending.Ending.TheVariants as endings
use Rattle.cdp_host.specs.Arrivals.{place_of}
use Rattle.cdp_host.specs.Programs.{is_over}
use Rattle.cdp_session.specs.Situations.{Standing}

-- the active frames from the top one outward; a program that is over has none
abbrev pub frames_of : List Script → Run → List ShownFrame
frames_of scripts (running t s) = walk scripts script_scope t s
frames_of scripts (over f s) = []

-- the value of a throw
abbrev pub value_of : StandingThrow → Value
value_of t = t.value

-- that of the throw that stands, if one does; none stands where a program is over
abbrev pub thrown_of : Run → Option Value
thrown_of (running t s) = option_map value_of (thrown t)
thrown_of (over f s) = None

-- how a program stands: its cells, its frames, the throw that stands, and whether its run has ended
unfoldable pub standing_of : List Script → Run → Standing
standing_of scripts r =
    record { world = (runs.state_of r).world; frames = frames_of scripts r; thrown = thrown_of r; over = is_over r }

-- ---- the end of a run

-- a place at which no script is
abbrev pub nowhere : Place
nowhere = record { script = 0; pos = record { line = 0; col = 0 } }

-- the place of a mark in a source. Every throw of the program's own run was raised in one of its scripts.
abbrev pub place_or_nowhere : Option Place → Place
place_or_nowhere o = unwrap_or o nowhere

-- how a run ended; an effect and a full scratch end evaluations alone
abbrev pub ending_by : List Script → Finish → Ending
ending_by scripts (ended v) = endings.Finished
ending_by scripts (threw v spot) = endings.Threw v (place_or_nowhere (place_of scripts spot.source spot.mark))
ending_by scripts by_effect = endings.Finished
ending_by scripts (by_full what) = endings.Finished

-- how it ended, if it has
unfoldable pub ending_of : List Script → Run → Option Ending
ending_of scripts (running t s) = None
ending_of scripts (over f s) = Some (ending_by scripts f)

-- that a machine wasn't given up has one proof at most
pub IsKept-prop : (o : Option End) → IsProp (IsKept o)
IsKept-prop None = Unit-prop
IsKept-prop (Some (ends.Finished f)) = Unit-prop
IsKept-prop (Some ends.Effect) = Unit-prop
IsKept-prop (Some (ends.Full what)) = Unit-prop
IsKept-prop (Some ends.Lost) = λ h k. absurd h
