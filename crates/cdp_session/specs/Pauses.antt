-- How a session is told that the program is paused (Chrome DevTools Protocol 1.3, `Debugger.paused`).
use Rattle.std.specs.Prelude.{ℕ, List, [], ◌∷◌, Bool, true, false, codes, Option, Some, None}
use Rattle.js_heap.specs.declared.value.Value.{Value}
use Rattle.stepping.specs.declared.cause.Cause.{Cause}
use Rattle.stepping.specs.declared.cause.Cause.TheVariants as causes
use Rattle.object_groups.specs.Handles as handles
use Rattle.cdp_json.specs.Json.{Json}
use Rattle.cdp_json.specs.Parts.{Pair}
use Rattle.remote_objects.specs.CallFrames.{backtrace, frames_made}
use Rattle.remote_objects.specs.Making.{Made}
use Rattle.remote_objects.specs.Remote.{remote}
use Rattle.remote_objects.specs.Sights.{Sight}
use Rattle.remote_objects.specs.Views as views
use Rattle.remote_objects.specs.declared.describer.Describer.{Describer}
use Rattle.js_heap_memory.specs.Heaps.{Heap, heap_world}
use Rattle.js_parser.specs.NodeTexts.{node_text}
use Rattle.cdp_session_messages.specs.Results.{paused_text}
use Rattle.cdp_session.specs.Sessions.{Session}
use Rattle.cdp_session.specs.Situations.{Situation}
use Rattle.cdp_session.specs.declared.situation.Pause.{Pause}

-- what the values of the program are described to a session by
abbrev pub sight_for : Situation → ℕ → Sight
sight_for s number = record { node_text = node_text; world = s.standing.world; scripts = s.scripts; session = number }

-- what a describer over the program's cells describes by, as it is lent
abbrev pub described_by : {S : Type 0} → Describer Heap S → Sight
described_by d = views.sight_of node_text (heap_world d.names.now d.world.now) d.scripts.now d.session

-- what they are described to this session by
abbrev pub sight_of : Situation → Session → Sight
sight_of s x = sight_for s x.number

-- why the program stopped, as its session is told
abbrev pub reason_of : Option Cause → List ℕ
reason_of (Some causes.Exception) = codes "exception"
reason_of cause = codes "other"

-- the value of the throw that stands, for a session whose own rule on throws named the stop
abbrev pub value_told : Option Cause → Option Value → Option Value
value_told (Some causes.Exception) thrown = thrown
value_told cause thrown = None

-- the member that has it
abbrev pub data_made : Sight → Option Value → handles.HeldHandles → Made (List Pair)
data_made sight None h = record { made = []; handles = h }
data_made sight (Some v) h =
    record {
      made = (codes "data", (remote sight (Some backtrace) v h).made)
          ∷ [];
      handles = (remote sight (Some backtrace) v h).handles;
    }

-- the frames of the stop of this number, and behind them that member
abbrev pub frames_told : Situation → ℕ → Session → Made (List Json)
frames_told s number x = frames_made (sight_of s x) number s.standing.frames x.handles

-- behind the frames, the member with the value that was thrown
abbrev pub data_told : Situation → ℕ → Option Cause → Session → Made (List Pair)
data_told s number cause x =
    data_made (sight_of s x) (value_told cause s.standing.thrown) (frames_told s number x).handles

-- the event of the stop of this number, at breakpoints of these ids, for this cause
abbrev pub pause_told : Situation → ℕ → List (List ℕ) → Option Cause → Session → Made (List ℕ)
pause_told s number hits cause x = record {
  made = paused_text (frames_told s number x).made (data_told s number cause x).made hits (reason_of cause);
  handles = (data_told s number cause x).handles;
}

-- A session that had the debugger enabled is told nothing by enabling it; another one of the pause, if there is one.
-- None of its rules named the stop.
abbrev pub enabling_told : Situation → Option Pause → Bool → Session → Made (List (List ℕ))
enabling_told s None enabled x = record { made = []; handles = x.handles }
enabling_told s (Some p) true x = record { made = []; handles = x.handles }
enabling_told s (Some p) false x =
    record { made = (pause_told s p.number [] None x).made ∷ []; handles = (pause_told s p.number [] None x).handles }
