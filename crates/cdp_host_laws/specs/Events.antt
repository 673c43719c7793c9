-- The events that a session is sent, told by the texts that wait for it before an entry and after it (Chrome DevTools
-- Protocol 1.3, domains Debugger and Runtime).
use Rattle.std.specs.Prelude.{◌≡◌, ℕ, pos, ◌+◌, List, [], ◌∷◌, ◌++◌, length, map, filter, nat_eq, codes, decimal, Bool, true, false, ◌&&◌, ◌||◌, not, if◌then◌else◌, Some, None}
use Rattle.cdp_host_isolation.specs.Histories.{Entry}
use Rattle.cdp_host_isolation.specs.Seats.{seat_of}
use Rattle.cdp_host_isolation.specs.declared.seat.Seat.TheVariants.{Attached}
use Rattle.js_tree.specs.declared.script.Script.{Script}
use Rattle.js_semantics.specs.Run.{Run}
use Rattle.cdp_json.specs.Json.{Json, number, text}
use Rattle.cdp_json.specs.Messages.{event_text}
use Rattle.cdp_json.specs.Parts.{Pair, list_of, object_of}
use Rattle.cdp_session_messages.specs.Scripts.{script_parsed_text}
use Rattle.cdp_session.specs.Sessions.{Session}
use Rattle.cdp_session.specs.declared.situation.Pause.{Pause}
use Rattle.cdp_host.specs.Histories.{IsHistory, Meaning, whole}
use Rattle.cdp_host.specs.Programs.{has_thrown, is_over, printed_of}

-- ---- events by their methods

-- a text begins with these units
abbrev pub begins_with : List ℕ → List ℕ → Bool
begins_with [] shown = true
begins_with (unit ∷ units) [] = false
begins_with (unit ∷ units) (first ∷ shown) = nat_eq unit first && begins_with units shown

-- a text is an event of this method: it begins with `{"method":"METHOD"`
abbrev pub is_event : List ℕ → List ℕ → Bool
is_event method shown = begins_with (codes "{\"method\":\"" ++ (method ++ codes "\"")) shown

-- the events of this method among these texts
abbrev pub events_of : List ℕ → List (List ℕ) → List (List ℕ)
events_of method texts = filter (is_event method) texts

-- a text is a reply to a command, which is done or refused: it begins with `{"id":` or `{"error":`
abbrev pub is_reply : List ℕ → Bool
is_reply shown = begins_with (codes "{\"id\":") shown || begins_with (codes "{\"error\":") shown

-- ---- what stands in them

-- the id of a call frame: the number of the session, that of the stop, and how far the frame is from the top one
abbrev pub call_frame_id : ℕ → ℕ → ℕ → List ℕ
call_frame_id session stop depth =
    decimal session ++ (codes "." ++ (decimal stop ++ (codes "." ++ decimal depth)))

-- call frames outward, the first of them so far from the top one, each with its id
abbrev pub AreFramesFrom : ℕ → ℕ → ℕ → List Json → Type 0
AreFramesFrom session stop depth [] = Unit {0}
AreFramesFrom session stop depth (frame ∷ frames) =
    ((rest : List Pair) × (frame ≡ object_of ((codes "callFrameId", text (call_frame_id session stop depth)) ∷ rest)))
    × AreFramesFrom session stop (depth + 1) frames

-- these texts are one event of the stop of this number, whose call frames have the ids of this session and this stop
pub record TellsOfStop (session which : ℕ) (texts : List (List ℕ)) : Type 0 where
  pub frames : List Json
  pub others : List Pair
  pub told : texts
      ≡ event_text (codes "Debugger.paused") (object_of ((codes "callFrames", list_of frames) ∷ others)) ∷ []
  pub ids : AreFramesFrom session which 0 frames

-- each of these texts is the event of a print at this moment
abbrev pub ArePrintsAt : ℕ → List (List ℕ) → Type 0
ArePrintsAt moment [] = Unit {0}
ArePrintsAt moment (shown ∷ texts) =
    ((values : Json) × (shown ≡ event_text (codes "Runtime.consoleAPICalled") (object_of (
    (codes "args", values)
    ∷ (codes "executionContextId", number (pos 1))
    ∷ (codes "timestamp", number (pos moment))
    ∷ (codes "type", text (codes "log")) ∷ []))))
    × ArePrintsAt moment texts

-- the event that tells that the program goes on
abbrev pub goes_on_text : List ℕ
goes_on_text = event_text (codes "Debugger.resumed") (object_of [])

-- ---- what an entry sends

-- A history of these scripts goes on by an entry, from one meaning to another. The session of this number is attached
-- before it and after it, and is x then and y.
pub record StaysOver (scripts : List Script) (input : List (List ℕ)) (wait : Bool) (s : ℕ) (history : List Entry)
    (entry : Entry) (m k : Meaning Run) (x y : Session) : Type 0 where
  pub fits : IsHistory scripts input wait (history ++ entry ∷ [])
  pub before : m ≡ whole scripts input wait history
  pub after : k ≡ whole scripts input wait (history ++ entry ∷ [])
  pub here : seat_of s m.seats ≡ Attached x
  pub there : seat_of s k.seats ≡ Attached y

-- one where it is so, and none else
abbrev pub once : Bool → ℕ
once b = if b then 1 else 0

-- the event of a resume where it is so, and nothing else
abbrev pub goes_on_if : Bool → List (List ℕ)
goes_on_if b = if b then goes_on_text ∷ [] else []

-- What a run at this moment sent the session of this number, which stays attached over it.
pub record RunSends (s moment : ℕ) (m k : Meaning Run) (x y : Session) : Type 0 where
  pub new : List (List ℕ)
  pub waits : y.outbox ≡ x.outbox ++ new
  -- the program is paused after the run: one event, for a session that has the debugger enabled
  pub stopped : (q : Pause)
      → k.stop ≡ Some q → x.rules.enabled ≡ true → TellsOfStop s q.number (events_of (codes "Debugger.paused") new)
  -- it isn't, or the session hasn't: none
  pub runs_on : k.stop ≡ None → events_of (codes "Debugger.paused") new ≡ []
  pub disabled : x.rules.enabled ≡ false → events_of (codes "Debugger.paused") new ≡ []
  -- it goes on by a run only where nobody is told of that
  pub resumed : events_of (codes "Debugger.resumed") new ≡ []
  -- one event for each text that the program printed, at that moment, for a session that has the domain Runtime enabled
  pub printed : x.runtime ≡ true
      → length (printed_of m.program) + length (events_of (codes "Runtime.consoleAPICalled") new)
      ≡ length (printed_of k.program)
  pub unprinted : x.runtime ≡ false → events_of (codes "Runtime.consoleAPICalled") new ≡ []
  pub moments : ArePrintsAt moment (events_of (codes "Runtime.consoleAPICalled") new)
  -- such a session is told once of a throw that ended the program, and once of the end
  pub thrown : length (events_of (codes "Runtime.exceptionThrown") new) ≡ once (x.runtime && has_thrown k.program)
  pub ended : length (events_of (codes "Runtime.executionContextDestroyed") new) ≡ once (x.runtime && is_over k.program)
  -- and nobody of scripts, nor is a reply sent
  pub parsed : events_of (codes "Debugger.scriptParsed") new ≡ []
  pub unanswered : filter is_reply new ≡ []

-- What a session was sent that told a text and stays attached, where the program was paused or wasn't, and went on or
-- didn't.
pub record ReplySends (scripts : List Script) (paused goes : Bool) (x y : Session) : Type 0 where
  pub new : List (List ℕ)
  pub waits : y.outbox ≡ x.outbox ++ new
  -- one that enabled the debugger by it is told of each script, in order, and of the pause, if there is one
  pub parsed : events_of (codes "Debugger.scriptParsed") new
      ≡ (if y.rules.enabled && not x.rules.enabled then map script_parsed_text scripts else [])
  pub stopped : length (events_of (codes "Debugger.paused") new)
      ≡ once ((y.rules.enabled && not x.rules.enabled) && paused)
  -- one that has it enabled is told once where the program went on
  pub resumed : events_of (codes "Debugger.resumed") new ≡ goes_on_if (goes && y.rules.enabled)
  -- each text is answered once
  pub answered : length (filter is_reply new) ≡ 1
  pub unprinted : events_of (codes "Runtime.consoleAPICalled") new ≡ []
