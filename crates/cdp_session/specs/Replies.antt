-- How a session answers a text (JSON-RPC 2.0, section 5).
use Rattle.std.specs.Prelude.{ℕ, List, [], ◌∷◌, ◌++◌, Bool, true, false, not, ◌&&◌, is_some, if◌then◌else◌, Option, Some, None}
use Rattle.std.specs.Option.{option_map_or}
use Rattle.serde_json.specs.Read.{read}
use Rattle.cdp_json.specs.Commands.{reading_of}
use Rattle.cdp_json.specs.Messages.{refusal_text, result_text}
use Rattle.cdp_json.specs.declared.command.Reading.{Reading}
use Rattle.cdp_json.specs.declared.command.Reading.TheVariants as readings
use Rattle.cdp_json.specs.declared.params.Params.{Params}
use Rattle.cdp_json.specs.declared.params.Params.TheVariants as params
use Rattle.cdp_json.specs.declared.refusal.Refusal.{Refusal}
use Rattle.cdp_json.specs.declared.refusal.Refusal.TheVariants as refusals
use Rattle.cdp_session.specs.Situations.{Situation}
use Rattle.cdp_session.specs.Sessions.{Session, sent}
use Rattle.cdp_session.specs.Rows.{Done, Row, Refuses, Does, row}
use Rattle.cdp_session.specs.declared.asks.Asks.{Asks}
use Rattle.cdp_session.specs.declared.asks.Asks.TheVariants.{Nothing}

-- ---- before a method acts

-- all methods of the domain Debugger but these want it enabled
abbrev pub wants_enabled : Params → Bool
wants_enabled params.DebuggerEnable = false
wants_enabled params.DebuggerDisable = false
wants_enabled (params.GetProperties id own preview) = false
wants_enabled (params.ReleaseObject id) = false
wants_enabled (params.ReleaseObjectGroup group) = false
wants_enabled (params.Evaluate evaluation) = false
wants_enabled (params.CallFunctionOn call) = false
wants_enabled params.RuntimeEnable = false
wants_enabled params.RuntimeDisable = false
wants_enabled params.GlobalLexicalScopeNames = false
wants_enabled params.RunIfWaitingForDebugger = false
wants_enabled other = true

-- these want the program paused
abbrev pub wants_pause : Params → Bool
wants_pause params.Resume = true
wants_pause params.StepInto = true
wants_pause params.StepOver = true
wants_pause params.StepOut = true
wants_pause (params.ContinueToLocation at) = true
wants_pause (params.EvaluateOnCallFrame id evaluation) = true
wants_pause other = false

-- why a command is refused before it acts, if it is: the debugger isn't enabled, then the program isn't paused
abbrev pub refusal_of : Situation → Session → Params → Option Refusal
refusal_of s x params =
    if wants_enabled params && not x.rules.enabled then Some refusals.NotEnabled
    else if wants_pause params && not (is_some s.paused) then Some refusals.NotPaused else None

-- what a command comes to
abbrev pub comes_to : Situation → Session → Params → Row
comes_to s x params = option_map_or Refuses (refusal_of s x params) (row s x params)

-- ---- replies

-- what becomes of a text: it is refused, with its id where that was read, or its command is done
pub data CommandOutcome : Type 0 where
  IsRefused : Option ℕ → Refusal → CommandOutcome
  IsDone : ℕ → Done → CommandOutcome

-- what becomes of a command of this id, by its row
abbrev pub outcome_by : ℕ → Row → CommandOutcome
outcome_by id (Refuses refusal) = IsRefused (Some id) refusal
outcome_by id (Does done) = IsDone id done

-- that of a text that is read so; want of memory is no reading
abbrev pub outcome_for : Situation → Session → Reading → CommandOutcome
outcome_for s x (readings.Command id method params) = outcome_by id (comes_to s x params)
outcome_for s x (readings.Refused id refusal) = IsRefused id refusal
outcome_for s x readings.Memory = IsRefused None refusals.NotJson

-- what becomes of a text
abbrev pub outcome_of : Situation → Session → List ℕ → CommandOutcome
outcome_of s x text = outcome_for s x (reading_of (read text))

-- the texts of a command of this id that is done: its events before the reply, the reply, and those behind it
abbrev pub texts_of : ℕ → Done → List (List ℕ)
texts_of id done = done.before ++ result_text id done.result ∷ done.events

-- a session behind a text, and what the text asks of the program
pub record AnsweredText : Type 0 where
  pub session : Session
  pub asks : Asks

-- a refused command changes only the texts that wait
abbrev pub answer_by : Session → CommandOutcome → AnsweredText
answer_by x (IsRefused id refusal) = record { session = sent (refusal_text id refusal ∷ []) x; asks = Nothing }
answer_by x (IsDone id done) = record { session = sent (texts_of id done) done.session; asks = done.asks }

-- the texts of the answer: a refusal, or the reply with its events
abbrev pub answer_texts : CommandOutcome → List (List ℕ)
answer_texts (IsRefused id refusal) = refusal_text id refusal ∷ []
answer_texts (IsDone id done) = texts_of id done

-- the answer to a text
abbrev pub answer_of : Situation → Session → List ℕ → AnsweredText
answer_of s x text = answer_by x (outcome_of s x text)
