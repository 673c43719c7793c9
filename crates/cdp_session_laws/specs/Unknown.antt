-- Ids that are unknown to a session (Chrome DevTools Protocol 1.3, `Runtime.RemoteObjectId` and
-- `Debugger.CallFrameId`).
use Rattle.std.specs.Prelude.{◌≡◌, ◌<◌, ◌^◌, ℕ, List, ◌∷◌, ◌++◌, Bool, Option, Some, None}
use Rattle.cdp_json.specs.Arguments.{Argument, an_object}
use Rattle.cdp_json.specs.declared.params.Evaluation.{Evaluation}
use Rattle.cdp_json.specs.declared.params.FunctionCall.{FunctionCall}
use Rattle.cdp_json.specs.declared.params.Params.TheVariants as params
use Rattle.cdp_json.specs.declared.refusal.Refusal.{Refusal}
use Rattle.cdp_json.specs.declared.refusal.Refusal.TheVariants as refusals
use Rattle.cdp_session.specs.Calls.{object_of}
use Rattle.cdp_session.specs.Objects.{handle_of}
use Rattle.cdp_session.specs.Replies.{comes_to}
use Rattle.cdp_session.specs.Rows.{Row, Refuses, row}
use Rattle.cdp_session.specs.Sessions.{Session}
use Rattle.cdp_session.specs.Situations.{Situation}
use Rattle.cdp_session.specs.declared.situation.Pause.{Pause}

-- No object of the session has this id: each command that takes the id of an object is refused, a call also where one
-- of its arguments alone names it.
pub record IsUnknownObject (s : Situation) (x : Session) (id : List ℕ) : Type 0 where
  pub no_handle : handle_of x id ≡ None
  pub no_object : object_of x id ≡ None
  pub properties : (own preview : Bool)
      → comes_to s x (params.GetProperties id own preview) ≡ Refuses refusals.UnknownObject
  pub releasing : comes_to s x (params.ReleaseObject id) ≡ Refuses refusals.UnknownObject
  pub receiver : (call : FunctionCall)
      → call.object_id ≡ Some id
      → comes_to s x (params.CallFunctionOn call) ≡ Refuses refusals.UnknownObject
  pub argument : (call : FunctionCall) (front back : List Argument) → call.arguments ≡ front ++ (an_object id ∷ back)
      → comes_to s x (params.CallFunctionOn call) ≡ Refuses refusals.UnknownObject

-- a command comes to a refusal
abbrev pub IsRefused : Row → Type 0
IsRefused r = (why : Refusal) × (r ≡ Refuses why)

-- an evaluation in a frame of this id is refused: where nothing else refuses it, because of the frame
pub record IsUnknownFrame (s : Situation) (x : Session) (id : List ℕ) : Type 0 where
  pub by_row : (evaluation : Evaluation)
      → row s x (params.EvaluateOnCallFrame id evaluation) ≡ Refuses refusals.UnknownFrame
  pub refused : (evaluation : Evaluation) → IsRefused (comes_to s x (params.EvaluateOnCallFrame id evaluation))

-- the program isn't paused at the stop of this number; it is paused at another, or runs
abbrev pub IsElsewhere : ℕ → Option Pause → Type 0
IsElsewhere stop None = Unit {0}
IsElsewhere stop (Some p) = (p.number ≡ stop → ⊥) × (p.number < 2 ^ 64)
