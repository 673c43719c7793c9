-- Ids that another session made, given to a session (Chrome DevTools Protocol 1.3, `Runtime.RemoteObjectId` and
-- `Debugger.CallFrameId`).
use Rattle.std.specs.Prelude.{◌≡◌, ◌<◌, ◌^◌, ℕ, List, ◌∷◌, ◌++◌, Bool, true, is_some, Option, Some, None}
use Rattle.cdp_json.specs.Arguments.{Argument, an_object}
use Rattle.cdp_json.specs.declared.params.Evaluation.{Evaluation}
use Rattle.cdp_json.specs.declared.params.FunctionCall.{FunctionCall}
use Rattle.cdp_json.specs.declared.params.Params.TheVariants as params
use Rattle.cdp_json.specs.declared.refusal.Refusal.{Refusal}
use Rattle.cdp_json.specs.declared.refusal.Refusal.TheVariants as refusals
use Rattle.cdp_session.specs.Calls.{object_of}
use Rattle.cdp_session.specs.Evaluations.{frame_of}
use Rattle.cdp_session.specs.Objects.{handle_of}
use Rattle.cdp_session.specs.Replies.{comes_to}
use Rattle.cdp_session.specs.Rows.{Row, Refuses, row}
use Rattle.cdp_session.specs.Sessions.{Session}
use Rattle.cdp_session.specs.Situations.{Situation}
use Rattle.cdp_session.specs.declared.situation.Pause.{Pause}

-- a number is that of another session than this one; both are below 2^64, as the numbers of a host's sessions are
pub record IsOfAnother (other : ℕ) (x : Session) : Type 0 where
  pub differs : other ≡ x.number → ⊥
  pub small : other < 2 ^ 64
  pub own_small : x.number < 2 ^ 64

-- a command comes to a refusal
abbrev pub IsRefusal : Row → Type 0
IsRefusal w = (why : Refusal) × (w ≡ Refuses why)

-- No object of the session has this id: each command that takes the id of an object is refused, a call also where one
-- of its arguments alone names it.
pub record RefusesObject (s : Situation) (x : Session) (id : List ℕ) : Type 0 where
  pub no_handle : handle_of x id ≡ None
  pub no_object : object_of x id ≡ None
  pub properties : (own preview : Bool)
      → comes_to s x (params.GetProperties id own preview) ≡ Refuses refusals.UnknownObject
  pub releasing : comes_to s x (params.ReleaseObject id) ≡ Refuses refusals.UnknownObject
  pub receiver : (call : FunctionCall)
      → call.object_id ≡ Some id
      → comes_to s x (params.CallFunctionOn call) ≡ Refuses refusals.UnknownObject
  pub argument : (call : FunctionCall) (front back : List Argument) → call.arguments ≡ front ++ (an_object id ∷ back)
      → comes_to s x (params.CallFunctionOn call) ≡ Refuses refusals.UnknownObject

-- No frame that the session knows has this id, at any stop: an evaluation in it is refused, and where the session has
-- the debugger enabled and the program is paused, because of the frame.
pub record RefusesFrame (s : Situation) (x : Session) (id : List ℕ) : Type 0 where
  pub no_frame : (paused : Option Pause) → frame_of s x paused id ≡ None
  pub by_row : (evaluation : Evaluation)
      → row s x (params.EvaluateOnCallFrame id evaluation) ≡ Refuses refusals.UnknownFrame
  pub refused : (evaluation : Evaluation) → IsRefusal (comes_to s x (params.EvaluateOnCallFrame id evaluation))
  pub unknown : (evaluation : Evaluation) → x.rules.enabled ≡ true → is_some s.paused ≡ true
      → comes_to s x (params.EvaluateOnCallFrame id evaluation) ≡ Refuses refusals.UnknownFrame
