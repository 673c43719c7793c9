-- The parameters of each method (Chrome DevTools Protocol 1.3), read off a JSON value. Members without a meaning are
-- passed over.
use Rattle.std.specs.Prelude.{ℕ, List, [], ◌∷◌, Bool, bytes_eq, if◌then◌else◌, codes, Option, Some, None, option_map, option_and_then}
use Rattle.cdp_text.specs.declared.position.Pos.{Pos}
use Rattle.serde_json.specs.Data.{Data}
use Rattle.serde_json.specs.Find.{get, as_bool, as_str}
use Rattle.cdp_json.specs.Calls.{call_of}
use Rattle.cdp_json.specs.Flags.{flag_or_false, flags_of}
use Rattle.cdp_json.specs.Members.{required, optional, text_of, is_integer, position_of}
use Rattle.cdp_json.specs.declared.flags.EvaluationFlags.{EvaluationFlags}
use Rattle.cdp_json.specs.declared.method.Method.{Method}
use Rattle.cdp_json.specs.declared.method.Method.TheVariants as methods
use Rattle.cdp_json.specs.declared.params.Location.{Location}
use Rattle.cdp_json.specs.declared.params.Evaluation.{Evaluation}
use Rattle.cdp_json.specs.declared.params.ExceptionPauses.{ExceptionPauses}
use Rattle.cdp_json.specs.declared.params.ExceptionPauses.TheVariants.{Never, Uncaught, All}
use Rattle.cdp_json.specs.declared.params.Params.{Params}
use Rattle.cdp_json.specs.declared.params.Params.TheVariants as params

-- ---- locations: `scriptId`, `lineNumber`, `columnNumber?`

-- a location of the id of a script and a position
abbrev pub location_from : Option (List ℕ) → Option Pos → Option Location
location_from None position = None
location_from (Some id) None = None
location_from (Some id) (Some position) = Some (record { script_id = id; position = position })

-- a location, as an object
abbrev pub location_of : Data → Option Location
location_of d = location_from (required text_of (codes "scriptId") d) (position_of d)

-- ---- conditions: an empty one is none

-- an empty text is none
abbrev pub unless_empty : List ℕ → Option (List ℕ)
unless_empty [] = None
unless_empty (u ∷ us) = Some (u ∷ us)

-- a condition, where it is absent or a text
abbrev pub condition_from : Option Data → Option (Option (List ℕ))
condition_from None = Some None
condition_from (Some d) = option_map unless_empty (text_of d)

-- `condition?`
abbrev pub condition_of : Data → Option (Option (List ℕ))
condition_of d = condition_from (get (codes "condition") d)

-- ---- each method's parameters

-- `location`
abbrev pub continue_of : Data → Option Params
continue_of d = option_map params.ContinueToLocation (required location_of (codes "location") d)

-- `lineNumber, url, columnNumber?, condition?`
abbrev pub by_url_from : Option (List ℕ) → Option Pos → Option (Option (List ℕ)) → Option Params
by_url_from None position condition = None
by_url_from (Some url) None condition = None
by_url_from (Some url) (Some position) None = None
by_url_from (Some url) (Some position) (Some condition) = Some (params.SetBreakpointByUrl url position condition)

-- `lineNumber, url, columnNumber?, condition?`
abbrev pub by_url_of : Data → Option Params
by_url_of d = by_url_from (required text_of (codes "url") d) (position_of d) (condition_of d)

-- `location, condition?`
abbrev pub at_location_from : Option Location → Option (Option (List ℕ)) → Option Params
at_location_from None condition = None
at_location_from (Some location) None = None
at_location_from (Some location) (Some condition) = Some (params.SetBreakpoint location condition)

-- `location, condition?`
abbrev pub at_location_of : Data → Option Params
at_location_of d = at_location_from (required location_of (codes "location") d) (condition_of d)

-- `breakpointId`
abbrev pub remove_of : Data → Option Params
remove_of d = option_map params.RemoveBreakpoint (required text_of (codes "breakpointId") d)

-- `active`
abbrev pub active_of : Data → Option Params
active_of d = option_map params.SetBreakpointsActive (required as_bool (codes "active") d)

-- `skip`
abbrev pub skip_of : Data → Option Params
skip_of d = option_map params.SetSkipAllPauses (required as_bool (codes "skip") d)

-- `state`: `none`, `uncaught` or `all`
abbrev pub state_named : List ℕ → Option ExceptionPauses
state_named name =
    if bytes_eq name (codes "none") then Some Never
    else if bytes_eq name (codes "uncaught") then Some Uncaught
    else if bytes_eq name (codes "all") then Some All
    else None

-- `state`
abbrev pub state_of : Data → Option Params
state_of d = option_map params.SetPauseOnExceptions (option_and_then state_named (required as_str (codes "state") d))

-- `maxDepth`: any integer
abbrev pub depth_from : Option Data → Option Params
depth_from None = None
depth_from (Some d) = if is_integer d then Some params.SetAsyncCallStackDepth else None

-- `maxDepth`
abbrev pub depth_of : Data → Option Params
depth_of d = depth_from (get (codes "maxDepth") d)

-- `start, end?`, of one script
abbrev pub possible_from : Option Location → Option (Option Location) → Option Params
possible_from None end = None
possible_from (Some start) None = None
possible_from (Some start) (Some None) = Some (params.GetPossibleBreakpoints start None)
possible_from (Some start) (Some (Some end)) =
    if bytes_eq start.script_id end.script_id then Some (params.GetPossibleBreakpoints start (Some end)) else None

-- `start, end?`
abbrev pub possible_of : Data → Option Params
possible_of d = possible_from (required location_of (codes "start") d) (optional location_of (codes "end") d)

-- `scriptId`
abbrev pub source_of : Data → Option Params
source_of d = option_map params.GetScriptSource (required text_of (codes "scriptId") d)

-- an evaluation, where its text is there and its group and flags are of their kinds
abbrev pub evaluation_from : Option (List ℕ) → Option (Option (List ℕ)) → Option EvaluationFlags → Option Evaluation
evaluation_from None group flags = None
evaluation_from (Some expression) None flags = None
evaluation_from (Some expression) (Some group) None = None
evaluation_from (Some expression) (Some group) (Some flags) =
    Some (record {
      expression = expression;
      object_group = group;
      return_by_value = flags.return_by_value;
      generate_preview = flags.generate_preview;
      throw_on_side_effect = flags.throw_on_side_effect;
    })

-- `expression, objectGroup?, silent?, returnByValue?, generatePreview?, throwOnSideEffect?`
abbrev pub evaluation_of : Data → Option Evaluation
evaluation_of d =
    evaluation_from (required text_of (codes "expression") d) (optional text_of (codes "objectGroup") d) (flags_of d)

-- the parameters of an evaluation
abbrev pub evaluate_of : Data → Option Params
evaluate_of d = option_map params.Evaluate (evaluation_of d)

-- an evaluation in a frame, where both are there
abbrev pub on_frame_from : Option (List ℕ) → Option Evaluation → Option Params
on_frame_from None evaluation = None
on_frame_from (Some id) None = None
on_frame_from (Some id) (Some evaluation) = Some (params.EvaluateOnCallFrame id evaluation)

-- `callFrameId`, and the parameters of an evaluation
abbrev pub on_frame_of : Data → Option Params
on_frame_of d = on_frame_from (required text_of (codes "callFrameId") d) (evaluation_of d)

-- the parameters of a call
abbrev pub call_function_of : Data → Option Params
call_function_of d = option_map params.CallFunctionOn (call_of d)

-- `objectId, ownProperties?, generatePreview?`
abbrev pub properties_from : Option (List ℕ) → Option (Option Bool) → Option (Option Bool) → Option Params
properties_from None own preview = None
properties_from (Some id) None preview = None
properties_from (Some id) (Some own) None = None
properties_from (Some id) (Some own) (Some preview) = Some (params.GetProperties id (flag_or_false own) (flag_or_false preview))

-- `objectId, ownProperties?, generatePreview?`
abbrev pub properties_of : Data → Option Params
properties_of d =
    properties_from (required text_of (codes "objectId") d) (optional as_bool (codes "ownProperties") d)
    (optional as_bool (codes "generatePreview") d)

-- `objectId`
abbrev pub release_of : Data → Option Params
release_of d = option_map params.ReleaseObject (required text_of (codes "objectId") d)

-- `objectGroup`
abbrev pub release_group_of : Data → Option Params
release_group_of d = option_map params.ReleaseObjectGroup (required text_of (codes "objectGroup") d)

-- the parameters of a method
abbrev pub params_of : Method → Data → Option Params
params_of methods.DebuggerEnable d = Some params.DebuggerEnable
params_of methods.DebuggerDisable d = Some params.DebuggerDisable
params_of methods.Pause d = Some params.Pause
params_of methods.Resume d = Some params.Resume
params_of methods.StepInto d = Some params.StepInto
params_of methods.StepOver d = Some params.StepOver
params_of methods.StepOut d = Some params.StepOut
params_of methods.ContinueToLocation d = continue_of d
params_of methods.SetBreakpointByUrl d = by_url_of d
params_of methods.SetBreakpoint d = at_location_of d
params_of methods.RemoveBreakpoint d = remove_of d
params_of methods.SetBreakpointsActive d = active_of d
params_of methods.SetSkipAllPauses d = skip_of d
params_of methods.SetPauseOnExceptions d = state_of d
params_of methods.SetAsyncCallStackDepth d = depth_of d
params_of methods.GetPossibleBreakpoints d = possible_of d
params_of methods.GetScriptSource d = source_of d
params_of methods.EvaluateOnCallFrame d = on_frame_of d
params_of methods.RuntimeEnable d = Some params.RuntimeEnable
params_of methods.RuntimeDisable d = Some params.RuntimeDisable
params_of methods.Evaluate d = evaluate_of d
params_of methods.CallFunctionOn d = call_function_of d
params_of methods.GetProperties d = properties_of d
params_of methods.ReleaseObject d = release_of d
params_of methods.ReleaseObjectGroup d = release_group_of d
params_of methods.GlobalLexicalScopeNames d = Some params.GlobalLexicalScopeNames
params_of methods.RunIfWaitingForDebugger d = Some params.RunIfWaitingForDebugger
