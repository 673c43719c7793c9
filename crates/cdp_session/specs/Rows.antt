-- What each method does to its session, and what it answers (Chrome DevTools Protocol 1.3).
use Rattle.std.specs.Prelude.{ℕ, List, [], ◌∷◌, Bool, true, false, ◌||◌, filter, is_some, if◌then◌else◌, Option, Some, None}
use Rattle.cdp_text.specs.declared.position.Pos.{Pos}
use Rattle.cdp_text.specs.declared.position.Place.{Place}
use Rattle.js_tree.specs.declared.script.Script.{Script}
use Rattle.cdp_json.specs.Json.{Json}
use Rattle.cdp_json.specs.declared.params.Location.{Location}
use Rattle.cdp_json.specs.declared.params.ExceptionPauses.{ExceptionPauses}
use Rattle.cdp_json.specs.declared.params.ExceptionPauses.TheVariants as pauses
use Rattle.cdp_json.specs.declared.params.Params.{Params}
use Rattle.cdp_json.specs.declared.params.Params.TheVariants as params
use Rattle.cdp_json.specs.declared.refusal.Refusal.{Refusal}
use Rattle.cdp_json.specs.declared.refusal.Refusal.TheVariants as refusals
use Rattle.stepping.specs.declared.rules.StepKind.{StepKind}
use Rattle.stepping.specs.declared.rules.StepKind.TheVariants as kinds
use Rattle.stepping.specs.declared.rules.Exceptions.{Exceptions}
use Rattle.stepping.specs.declared.rules.Exceptions.TheVariants as throws
use Rattle.stepping.specs.Rules.{no_rules}
use Rattle.locations.specs.Locations.{break_locations}
use Rattle.locations.specs.Search.{is_between}
use Rattle.breakpoints.specs.Breakpoints.{breakpoint_of, fault_of, none_set, with_breakpoint, without}
use Rattle.breakpoints.specs.Ids.{place_id, url_id}
use Rattle.breakpoints.specs.Resolving.{resolved_at, resolved_by_url, resolved_in}
use Rattle.breakpoints.specs.declared.fault.AddFault.{AddFault}
use Rattle.breakpoints.specs.declared.fault.AddFault.TheVariants as faults
use Rattle.cdp_session.specs.Situations.{Situation, script_of}
use Rattle.object_groups.specs.Handles as handles
use Rattle.object_groups.specs.Handles.{without_group}
use Rattle.object_groups.specs.declared.handle.Handle.{Handle}
use Rattle.cdp_json.specs.Parts.{nothing}
use Rattle.remote_objects.specs.Descriptors.{descriptors_with}
use Rattle.remote_objects.specs.ScopeNames.{declared_names}
use Rattle.js_heap.specs.BuiltIns.{script_scope}
use Rattle.remote_objects.specs.Making.{Made}
use Rattle.cdp_session.specs.Objects.{handle_of}
use Rattle.cdp_session.specs.Evaluations.{Answers, Evaluates, Stops, detail_of, evaluates, evaluates_at, frame_of, sight_with}
use Rattle.cdp_session.specs.Calls.{calls}
use Rattle.cdp_session.specs.Pauses.{enabling_told}
use Rattle.cdp_session.specs.Sessions.{Session, holding, with_rules, with_runtime, with_breakpoints, with_handles, without_backtrace}
use Rattle.cdp_session_messages.specs.Results.{context_created_text, debugger_id, declared_names as names_result, set_by_url, set_at, spot_locations, script_source, properties}
use Rattle.cdp_session_messages.specs.Scripts.{scripts_told}
use Rattle.cdp_session.specs.declared.situation.Pause.{Pause}
use Rattle.cdp_session.specs.declared.asks.Asks.{Asks}
use Rattle.cdp_session.specs.declared.asks.Asks.TheVariants.{Nothing, Wake, Resume, Leave}

-- what a method that is done leaves: its session, the events before the reply, its result, the events behind the reply,
-- and what it asks of the program
pub record Done : Type 0 where
  pub session : Session
  pub before : List (List ℕ)
  pub result : Json
  pub events : List (List ℕ)
  pub asks : Asks

-- a method is refused, and changes nothing, or it is done
pub data Row : Type 0 where
  Refuses : Refusal → Row
  Does : Done → Row

-- done, with this result and no event
abbrev pub answers : Json → Session → Row
answers result x = Does (record { session = x; before = []; result = result; events = []; asks = Nothing })

-- done, with nothing to answer
abbrev pub does : Session → Row
does x = answers nothing x

-- done, with nothing to answer, and this is asked of the program
abbrev pub asking : Asks → Session → Row
asking asks x = Does (record { session = x; before = []; result = nothing; events = []; asks = asks })

-- done, and the program goes on
abbrev pub resumes : Session → Row
resumes x = asking Resume x

-- ---- the debugger

-- enabling it anew tells of the scripts, and behind the reply of the pause, if the program is paused; none of the
-- session's rules named that
abbrev pub enable : Situation → Session → Row
enable s x = Does (record {
  session =
      with_rules (record x.rules { enabled = true })
      (with_handles (enabling_told s s.paused x.rules.enabled x).handles x);
  before = scripts_told s.scripts x.rules.enabled;
  result = debugger_id;
  events = (enabling_told s s.paused x.rules.enabled x).made;
  asks = Nothing;
})

-- disabling it forgets what the session asked for and the objects of the stop; the program isn't paused for this
-- session any more
abbrev pub disable : Session → Row
disable x = asking Leave (with_rules no_rules (with_breakpoints none_set (without_backtrace x)))

-- a pause is asked for, unless the program is paused
abbrev pub pause : Situation → Session → Row
pause s x = does (if is_some s.paused then x else with_rules (record x.rules { pause = true }) x)

-- a step of this kind from where the program is paused
abbrev pub step_from : StepKind → Option Pause → Session → Row
step_from kind None x = Refuses refusals.NotPaused
step_from kind (Some at) x =
    resumes (with_rules (record x.rules { step = Some (record { kind = kind; depth = at.depth }) }) x)

-- ---- places in scripts

-- what becomes of a script of this id; where there is none, that is the refusal
abbrev pub in_script : Option Script → List ℕ → (Script → Row) → Row
in_script None id f = Refuses (refusals.UnknownScript id)
in_script (Some s) id f = f s

-- the program runs on to this place, if there is one
abbrev pub continue_at : Session → Option Place → Row
continue_at x None = Refuses refusals.Unresolved
continue_at x (Some place) = resumes (with_rules (record x.rules { to = Some place }) x)

-- it runs on to the first break location of the script at or behind the position
abbrev pub continue_to : Situation → Session → Location → Row
continue_to s x at =
    in_script (script_of at.script_id s.scripts) at.script_id (λ script. continue_at x (resolved_in at.position script))

-- the position of the end of a range, if it has one
abbrev pub end_of : Option Location → Option Pos
end_of None = None
end_of (Some at) = Some at.position

-- the break locations of a script from a start to before an end
abbrev pub possible_in : Session → Pos → Option Pos → Script → Row
possible_in x start end script =
    answers (spot_locations script.number (filter (is_between start end) (break_locations script))) x

-- the break locations of a range of one script
abbrev pub possible : Situation → Session → Location → Option Location → Row
possible s x start end =
    in_script (script_of start.script_id s.scripts) start.script_id (possible_in x start.position (end_of end))

-- the source of a script
abbrev pub source_in : Session → Script → Row
source_in x script = answers (script_source script.source) x

-- the source of the script of this id, if there is one
abbrev pub source : Situation → Session → List ℕ → Row
source s x id = in_script (script_of id s.scripts) id (source_in x)

-- ---- breakpoints

-- the refusal for a fault; want of memory is none
abbrev pub refusal_for : AddFault → Refusal
refusal_for faults.Unresolved = refusals.Unresolved
refusal_for (faults.Exists id) = refusals.BreakpointExists
refusal_for (faults.Full count) = refusals.BreakpointsFull count
refusal_for faults.Memory = refusals.Unresolved

-- a breakpoint more, unless there is a fault
abbrev pub adds : Option AddFault → Session → List ℕ → Option (List ℕ) → List Place → Json → Row
adds None x id condition places result =
    answers result (with_breakpoints (with_breakpoint (breakpoint_of id condition places) x.breakpoints) x)
adds (Some fault) x id condition places result = Refuses (refusal_for fault)

-- a breakpoint more by the URL of scripts, which may resolve to no place
abbrev pub add_by_url : Situation → Session → List ℕ → Pos → Option (List ℕ) → Row
add_by_url s x url p condition =
    adds (fault_of (url_id p url) x.breakpoints) x (url_id p url) condition (resolved_by_url url p s.scripts)
    (set_by_url (url_id p url) (resolved_by_url url p s.scripts))

-- a breakpoint at a place that resolved so, if it did
abbrev pub adds_at : Session → Place → Option (List ℕ) → Option Place → Row
adds_at x place condition None = Refuses refusals.Unresolved
adds_at x place condition (Some resolved) =
    adds (fault_of (place_id place) x.breakpoints) x (place_id place) condition (resolved ∷ [])
    (set_at (place_id place) resolved)

-- the place of a position in a script
abbrev pub placed_in : Pos → Script → Place
placed_in p script = record { script = script.number; pos = p }

-- a breakpoint more at a position of a script
abbrev pub add_in : Situation → Session → Pos → Option (List ℕ) → Script → Row
add_in s x p condition script = adds_at x (placed_in p script) condition (resolved_at (placed_in p script) s.scripts)

-- a breakpoint more at a location, whose script there is
abbrev pub add_at : Situation → Session → Location → Option (List ℕ) → Row
add_at s x at condition = in_script (script_of at.script_id s.scripts) at.script_id (add_in s x at.position condition)

-- an id that no breakpoint has changes nothing
abbrev pub remove : Session → List ℕ → Row
remove x id = does (with_breakpoints (without id x.breakpoints) x)

-- whether breakpoints stop the program
abbrev pub set_active : Session → Bool → Row
set_active x active = does (with_breakpoints (record x.breakpoints { active = active }) x)

-- ---- flags

-- whether the session skips all pauses
abbrev pub set_skip : Session → Bool → Row
set_skip x skip = does (with_rules (record x.rules { skip = skip }) x)

-- the throws at which it stops
abbrev pub throws_of : ExceptionPauses → Exceptions
throws_of pauses.Never = throws.Never
throws_of pauses.Uncaught = throws.Uncaught
throws_of pauses.All = throws.All

-- at which throws the session wants it to stop
abbrev pub set_throws : Session → ExceptionPauses → Row
set_throws x state = does (with_rules (record x.rules { exceptions = throws_of state }) x)

-- ---- objects

-- the properties of what a handle stands for, with new handles in its group, if it is in one
abbrev pub lists : Session → Made (List Json) → Row
lists x m = answers (properties m.made) (with_handles m.handles x)

-- the properties of an object that the session holds, with previews or without
abbrev pub properties_of : Situation → Session → Bool → Option Handle → Row
properties_of s x preview None = Refuses refusals.UnknownObject
properties_of s x preview (Some h) =
    lists x (descriptors_with (sight_with s x x.workspace.scratch) (detail_of preview) h.group h.target x.handles)

-- the properties of the object of an id
abbrev pub get_properties : Situation → Session → List ℕ → Bool → Row
get_properties s x id preview = properties_of s x preview (handle_of x id)

-- a handle ends
abbrev pub releases : Session → Option Handle → Row
releases x None = Refuses refusals.UnknownObject
releases x (Some h) = does (holding (handles.without h.number x.handles) x)

-- the id of an object ends
abbrev pub release : Session → List ℕ → Row
release x id = releases x (handle_of x id)

-- the handles of a group end; a group that has none changes nothing
abbrev pub release_group : Session → List ℕ → Row
release_group x group = does (holding (without_group group x.handles) x)

-- ---- evaluations

-- an evaluation is refused, or answered
abbrev pub row_of : Evaluates → Row
row_of (Stops refusal) = Refuses refusal
row_of (Answers result x) = answers result x

-- ---- the domain Runtime

-- enabling it anew tells of the only context, unless the run has ended
abbrev pub contexts_told : Situation → Session → List (List ℕ)
contexts_told s x = if s.standing.over || x.runtime then [] else context_created_text ∷ []

-- the domain is enabled, and the events come before the reply
abbrev pub enable_runtime : Situation → Session → Row
enable_runtime s x =
    Does (record {
      session = with_runtime true x;
      before = contexts_told s x;
      result = nothing;
      events = [];
      asks = Nothing;
    })

-- the domain is not enabled any more
abbrev pub disable_runtime : Session → Row
disable_runtime x = does (with_runtime false x)

-- the names that the scripts have declared so far, also those without a value yet
abbrev pub lexical_names : Situation → Session → Row
lexical_names s x = answers (names_result (declared_names s.standing.world script_scope)) x

-- ---- all of them

-- one row for each method
abbrev pub row : Situation → Session → Params → Row
row s x params.DebuggerEnable = enable s x
row s x params.DebuggerDisable = disable x
row s x params.Pause = pause s x
row s x params.Resume = resumes x
row s x params.StepInto = step_from kinds.Into s.paused x
row s x params.StepOver = step_from kinds.Over s.paused x
row s x params.StepOut = step_from kinds.Out s.paused x
row s x (params.ContinueToLocation at) = continue_to s x at
row s x (params.SetBreakpointByUrl url p condition) = add_by_url s x url p condition
row s x (params.SetBreakpoint at condition) = add_at s x at condition
row s x (params.RemoveBreakpoint id) = remove x id
row s x (params.SetBreakpointsActive active) = set_active x active
row s x (params.SetSkipAllPauses skip) = set_skip x skip
row s x (params.SetPauseOnExceptions state) = set_throws x state
row s x params.SetAsyncCallStackDepth = does x
row s x (params.GetPossibleBreakpoints start end) = possible s x start end
row s x (params.GetScriptSource id) = source s x id
row s x (params.GetProperties id own preview) = get_properties s x id preview
row s x (params.ReleaseObject id) = release x id
row s x (params.ReleaseObjectGroup group) = release_group x group
row s x (params.Evaluate evaluation) = row_of (evaluates s x evaluation)
row s x (params.EvaluateOnCallFrame id evaluation) = row_of (evaluates_at s x (frame_of s x s.paused id) evaluation)
row s x (params.CallFunctionOn call) = row_of (calls s x call)
row s x params.RuntimeEnable = enable_runtime s x
row s x params.RuntimeDisable = disable_runtime x
row s x params.GlobalLexicalScopeNames = lexical_names s x
row s x params.RunIfWaitingForDebugger = asking Wake x
