-- Whatever happens to a session, it stays within its limits.
use Rattle.std.proofs.Common.{◌≡◌, ℕ, ◌≤◌, Bool, true, false, List, [], ◌∷◌, ◌++◌, length, refl, sym, subst}
use Rattle.std.specs.Prelude.{◌^◌, is_some, nat_le, nat_lt, if◌then◌else◌, Option, Some, None}
use Rattle.std.specs.List.{list_any}
use Rattle.std.specs.Option.{option_map_or}
use Rattle.cdp_text.specs.declared.position.Place.{Place}
use Rattle.js_heap.specs.declared.value.Value.{Value}
use Rattle.js_heap.specs.declared.value.Value.TheVariants as values
use Rattle.js_heap.specs.BuiltIns.{script_scope}
use Rattle.js_tree.specs.declared.script.Script.{Script}
use Rattle.stepping.specs.declared.rules.StepKind.{StepKind}
use Rattle.stepping.specs.declared.rules.StepKind.TheVariants as kinds
use Rattle.serde_json.specs.Read.{read}
use Rattle.breakpoints.specs.declared.breakpoint.Breakpoint.{Breakpoint}
use Rattle.breakpoints.specs.declared.fault.AddFault.{AddFault}
use Rattle.breakpoints.specs.declared.fault.AddFault.TheVariants as faults
use Rattle.breakpoints.specs.Breakpoints.{HeldBreakpoints, breakpoint_of, fault_of, has_another_id, has_id, most}
use Rattle.breakpoints.specs.Ids.{place_id, url_id}
use Rattle.breakpoints.specs.Resolving.{resolved_at, resolved_by_url, resolved_in}
use Rattle.js_semantics.specs.Functions.{Program}
use Rattle.pure_eval.specs.Workspaces.{Workspace, begun}
use Rattle.cdp_json.specs.Json.{Json}
use Rattle.cdp_json.specs.Commands.{reading_of}
use Rattle.cdp_json.specs.declared.command.Reading.{Reading}
use Rattle.cdp_json.specs.declared.command.Reading.TheVariants as readings
use Rattle.cdp_json.specs.declared.params.Params.{Params}
use Rattle.cdp_json.specs.declared.params.Params.TheVariants as params
use Rattle.cdp_json.specs.declared.refusal.Refusal.{Refusal}
use Rattle.object_groups.specs.declared.handle.Handle.{Handle}
use Rattle.cdp_session_messages.specs.Results.{set_at, set_by_url}
use Rattle.cdp_session.specs.Calls.{arguments_of, receiver_of}
use Rattle.cdp_session.specs.Endings.{end_told, ending_told}
use Rattle.cdp_session.specs.Consoles.{print_told}
use Rattle.cdp_session.specs.Evaluations.{frame_of}
use Rattle.cdp_session.specs.Objects.{handle_of}
use Rattle.cdp_session.specs.Replies.{answer_by, comes_to, outcome_by, outcome_for, refusal_of}
use Rattle.cdp_session.specs.Rows.{Does, Refuses, Row, add_in, adds as adds_breakpoint, adds_at, continue_at, end_of, in_script, placed_in, possible_in, properties_of, releases as releases_row, row, source_in, step_from}
use Rattle.cdp_session.specs.Sessions.{Session, fresh}
use Rattle.cdp_session.specs.Situations.{Situation, script_of}
use Rattle.cdp_session.specs.declared.ending.Ending.{Ending}
use Rattle.cdp_session.specs.declared.ending.Ending.TheVariants as endings
use Rattle.cdp_session.specs.declared.situation.Pause.{Pause}
use Rattle.cdp_session_laws.specs.Events.{Event, Texted, Printed, Ended, Stopped, Resumed, HandedOut, after_all, after_event, lived}
use Rattle.cdp_session_laws.specs.Handles.{IsOrdered}
use Rattle.cdp_session_laws.specs.Limits.{HasFew, IsWithinLimits, IsWithinScratch}
use Rattle.cdp_session_laws.proofs.CountLemmas.{below-last, counts-on, filter-within, none-within, push-within}
use Rattle.cdp_session_laws.proofs.EvaluatingLemmas.{Evaluation, a-call, an-evaluation, in-frame}
use Rattle.cdp_session_laws.proofs.EventLemmas.{event-leaves}
use Rattle.cdp_session_laws.proofs.RowLemmas.{session_by}
use Rattle.cdp_session_laws.proofs.ScratchLemmas.{IsBalanced, balanced-within, begun-balanced}

-- ---- breakpoints and exceptions

-- a session has few breakpoints and counted few exceptions
abbrev Few : Session → Type 0
Few x = HasFew x.breakpoints × (x.exceptions ≤ 2 ^ 62)

-- what is refused before it acts leaves everything
or-refused : (x : Session) (o : Option Refusal) (r : Row)
    → (Few x → Few (session_by x r))
    → Few x
    → Few (session_by x (option_map_or Refuses o r))
or-refused x None r stays few = stays few
or-refused x (Some why) r stays few = few

of-script : (x : Session) (o : Option Script) (id : List ℕ) (f : Script → Row)
    → ((script : Script) → Few x → Few (session_by x (f script)))
    → Few x
    → Few (session_by x (in_script o id f))
of-script x None id f each few = few
of-script x (Some script) id f each few = each script few

to-place : (x : Session) (o : Option Place)
    → Few x
    → Few (session_by x (continue_at x o))
to-place x None few = few
to-place x (Some place) few = few

a-step : (x : Session) (kind : StepKind) (o : Option Pause)
    → Few x
    → Few (session_by x (step_from kind o x))
a-step x kind None few = few
a-step x kind (Some p) few = few

asks-pause : (x : Session) (b : Bool)
    → Few x
    → Few (if b then x else record x { rules = record x.rules { pause = true } })
asks-pause x true few = few
asks-pause x false few = few

properties-made : (s : Situation) (x : Session) (preview : Bool) (o : Option Handle)
    → Few x
    → Few (session_by x (properties_of s x preview o))
properties-made s x preview None few = few
properties-made s x preview (Some h) few = few

releases-made : (x : Session) (o : Option Handle)
    → Few x
    → Few (session_by x (releases_row x o))
releases-made x None few = few
releases-made x (Some h) few = few

-- ---- one breakpoint more, or less

-- where no limit stands, one more fits
set-below : (id : List ℕ) (b : HeldBreakpoints) (new : Breakpoint)
    → fault_of id b ≡ None
    → length (b.set ++ new ∷ []) ≤ most
set-below id b new none =
    let room = below-last most (length b.set) (faults.Exists id) (faults.Full most) (list_any (has_id id) b.set)
    (nat_le most (length b.set)) refl none in
    push-within most b.set new room

adds-one : (x : Session) (o : Option AddFault) (id : List ℕ) (condition : Option (List ℕ)) (places : List Place)
    (result : Json)
    → fault_of id x.breakpoints ≡ o
    → Few x
    → Few (session_by x (adds_breakpoint o x id condition places result))
adds-one x None id condition places result none few =
    (set-below id x.breakpoints (breakpoint_of id condition places) none, few.1)
adds-one x (Some fault) id condition places result is few = few

adds-resolved : (x : Session) (place : Place) (condition : Option (List ℕ)) (o : Option Place)
    → Few x
    → Few (session_by x (adds_at x place condition o))
adds-resolved x place condition None few = few
adds-resolved x place condition (Some resolved) few =
    adds-one x (fault_of (place_id place) x.breakpoints) (place_id place) condition (resolved ∷ [])
    (set_at (place_id place) resolved) refl few

-- ---- evaluations

evaluated : (x : Session) (r : Row) → Evaluation x r
    → Few x
    → Few (session_by x r)
evaluated x (Refuses why) e few = few
evaluated x (Does done) e few = (subst (λ b. HasFew b) (sym e.0.only.breakpoints) few.0, e.0.counts few.1)

-- ---- all commands

-- a command whose row leaves few leaves few
by-row : (s : Situation) (x : Session) (p : Params)
    → (Few x → Few (session_by x (row s x p)))
    → Few x
    → Few (session_by x (comes_to s x p))
by-row s x p stays few = or-refused x (refusal_of s x p) (row s x p) stays few

stays-few : (s : Situation) (x : Session) (p : Params)
    → Few x
    → Few (session_by x (comes_to s x p))
stays-few s x params.DebuggerEnable few = by-row s x params.DebuggerEnable (λ f. f) few
stays-few s x params.DebuggerDisable few = (none-within 1000, few.1)
stays-few s x params.Pause few = by-row s x params.Pause (asks-pause x (is_some s.paused)) few
stays-few s x params.Resume few = by-row s x params.Resume (λ f. f) few
stays-few s x params.StepInto few = by-row s x params.StepInto (a-step x kinds.Into s.paused) few
stays-few s x params.StepOver few = by-row s x params.StepOver (a-step x kinds.Over s.paused) few
stays-few s x params.StepOut few = by-row s x params.StepOut (a-step x kinds.Out s.paused) few
stays-few s x (params.ContinueToLocation at) few =
    by-row s x (params.ContinueToLocation at)
    (of-script x (script_of at.script_id s.scripts) at.script_id
    (λ script. continue_at x (resolved_in at.position script))
    (λ script. to-place x (resolved_in at.position script)))
    few
stays-few s x (params.SetBreakpointByUrl url p condition) few =
    by-row s x (params.SetBreakpointByUrl url p condition)
    (adds-one x (fault_of (url_id p url) x.breakpoints) (url_id p url) condition
    (resolved_by_url url p s.scripts) (set_by_url (url_id p url) (resolved_by_url url p s.scripts)) refl)
    few
stays-few s x (params.SetBreakpoint at condition) few =
    by-row s x (params.SetBreakpoint at condition)
    (of-script x (script_of at.script_id s.scripts) at.script_id (add_in s x at.position condition)
    (λ script. adds-resolved x (placed_in at.position script) condition
    (resolved_at (placed_in at.position script) s.scripts)))
    few
stays-few s x (params.RemoveBreakpoint id) few =
    by-row s x (params.RemoveBreakpoint id)
    (λ f. (filter-within most (has_another_id id) x.breakpoints.set f.0, f.1)) few
stays-few s x (params.SetBreakpointsActive active) few =
    by-row s x (params.SetBreakpointsActive active) (λ f. f) few
stays-few s x (params.SetSkipAllPauses skip) few = by-row s x (params.SetSkipAllPauses skip) (λ f. f) few
stays-few s x (params.SetPauseOnExceptions state) few =
    by-row s x (params.SetPauseOnExceptions state) (λ f. f) few
stays-few s x params.SetAsyncCallStackDepth few = by-row s x params.SetAsyncCallStackDepth (λ f. f) few
stays-few s x (params.GetPossibleBreakpoints start end) few =
    by-row s x (params.GetPossibleBreakpoints start end)
    (of-script x (script_of start.script_id s.scripts) start.script_id
    (possible_in x start.position (end_of end)) (λ script. λ f. f))
    few
stays-few s x (params.GetScriptSource id) few =
    by-row s x (params.GetScriptSource id)
    (of-script x (script_of id s.scripts) id (source_in x) (λ script. λ f. f)) few
stays-few s x (params.GetProperties id own preview) few =
    by-row s x (params.GetProperties id own preview) (properties-made s x preview (handle_of x id)) few
stays-few s x (params.ReleaseObject id) few =
    by-row s x (params.ReleaseObject id) (releases-made x (handle_of x id)) few
stays-few s x (params.ReleaseObjectGroup group) few = by-row s x (params.ReleaseObjectGroup group) (λ f. f) few
stays-few s x (params.Evaluate ev) few =
    by-row s x (params.Evaluate ev)
    (evaluated x (row s x (params.Evaluate ev)) (an-evaluation s x script_scope values.Undefined ev)) few
stays-few s x (params.EvaluateOnCallFrame id ev) few =
    by-row s x (params.EvaluateOnCallFrame id ev)
    (evaluated x (row s x (params.EvaluateOnCallFrame id ev)) (in-frame s x (frame_of s x s.paused id) ev)) few
stays-few s x (params.CallFunctionOn call) few =
    by-row s x (params.CallFunctionOn call)
    (evaluated x (row s x (params.CallFunctionOn call))
    (a-call s x call (receiver_of x call.object_id) (arguments_of x call.arguments)))
    few
stays-few s x params.RuntimeEnable few = by-row s x params.RuntimeEnable (λ f. f) few
stays-few s x params.RuntimeDisable few = by-row s x params.RuntimeDisable (λ f. f) few
stays-few s x params.GlobalLexicalScopeNames few = by-row s x params.GlobalLexicalScopeNames (λ f. f) few
stays-few s x params.RunIfWaitingForDebugger few = by-row s x params.RunIfWaitingForDebugger (λ f. f) few

-- ---- events

by-outcome : (x : Session) (id : ℕ) (r : Row)
    → Few (session_by x r)
    → Few (answer_by x (outcome_by id r)).session
by-outcome x id (Refuses why) few = few
by-outcome x id (Does done) few = few

by-reading : (s : Situation) (x : Session) (r : Reading) → Few x → Few (answer_by x (outcome_for s x r)).session
by-reading s x (readings.Command id method params) few =
    by-outcome x id (comes_to s x params) (stays-few s x params few)
by-reading s x (readings.Refused id refusal) few = few
by-reading s x readings.Memory few = few

printing : (s : Situation) (vs : List Value) (moment : ℕ) (x : Session) (b : Bool)
    → Few x
    → Few (if b then print_told s vs moment x else x)
printing s vs moment x true few = few
printing s vs moment x false few = few

ending : (s : Situation) (e : Ending) (moment : ℕ) (x : Session) → Few x → Few (ending_told s e moment x)
ending s endings.Finished moment x few = few
ending s (endings.Threw v place) moment x few =
    (few.0, counts-on (2 ^ 62) x.exceptions (nat_lt x.exceptions (2 ^ 62)) refl few.1)

finishing : (s : Situation) (e : Ending) (moment : ℕ) (x : Session) (b : Bool)
    → Few x
    → Few (if b then end_told s e moment x else x)
finishing s e moment x true few = ending s e moment x few
finishing s e moment x false few = few

event-few : (e : Event) (x : Session) → Few x → Few (after_event e x)
event-few (Texted s text) x few = by-reading s x (reading_of (read text)) few
event-few (Printed s vs moment) x few = printing s vs moment x x.runtime few
event-few (Ended s e moment) x few = finishing s e moment x x.runtime few
event-few (Stopped s number a) x few = few
event-few Resumed x few = few
event-few HandedOut x few = few

-- ---- sessions that lived

within-after : (es : List Event) (x : Session) → IsOrdered x.handles → IsWithinLimits x → IsWithinLimits (after_all es x)
within-after [] x ordered within = within
within-after (e ∷ es) x ordered within =
    let fate = (event-leaves e x ordered).fate in
    let few = event-few e x (within.breakpoints, within.exceptions) in
    within-after es (after_event e x) fate.ordered
    (record { objects = fate.few within.objects; breakpoints = few.0; exceptions = few.1 })

pub within-limits : (number : ℕ) (workspace : Workspace) (events : List Event)
    → IsWithinLimits (lived number workspace events)
within-limits number workspace events =
    within-after events (fresh number workspace) (record { below = tt; ascending = tt })
    (record {
      objects = (none-within 100000, none-within (2 ^ 62));
      breakpoints = none-within 1000;
      exceptions = none-within (2 ^ 62);
    })

-- ---- what evaluations keep

balanced-after : (es : List Event) (x : Session)
    → IsOrdered x.handles
    → IsBalanced x.workspace
    → IsBalanced (after_all es x).workspace
balanced-after [] x ordered balanced = balanced
balanced-after (e ∷ es) x ordered balanced =
    let leaves = event-leaves e x ordered in
    balanced-after es (after_event e x) leaves.fate.ordered (leaves.fits balanced)

pub within-scratch : (number : ℕ) (scripts : Program) (events : List Event)
    → IsWithinScratch (lived number (begun scripts) events).workspace
within-scratch number scripts events =
    balanced-within (lived number (begun scripts) events).workspace
    (balanced-after events (fresh number (begun scripts)) (record { below = tt; ascending = tt })
    (begun-balanced scripts))
