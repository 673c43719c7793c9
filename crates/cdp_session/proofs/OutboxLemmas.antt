-- An answer's texts come behind those that wait; nothing else changes them.
use Rattle.std.proofs.Common.{◌≡◌, ℕ, List, ◌++◌, Bool, true, false, is_some, if◌then◌else◌, refl, ap, ◌∙◌, Option, Some, None}
use Rattle.std.specs.Option.{option_map_or}
use Rattle.cdp_text.specs.declared.position.Place.{Place}
use Rattle.js_tree.specs.declared.script.Script.{Script}
use Rattle.cdp_json.specs.Json.{Json}
use Rattle.cdp_json.specs.declared.command.Reading.{Reading}
use Rattle.cdp_json.specs.declared.command.Reading.TheVariants as readings
use Rattle.cdp_json.specs.declared.params.Params.{Params}
use Rattle.cdp_json.specs.declared.params.Params.TheVariants as params
use Rattle.cdp_json.specs.declared.refusal.Refusal.{Refusal}
use Rattle.cdp_json.specs.Commands.{reading_of}
use Rattle.serde_json.specs.Read.{read}
use Rattle.breakpoints.specs.declared.fault.AddFault.{AddFault}
use Rattle.stepping.specs.declared.rules.StepKind.{StepKind}
use Rattle.object_groups.specs.declared.handle.Handle.{Handle}
use Rattle.cdp_session.specs.Objects.{handle_of}
use Rattle.cdp_session.specs.declared.situation.Pause.{Pause}
use Rattle.cdp_session.specs.Situations.{Situation, script_of}
use Rattle.cdp_session.specs.Sessions.{Session, with_exception, with_handles, with_rules}
use Rattle.js_heap.specs.World.{World}
use Rattle.js_heap.specs.declared.value.Addr.{Addr}
use Rattle.js_heap.specs.declared.value.Value.{Value}
use Rattle.js_tree.specs.Trees.{Expression}
use Rattle.js_semantics.specs.Evaluation.{Argument, Answer, a_result, a_throw, an_effect, is_full_of, spent}
use Rattle.js_semantics.specs.Makers.{MadeExpression as Source}
use Rattle.js_parser.specs.Expressions.{expression_of, function_of}
use Rattle.frames_scopes_types.specs.Frames.{ShownFrame}
use Rattle.cdp_json.specs.declared.params.Evaluation.{Evaluation}
use Rattle.cdp_json.specs.declared.params.FunctionCall.{FunctionCall}
use Rattle.remote_objects.specs.Making.{Made}
use Rattle.cdp_json.specs.declared.refusal.Refusal.TheVariants as refusals
use Rattle.cdp_session.specs.Calls.{arguments_of, calls, calls_given, outcome_of_function, receiver_of, showing_for}
use Rattle.cdp_session.specs.declared.showing.Showing.{Showing}
use Rattle.cdp_session_messages.specs.Exceptions.{thrown_result, value_result}
use Rattle.cdp_session.specs.Evaluations.{Evaluates, Stops, Answers, answered_by, as_it_is, behind_value, described, evaluates, evaluates_in, evaluates_at, frame_of, keeps, kept_by, outcome_of_answer, outcome_of_tree, showing_of}
use Rattle.cdp_session.specs.Rows.{Row, Refuses, Does, does, row, row_of, step_from, in_script, continue_at, adds, adds_at, properties_of, releases}
use Rattle.cdp_session.specs.Replies.{IsDone, refusal_of, comes_to, outcome_by, outcome_for, outcome_of, answer_by, answer_texts, answer_of}

-- the session that a row leaves has the texts that waited
abbrev KeepsOutbox : Row → Session → Type 0
KeepsOutbox (Refuses refusal) x = Unit {0}
KeepsOutbox (Does done) x = done.session.outbox ≡ x.outbox

step_keeps : (kind : StepKind) (o : Option Pause) (x : Session) → KeepsOutbox (step_from kind o x) x
step_keeps kind None x = tt
step_keeps kind (Some at) x = refl

script_keeps : (o : Option Script) (id : List ℕ) (f : Script → Row) (x : Session)
    → ((s : Script) → KeepsOutbox (f s) x)
    → KeepsOutbox (in_script o id f) x
script_keeps None id f x each = tt
script_keeps (Some s) id f x each = each s

continue_keeps : (x : Session) (o : Option Place) → KeepsOutbox (continue_at x o) x
continue_keeps x None = tt
continue_keeps x (Some place) = refl

adds_keeps : (o : Option AddFault) (x : Session) (id : List ℕ) (condition : Option (List ℕ)) (places : List Place)
    (result : Json)
    → KeepsOutbox (adds o x id condition places result) x
adds_keeps None x id condition places result = refl
adds_keeps (Some fault) x id condition places result = tt

adds_at_keeps : (x : Session) (place : Place) (condition : Option (List ℕ)) (o : Option Place)
    → KeepsOutbox (adds_at x place condition o) x
adds_at_keeps x place condition None = tt
adds_at_keeps x place condition (Some resolved) = adds_keeps _ x _ condition _ _

pause_keeps : (o : Option Pause) (x : Session)
    → KeepsOutbox (does (if is_some o then x else with_rules (record x.rules { pause = true }) x)) x
pause_keeps None x = refl
pause_keeps (Some at) x = refl

properties_keep : (s : Situation) (x : Session) (preview : Bool) (o : Option Handle)
    → KeepsOutbox (properties_of s x preview o) x
properties_keep s x preview None = tt
properties_keep s x preview (Some h) = refl

release_keeps : (x : Session) (o : Option Handle) → KeepsOutbox (releases x o) x
release_keeps x None = tt
release_keeps x (Some h) = refl

-- ---- evaluations

-- the session that an evaluation leaves has the texts that waited
abbrev LeavesOutbox : Evaluates → Session → Type 0
LeavesOutbox (Stops refusal) x = Unit {0}
LeavesOutbox (Answers result y) x = y.outbox ≡ x.outbox

evaluates_keep : (x : Session) (e : Evaluates) → LeavesOutbox e x → KeepsOutbox (row_of e) x
evaluates_keep x (Stops refusal) same = tt
evaluates_keep x (Answers result y) same = same

kept_outbox : (b : Bool) (e : Source) (w : World) (x : Session) → (kept_by b e w x).outbox ≡ x.outbox
kept_outbox true e w x = refl
kept_outbox false e w x = refl

answered_keeps : (result : Json → Json) (leaves : Session → Session) (x y : Session) (o : Option (Made Json))
    → ((z : Session) → (leaves z).outbox ≡ z.outbox)
    → y.outbox ≡ x.outbox
    → LeavesOutbox (answered_by result leaves y o) x
answered_keeps result leaves x y None left same = tt
answered_keeps result leaves x y (Some m) left same = left (with_handles m.handles y) ∙ same

answer_keeps : (s : Situation) (x : Session) (how : Showing) (e : Source) (a : Answer)
    → LeavesOutbox (outcome_of_answer s x how e a) x
answer_keeps s x how e (a_result v w) =
    answered_keeps value_result as_it_is x (behind_value x how e v w) (described s x how v w) (λ z. refl)
    (kept_outbox (keeps how v x.handles) e w x)
answer_keeps s x how e (a_throw v w) =
    answered_keeps (thrown_result (with_exception x).exceptions) with_exception x (behind_value x how e v w)
    (described s x how v w) (λ z. refl) (kept_outbox (keeps how v x.handles) e w x)
answer_keeps s x how e an_effect = refl
answer_keeps s x how e (is_full_of what) = tt
answer_keeps s x how e spent = tt

tree_keeps : (s : Situation) (x : Session) (scope : Addr) (receiver : Value) (how : Showing) (source : List ℕ)
    (o : Option Expression)
    → LeavesOutbox (outcome_of_tree s x scope receiver how source o) x
tree_keeps s x scope receiver how source None = refl
tree_keeps s x scope receiver how source (Some e) = answer_keeps s x how _ _

asked_keeps : (s : Situation) (x : Session) (b : Bool) (e : Evaluates)
    → LeavesOutbox e x
    → LeavesOutbox (if b then e else Stops refusals.NeedsNoSideEffect) x
asked_keeps s x true e same = same
asked_keeps s x false e same = tt

evaluated_keeps : (s : Situation) (x : Session) (scope : Addr) (receiver : Value) (ev : Evaluation)
    → LeavesOutbox (evaluates_in s x scope receiver ev) x
evaluated_keeps s x scope receiver ev =
    asked_keeps s x ev.throw_on_side_effect _
    (tree_keeps s x scope receiver (showing_of ev) ev.expression (expression_of ev.expression))

at_frame_keeps : (s : Situation) (x : Session) (o : Option ShownFrame) (ev : Evaluation)
    → LeavesOutbox (evaluates_at s x o ev) x
at_frame_keeps s x None ev = tt
at_frame_keeps s x (Some f) ev = evaluated_keeps s x _ _ ev

function_keeps : (s : Situation) (x : Session) (receiver : Value) (arguments : List Argument) (how : Showing)
    (source : List ℕ) (o : Option Expression)
    → LeavesOutbox (outcome_of_function s x receiver arguments how source o) x
function_keeps s x receiver arguments how source None = refl
function_keeps s x receiver arguments how source (Some f) = answer_keeps s x how _ _

called_keeps : (s : Situation) (x : Session) (call : FunctionCall) (receiver : Option Value)
    (arguments : Option (List Argument))
    → LeavesOutbox (calls_given s x call receiver arguments) x
called_keeps s x call None arguments = tt
called_keeps s x call (Some receiver) None = tt
called_keeps s x call (Some receiver) (Some arguments) =
    asked_keeps s x call.throw_on_side_effect _
    (function_keeps s x receiver arguments (showing_for x call) call.function_declaration
    (function_of call.function_declaration))

row_keeps : (s : Situation) (x : Session) (ps : Params) → KeepsOutbox (row s x ps) x
row_keeps s x params.DebuggerEnable = refl
row_keeps s x params.DebuggerDisable = refl
row_keeps s x params.Pause = pause_keeps s.paused x
row_keeps s x params.Resume = refl
row_keeps s x params.StepInto = step_keeps _ s.paused x
row_keeps s x params.StepOver = step_keeps _ s.paused x
row_keeps s x params.StepOut = step_keeps _ s.paused x
row_keeps s x (params.ContinueToLocation at) =
    script_keeps (script_of at.script_id s.scripts) at.script_id _ x (λ script. continue_keeps x _)
row_keeps s x (params.SetBreakpointByUrl url p condition) = adds_keeps _ x _ condition _ _
row_keeps s x (params.SetBreakpoint at condition) =
    script_keeps (script_of at.script_id s.scripts) at.script_id _ x (λ script. adds_at_keeps x _ condition _)
row_keeps s x (params.RemoveBreakpoint id) = refl
row_keeps s x (params.SetBreakpointsActive active) = refl
row_keeps s x (params.SetSkipAllPauses skip) = refl
row_keeps s x (params.SetPauseOnExceptions state) = refl
row_keeps s x params.SetAsyncCallStackDepth = refl
row_keeps s x (params.GetPossibleBreakpoints start end) =
    script_keeps (script_of start.script_id s.scripts) start.script_id _ x (λ script. refl)
row_keeps s x (params.GetScriptSource id) = script_keeps (script_of id s.scripts) id _ x (λ script. refl)
row_keeps s x (params.GetProperties id own preview) = properties_keep s x preview (handle_of x id)
row_keeps s x (params.ReleaseObject id) = release_keeps x (handle_of x id)
row_keeps s x (params.ReleaseObjectGroup group) = refl
row_keeps s x (params.Evaluate evaluation) =
    evaluates_keep x (evaluates s x evaluation) (evaluated_keeps s x _ _ evaluation)
row_keeps s x (params.EvaluateOnCallFrame id evaluation) =
    evaluates_keep x (evaluates_at s x (frame_of s x s.paused id) evaluation)
    (at_frame_keeps s x (frame_of s x s.paused id) evaluation)
row_keeps s x (params.CallFunctionOn call) =
    evaluates_keep x (calls s x call)
    (called_keeps s x call (receiver_of x call.object_id) (arguments_of x call.arguments))
row_keeps s x params.RuntimeEnable = refl
row_keeps s x params.RuntimeDisable = refl
row_keeps s x params.GlobalLexicalScopeNames = refl
row_keeps s x params.RunIfWaitingForDebugger = refl

-- ---- answers

comes_keeps : (o : Option Refusal) (r : Row) (x : Session) → KeepsOutbox r x → KeepsOutbox (option_map_or Refuses o r) x
comes_keeps None r x same = same
comes_keeps (Some refusal) r x same = tt

by_row : (id : ℕ) (r : Row) (x : Session)
    → KeepsOutbox r x
    → (answer_by x (outcome_by id r)).session.outbox ≡ x.outbox ++ answer_texts (outcome_by id r)
by_row id (Refuses refusal) x same = refl
by_row id (Does done) x same = ap (λ texts. texts ++ answer_texts (IsDone id done)) same

for_reading : (s : Situation) (x : Session) (r : Reading)
    → (answer_by x (outcome_for s x r)).session.outbox ≡ x.outbox ++ answer_texts (outcome_for s x r)
for_reading s x (readings.Command id method ps) =
    by_row id (comes_to s x ps) x (comes_keeps (refusal_of s x ps) (row s x ps) x (row_keeps s x ps))
for_reading s x (readings.Refused id refusal) = refl
for_reading s x readings.Memory = refl

-- the texts of an answer come behind those that wait
pub answer-outbox : (s : Situation) (x : Session) (text : List ℕ)
    → (answer_of s x text).session.outbox ≡ x.outbox ++ answer_texts (outcome_of s x text)
answer-outbox s x text = for_reading s x (reading_of (read text))
