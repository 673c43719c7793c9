-- While a program is paused no session has a request: a stop ends all of them, and a command that asks for one lets the
-- program go on.
use Rattle.std.proofs.Common.{◌≡◌, ℕ, List, Bool, true, false, ◌||◌, is_some, if◌then◌else◌, refl, ◌∙◌, Option, Some, None}
use Rattle.std.specs.Option.{option_map_or}
use Rattle.cdp_text.specs.declared.position.Place.{Place}
use Rattle.js_tree.specs.declared.script.Script.{Script}
use Rattle.cdp_json.specs.Json.{Json}
use Rattle.cdp_json.specs.declared.command.Reading.{Reading}
use Rattle.cdp_json.specs.declared.command.Reading.TheVariants as readings
use Rattle.cdp_json.specs.declared.params.Params.{Params}
use Rattle.cdp_json.specs.declared.params.Params.TheVariants as params
use Rattle.cdp_json.specs.declared.refusal.Refusal.{Refusal}
use Rattle.cdp_json.specs.declared.refusal.Refusal.TheVariants as refusals
use Rattle.cdp_json.specs.Commands.{reading_of}
use Rattle.serde_json.specs.Read.{read}
use Rattle.breakpoints.specs.declared.fault.AddFault.{AddFault}
use Rattle.stepping.specs.declared.rules.StepKind.{StepKind}
use Rattle.object_groups.specs.declared.handle.Handle.{Handle}
use Rattle.cdp_session.specs.Objects.{handle_of}
use Rattle.cdp_session.specs.declared.situation.Pause.{Pause}
use Rattle.cdp_session.specs.Situations.{Situation, script_of}
use Rattle.cdp_session.specs.Sessions.{Session, with_exception, with_handles, with_rules}
use Rattle.js_heap.specs.World.{World}
use Rattle.js_heap.specs.declared.value.Addr.{Addr}
use Rattle.js_heap.specs.declared.value.Value.{Value}
use Rattle.js_tree.specs.Trees.{Expression}
use Rattle.js_semantics.specs.Evaluation.{Argument, Answer, a_result, a_throw, an_effect, is_full_of, spent}
use Rattle.js_semantics.specs.Makers.{MadeExpression as Source}
use Rattle.js_parser.specs.Expressions.{expression_of, function_of}
use Rattle.frames_scopes_types.specs.Frames.{ShownFrame}
use Rattle.cdp_json.specs.declared.params.Evaluation.{Evaluation}
use Rattle.cdp_json.specs.declared.params.FunctionCall.{FunctionCall}
use Rattle.remote_objects.specs.Making.{Made}
use Rattle.cdp_session.specs.Calls.{arguments_of, calls, calls_given, outcome_of_function, receiver_of, showing_for}
use Rattle.cdp_session_messages.specs.Exceptions.{thrown_result, value_result}
use Rattle.cdp_session.specs.Evaluations.{Evaluates, Stops, Answers, answered_by, as_it_is, behind_value, described, evaluates, evaluates_in, evaluates_at, frame_of, keeps, kept_by, outcome_of_answer, outcome_of_tree, showing_of}
use Rattle.cdp_session.specs.Rows.{Row, Refuses, Does, does, row, row_of, step_from, in_script, continue_at, adds, adds_at, properties_of, releases}
use Rattle.cdp_session.specs.Replies.{CommandOutcome, refusal_of, comes_to, outcome_by, outcome_for, answer_by, answer_of}
use Rattle.cdp_host.specs.Protocols.{asks_to_resume}

-- a session has a request: for a pause, a step, or a place to run to
abbrev pub has_request : Session → Bool
has_request x = x.rules.pause || (is_some x.rules.step || is_some x.rules.to)

-- a session that one without a request leaves has none
abbrev Frees : Session → Session → Type 0
Frees y x = has_request x ≡ false → has_request y ≡ false

-- a row leaves no request, but where it lets the program go on
abbrev KeepsRequests : Row → Session → Type 0
KeepsRequests (Refuses refusal) x = Unit {0}
KeepsRequests (Does done) x = asks_to_resume done.asks ≡ false → Frees done.session x

step_keeps : (kind : StepKind) (o : Option Pause) (x : Session) → KeepsRequests (step_from kind o x) x
step_keeps kind None x = tt
step_keeps kind (Some at) x = λ stays free. cc

script_keeps : (o : Option Script) (id : List ℕ) (f : Script → Row) (x : Session)
    → ((s : Script) → KeepsRequests (f s) x)
    → KeepsRequests (in_script o id f) x
script_keeps None id f x each = tt
script_keeps (Some s) id f x each = each s

continue_keeps : (x : Session) (o : Option Place) → KeepsRequests (continue_at x o) x
continue_keeps x None = tt
continue_keeps x (Some place) = λ stays free. cc

adds_keeps : (o : Option AddFault) (x : Session) (id : List ℕ) (condition : Option (List ℕ)) (places : List Place)
    (result : Json)
    → KeepsRequests (adds o x id condition places result) x
adds_keeps None x id condition places result = λ stays free. free
adds_keeps (Some fault) x id condition places result = tt

adds_at_keeps : (x : Session) (place : Place) (condition : Option (List ℕ)) (o : Option Place)
    → KeepsRequests (adds_at x place condition o) x
adds_at_keeps x place condition None = tt
adds_at_keeps x place condition (Some resolved) = adds_keeps _ x _ condition _ _

pause_keeps : (o : Option Pause) (x : Session)
    → is_some o ≡ true
    → KeepsRequests (does (if is_some o then x else with_rules (record x.rules { pause = true }) x)) x
pause_keeps None x paused = absurd cc
pause_keeps (Some at) x paused = λ stays free. free

properties_keep : (s : Situation) (x : Session) (preview : Bool) (o : Option Handle)
    → KeepsRequests (properties_of s x preview o) x
properties_keep s x preview None = tt
properties_keep s x preview (Some h) = λ stays free. free

release_keeps : (x : Session) (o : Option Handle) → KeepsRequests (releases x o) x
release_keeps x None = tt
release_keeps x (Some h) = λ stays free. free

-- ---- evaluations

-- the session that an evaluation leaves has the requests that it had
abbrev LeavesRequests : Evaluates → Session → Type 0
LeavesRequests (Stops refusal) x = Unit {0}
LeavesRequests (Answers result y) x = has_request y ≡ has_request x

evaluates_keep : (x : Session) (e : Evaluates) → LeavesRequests e x → KeepsRequests (row_of e) x
evaluates_keep x (Stops refusal) same = tt
evaluates_keep x (Answers result y) same = λ stays free. same ∙ free

kept_requests : (b : Bool) (e : Source) (w : World) (x : Session) → has_request (kept_by b e w x) ≡ has_request x
kept_requests true e w x = refl
kept_requests false e w x = refl

answered_keeps : (result : Json → Json) (leaves : Session → Session) (x y : Session) (o : Option (Made Json))
    → ((z : Session) → has_request (leaves z) ≡ has_request z)
    → has_request y ≡ has_request x
    → LeavesRequests (answered_by result leaves y o) x
answered_keeps result leaves x y None left same = tt
answered_keeps result leaves x y (Some m) left same = left (with_handles m.handles y) ∙ same

answer_keeps : (s : Situation) (x : Session) (how : _) (e : Source) (a : Answer)
    → LeavesRequests (outcome_of_answer s x how e a) x
answer_keeps s x how e (a_result v w) =
    answered_keeps value_result as_it_is x (behind_value x how e v w) (described s x how v w) (λ z. refl)
    (kept_requests (keeps how v x.handles) e w x)
answer_keeps s x how e (a_throw v w) =
    answered_keeps (thrown_result (with_exception x).exceptions) with_exception x (behind_value x how e v w)
    (described s x how v w) (λ z. refl) (kept_requests (keeps how v x.handles) e w x)
answer_keeps s x how e an_effect = refl
answer_keeps s x how e (is_full_of what) = tt
answer_keeps s x how e spent = tt

tree_keeps : (s : Situation) (x : Session) (scope : Addr) (receiver : Value) (how : _) (source : List ℕ)
    (o : Option Expression)
    → LeavesRequests (outcome_of_tree s x scope receiver how source o) x
tree_keeps s x scope receiver how source None = refl
tree_keeps s x scope receiver how source (Some e) = answer_keeps s x how _ _

asked_keeps : (s : Situation) (x : Session) (b : Bool) (e : Evaluates)
    → LeavesRequests e x
    → LeavesRequests (if b then e else Stops refusals.NeedsNoSideEffect) x
asked_keeps s x true e same = same
asked_keeps s x false e same = tt

evaluated_keeps : (s : Situation) (x : Session) (scope : Addr) (receiver : Value) (ev : Evaluation)
    → LeavesRequests (evaluates_in s x scope receiver ev) x
evaluated_keeps s x scope receiver ev =
    asked_keeps s x ev.throw_on_side_effect _
    (tree_keeps s x scope receiver (showing_of ev) ev.expression (expression_of ev.expression))

at_frame_keeps : (s : Situation) (x : Session) (o : Option ShownFrame) (ev : Evaluation)
    → LeavesRequests (evaluates_at s x o ev) x
at_frame_keeps s x None ev = tt
at_frame_keeps s x (Some f) ev = evaluated_keeps s x _ _ ev

function_keeps : (s : Situation) (x : Session) (receiver : Value) (arguments : List Argument) (how : _)
    (source : List ℕ) (o : Option Expression)
    → LeavesRequests (outcome_of_function s x receiver arguments how source o) x
function_keeps s x receiver arguments how source None = refl
function_keeps s x receiver arguments how source (Some f) = answer_keeps s x how _ _

called_keeps : (s : Situation) (x : Session) (call : FunctionCall) (receiver : Option Value)
    (arguments : Option (List Argument))
    → LeavesRequests (calls_given s x call receiver arguments) x
called_keeps s x call None arguments = tt
called_keeps s x call (Some receiver) None = tt
called_keeps s x call (Some receiver) (Some arguments) =
    asked_keeps s x call.throw_on_side_effect _
    (function_keeps s x receiver arguments (showing_for x call) call.function_declaration
    (function_of call.function_declaration))

-- ---- all of them

row_keeps : (s : Situation) (x : Session) (ps : Params) → is_some s.paused ≡ true → KeepsRequests (row s x ps) x
row_keeps s x params.DebuggerEnable paused = λ stays free. free
row_keeps s x params.DebuggerDisable paused = λ stays free. refl
row_keeps s x params.Pause paused = pause_keeps s.paused x paused
row_keeps s x params.Resume paused = λ stays free. free
row_keeps s x params.StepInto paused = step_keeps _ s.paused x
row_keeps s x params.StepOver paused = step_keeps _ s.paused x
row_keeps s x params.StepOut paused = step_keeps _ s.paused x
row_keeps s x (params.ContinueToLocation at) paused =
    script_keeps (script_of at.script_id s.scripts) at.script_id _ x (λ script. continue_keeps x _)
row_keeps s x (params.SetBreakpointByUrl url p condition) paused = adds_keeps _ x _ condition _ _
row_keeps s x (params.SetBreakpoint at condition) paused =
    script_keeps (script_of at.script_id s.scripts) at.script_id _ x (λ script. adds_at_keeps x _ condition _)
row_keeps s x (params.RemoveBreakpoint id) paused = λ stays free. free
row_keeps s x (params.SetBreakpointsActive active) paused = λ stays free. free
row_keeps s x (params.SetSkipAllPauses skip) paused = λ stays free. free
row_keeps s x (params.SetPauseOnExceptions state) paused = λ stays free. free
row_keeps s x params.SetAsyncCallStackDepth paused = λ stays free. free
row_keeps s x (params.GetPossibleBreakpoints start end) paused =
    script_keeps (script_of start.script_id s.scripts) start.script_id _ x (λ script stays free. free)
row_keeps s x (params.GetScriptSource id) paused =
    script_keeps (script_of id s.scripts) id _ x (λ script stays free. free)
row_keeps s x (params.GetProperties id own preview) paused = properties_keep s x preview (handle_of x id)
row_keeps s x (params.ReleaseObject id) paused = release_keeps x (handle_of x id)
row_keeps s x (params.ReleaseObjectGroup group) paused = λ stays free. free
row_keeps s x (params.Evaluate evaluation) paused =
    evaluates_keep x (evaluates s x evaluation) (evaluated_keeps s x _ _ evaluation)
row_keeps s x (params.EvaluateOnCallFrame id evaluation) paused =
    evaluates_keep x (evaluates_at s x (frame_of s x s.paused id) evaluation)
    (at_frame_keeps s x (frame_of s x s.paused id) evaluation)
row_keeps s x (params.CallFunctionOn call) paused =
    evaluates_keep x (calls s x call)
    (called_keeps s x call (receiver_of x call.object_id) (arguments_of x call.arguments))
row_keeps s x params.RuntimeEnable paused = λ stays free. free
row_keeps s x params.RuntimeDisable paused = λ stays free. free
row_keeps s x params.GlobalLexicalScopeNames paused = λ stays free. free
row_keeps s x params.RunIfWaitingForDebugger paused = λ stays free. free

comes_keeps : (x : Session) (o : Option Refusal) (w : Row)
    → KeepsRequests w x
    → KeepsRequests (option_map_or Refuses o w) x
comes_keeps x None w same = same
comes_keeps x (Some refusal) w same = tt

-- what a text leaves of a session
abbrev AnswersFree : CommandOutcome → Session → Type 0
AnswersFree o x = asks_to_resume (answer_by x o).asks ≡ false → Frees (answer_by x o).session x

row_frees : (x : Session) (id : ℕ) (w : Row) → KeepsRequests w x → AnswersFree (outcome_by id w) x
row_frees x id (Refuses refusal) keeps = λ stays free. free
row_frees x id (Does done) keeps = keeps

reading_frees : (s : Situation) (x : Session) (r : Reading) → is_some s.paused ≡ true
    → AnswersFree (outcome_for s x r) x
reading_frees s x (readings.Command id method ps) paused =
    row_frees x id (comes_to s x ps) (comes_keeps x (refusal_of s x ps) (row s x ps) (row_keeps s x ps paused))
reading_frees s x (readings.Refused id refusal) paused = λ stays free. free
reading_frees s x readings.Memory paused = λ stays free. free

-- a text that a session without a request tells while the program is paused leaves it without one, unless it lets the
-- program go on
pub text-frees : (s : Situation) (x : Session) (text : List ℕ) → is_some s.paused ≡ true
    → asks_to_resume (answer_of s x text).asks ≡ false
    → has_request x ≡ false
    → has_request (answer_of s x text).session ≡ false
text-frees s x text paused = reading_frees s x (reading_of (read text)) paused
