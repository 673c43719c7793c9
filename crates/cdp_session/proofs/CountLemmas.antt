-- What a text leaves of the breakpoints of a session: the same ones, or another number of them.
use Rattle.std.proofs.Common.{◌≡◌, ℕ, ◌≤◌, Bool, true, false, cond, List, [], ◌∷◌, ◌++◌, length, filter, is_some, if◌then◌else◌, Option, Some, None, refl, ap, arith}
use Rattle.std.specs.Option.{option_map_or}
use Rattle.std.proofs.lemmas.List.{length_push}
use Rattle.serde_json.specs.Read.{read}
use Rattle.cdp_text.specs.declared.position.Place.{Place}
use Rattle.js_heap.specs.declared.value.Addr.{Addr}
use Rattle.js_heap.specs.declared.value.Value.{Value}
use Rattle.js_heap.specs.declared.value.Value.TheVariants as values
use Rattle.js_heap.specs.BuiltIns.{script_scope}
use Rattle.js_heap.specs.World.{World}
use Rattle.js_parser.specs.Expressions.{expression_of, function_of}
use Rattle.js_parser_numbering.specs.Numbered.{numbered_made}
use Rattle.js_semantics.specs.Evaluation.{Answer, Argument, a_result, a_throw, an_effect, is_full_of, spent}
use Rattle.js_semantics.specs.Makers.{MadeExpression as Source}
use Rattle.js_tree.specs.Trees.{Expression}
use Rattle.js_tree.specs.declared.script.Script.{Script}
use Rattle.stepping.specs.declared.rules.StepKind.{StepKind}
use Rattle.stepping.specs.declared.rules.StepKind.TheVariants as kinds
use Rattle.breakpoints.specs.Breakpoints.{fault_of, has_another_id}
use Rattle.breakpoints.specs.Ids.{place_id, url_id}
use Rattle.breakpoints.specs.Resolving.{resolved_at, resolved_by_url, resolved_in}
use Rattle.breakpoints.specs.declared.breakpoint.Breakpoint.{Breakpoint}
use Rattle.breakpoints.specs.declared.fault.AddFault.{AddFault}
use Rattle.object_groups.specs.declared.handle.Handle.{Handle}
use Rattle.frames_scopes_types.specs.Frames.{ShownFrame}
use Rattle.remote_objects.specs.Making.{Made}
use Rattle.cdp_json.specs.Json.{Json}
use Rattle.cdp_json.specs.Commands.{reading_of}
use Rattle.cdp_json.specs.declared.command.Reading.{Reading}
use Rattle.cdp_json.specs.declared.command.Reading.TheVariants as readings
use Rattle.cdp_json.specs.declared.params.Evaluation.{Evaluation}
use Rattle.cdp_json.specs.declared.params.FunctionCall.{FunctionCall}
use Rattle.cdp_json.specs.declared.params.Params.{Params}
use Rattle.cdp_json.specs.declared.params.Params.TheVariants as params
use Rattle.cdp_json.specs.declared.refusal.Refusal.{Refusal}
use Rattle.cdp_json.specs.declared.refusal.Refusal.TheVariants as refusals
use Rattle.cdp_session_messages.specs.Exceptions.{thrown_result, value_result}
use Rattle.cdp_session_messages.specs.Results.{set_at, set_by_url}
use Rattle.cdp_session.specs.Calls.{answer_to, arguments_of, calls_given, outcome_of_function, receiver_of, showing_for}
use Rattle.cdp_session.specs.Evaluations.{Evaluates, Stops, answer_in, answered_by, as_it_is, described, evaluates_at, evaluates_in, frame_of, innermost, keeps, kept_by, outcome_of_answer, outcome_of_tree, showing_of}
use Rattle.cdp_session.specs.Objects.{handle_of}
use Rattle.cdp_session.specs.Replies.{answer_by, answer_of, comes_to, outcome_by, outcome_for, refusal_of}
use Rattle.cdp_session.specs.Rows.{Does, Refuses, Row, add_in, adds, adds_at, continue_at, end_of, in_script, placed_in, possible_in, properties_of, releases, row, row_of, source_in, step_from}
use Rattle.cdp_session.specs.Sessions.{Session, with_exception, with_handles}
use Rattle.cdp_session.specs.Situations.{Situation, script_of}
use Rattle.cdp_session.specs.declared.showing.Showing.{Showing}
use Rattle.cdp_session.specs.declared.situation.Pause.{Pause}

-- the second session has the breakpoints of the first, or another number of them
abbrev SameOrOther : Session → Session → Type 0
SameOrOther x y = length y.breakpoints.set ≡ length x.breakpoints.set → y.breakpoints.set ≡ x.breakpoints.set

-- the session behind a row
abbrev left_by : Session → Row → Session
left_by x (Refuses why) = x
left_by x (Does done) = done.session

-- so behind a row
abbrev Leaves : Session → Row → Type 0
Leaves x r = SameOrOther x (left_by x r)

-- ---- lists

no-more : {A : Type 0} (xs : List A) → 0 ≡ length xs → [] ≡ xs
no-more [] none = refl
no-more (x ∷ xs) none = absurd (omega (arith, none))

filter-few : {A : Type 0} (f : A → Bool) (xs : List A) → length (filter f xs) ≤ length xs
filter-few f [] = omega arith
filter-few f (x ∷ xs) = at (f x) (filter-few f xs)
  where
    at : (b : Bool)
        → length (filter f xs) ≤ length xs
        → length (cond b (x ∷ filter f xs) (filter f xs)) ≤ length (x ∷ xs)
    at true le = omega (arith, le)
    at false le = omega (arith, le)

-- a filter that leaves as many leaves all
filter-all : {A : Type 0} (f : A → Bool) (xs : List A) → length (filter f xs) ≡ length xs → filter f xs ≡ xs
filter-all f [] many = refl
filter-all f (x ∷ xs) many = at (f x) (filter-few f xs) (filter-all f xs) many
  where
    at : (b : Bool)
        → length (filter f xs) ≤ length xs
        → (length (filter f xs) ≡ length xs → filter f xs ≡ xs)
        → length (cond b (x ∷ filter f xs) (filter f xs)) ≡ length (x ∷ xs)
        → cond b (x ∷ filter f xs) (filter f xs) ≡ x ∷ xs
    at true le rest full = ap (λ ys. x ∷ ys) (rest (omega (arith, full)))
    at false le rest full = absurd (omega (arith, le, full))

-- ---- rows

or-refused : (x : Session) (o : Option Refusal) (r : Row) → Leaves x r → Leaves x (option_map_or Refuses o r)
or-refused x None r leaves = leaves
or-refused x (Some why) r leaves = λ _. refl

of-script : (x : Session) (o : Option Script) (id : List ℕ) (f : Script → Row)
    → ((script : Script) → Leaves x (f script))
    → Leaves x (in_script o id f)
of-script x None id f each = λ _. refl
of-script x (Some script) id f each = each script

to-place : (x : Session) (o : Option Place) → Leaves x (continue_at x o)
to-place x None = λ _. refl
to-place x (Some place) = λ _. refl

a-step : (x : Session) (kind : StepKind) (o : Option Pause) → Leaves x (step_from kind o x)
a-step x kind None = λ _. refl
a-step x kind (Some at) = λ _. refl

asks-pause : (x : Session) (b : Bool)
    → SameOrOther x (if b then x else record x { rules = record x.rules { pause = true } })
asks-pause x true = λ _. refl
asks-pause x false = λ _. refl

lists-properties : (s : Situation) (x : Session) (preview : Bool) (o : Option Handle)
    → Leaves x (properties_of s x preview o)
lists-properties s x preview None = λ _. refl
lists-properties s x preview (Some h) = λ _. refl

releases-one : (x : Session) (o : Option Handle) → Leaves x (releases x o)
releases-one x None = λ _. refl
releases-one x (Some h) = λ _. refl

-- ---- a breakpoint more

one-more : (b : Breakpoint) (bs : List Breakpoint) → length (bs ++ b ∷ []) ≡ length bs → bs ++ b ∷ [] ≡ bs
one-more b bs many = let longer = length_push bs b in absurd (omega (arith, many, longer))

adds-one : (x : Session) (o : Option AddFault) (id : List ℕ) (condition : Option (List ℕ)) (places : List Place)
    (result : Json)
    → Leaves x (adds o x id condition places result)
adds-one x None id condition places result =
    one-more (record { id = id; condition = condition; places = places }) x.breakpoints.set
adds-one x (Some fault) id condition places result = λ _. refl

adds-resolved : (x : Session) (place : Place) (condition : Option (List ℕ)) (o : Option Place)
    → Leaves x (adds_at x place condition o)
adds-resolved x place condition None = λ _. refl
adds-resolved x place condition (Some resolved) =
    adds-one x (fault_of (place_id place) x.breakpoints) (place_id place) condition (resolved ∷ [])
    (set_at (place_id place) resolved)

-- ---- evaluations

described-one : (x : Session) (b : Bool) (e : Source) (w : World) (result : Json → Json) (leaves : Session → Session)
    (o : Option (Made Json))
    → ((y : Session) → (leaves y).breakpoints ≡ y.breakpoints)
    → Leaves x (row_of (answered_by result leaves (kept_by b e w x) o))
described-one x b e w result leaves None stays = λ _. refl
described-one x true e w result leaves (Some m) stays =
    λ _. ap (λ h. h.set) (stays (with_handles m.handles (kept_by true e w x)))
described-one x false e w result leaves (Some m) stays =
    λ _. ap (λ h. h.set) (stays (with_handles m.handles x))

by-answer : (s : Situation) (x : Session) (how : Showing) (e : Source) (answer : Answer)
    → Leaves x (row_of (outcome_of_answer s x how e answer))
by-answer s x how e (a_result v w) =
    described-one x (keeps how v x.handles) e w value_result as_it_is (described s x how v w) (λ y. refl)
by-answer s x how e (a_throw v w) =
    described-one x (keeps how v x.handles) e w (thrown_result (with_exception x).exceptions) with_exception
    (described s x how v w) (λ y. refl)
by-answer s x how e an_effect = λ _. refl
by-answer s x how e (is_full_of what) = λ _. refl
by-answer s x how e spent = λ _. refl

by-tree : (s : Situation) (x : Session) (scope : Addr) (receiver : Value) (how : Showing) (source : List ℕ)
    (o : Option Expression)
    → Leaves x (row_of (outcome_of_tree s x scope receiver how source o))
by-tree s x scope receiver how source None = λ _. refl
by-tree s x scope receiver how source (Some e) =
    by-answer s x how (numbered_made e) (answer_in s x scope receiver source e)

-- one that isn't asked to have no effect is refused
if-harmless : (x : Session) (b : Bool) (e : Evaluates)
    → Leaves x (row_of e)
    → Leaves x (row_of (if b then e else Stops refusals.NeedsNoSideEffect))
if-harmless x true e leaves = leaves
if-harmless x false e leaves = λ _. refl

in-scope : (s : Situation) (x : Session) (scope : Addr) (receiver : Value) (ev : Evaluation)
    → Leaves x (row_of (evaluates_in s x scope receiver ev))
in-scope s x scope receiver ev =
    if-harmless x ev.throw_on_side_effect
    (outcome_of_tree s x scope receiver (showing_of ev) ev.expression (expression_of ev.expression))
    (by-tree s x scope receiver (showing_of ev) ev.expression (expression_of ev.expression))

in-frame : (s : Situation) (x : Session) (o : Option ShownFrame) (ev : Evaluation)
    → Leaves x (row_of (evaluates_at s x o ev))
in-frame s x None ev = λ _. refl
in-frame s x (Some f) ev = in-scope s x (innermost f.scopes) f.receiver ev

by-function : (s : Situation) (x : Session) (receiver : Value) (arguments : List Argument) (how : Showing)
    (source : List ℕ) (o : Option Expression)
    → Leaves x (row_of (outcome_of_function s x receiver arguments how source o))
by-function s x receiver arguments how source None = λ _. refl
by-function s x receiver arguments how source (Some f) =
    by-answer s x how (numbered_made f) (answer_to s x receiver arguments source f)

a-call : (s : Situation) (x : Session) (call : FunctionCall) (receiver : Option Value) (arguments : Option (List Argument))
    → Leaves x (row_of (calls_given s x call receiver arguments))
a-call s x call None arguments = λ _. refl
a-call s x call (Some receiver) None = λ _. refl
a-call s x call (Some receiver) (Some arguments) =
    if-harmless x call.throw_on_side_effect
    (outcome_of_function s x receiver arguments (showing_for x call) call.function_declaration
    (function_of call.function_declaration))
    (by-function s x receiver arguments (showing_for x call) call.function_declaration
    (function_of call.function_declaration))

-- ---- all commands

by-row : (s : Situation) (x : Session) (p : Params) → Leaves x (row s x p) → Leaves x (comes_to s x p)
by-row s x p leaves = or-refused x (refusal_of s x p) (row s x p) leaves

by-command : (s : Situation) (x : Session) (p : Params) → Leaves x (comes_to s x p)
by-command s x params.DebuggerEnable = by-row s x params.DebuggerEnable (λ _. refl)
by-command s x params.DebuggerDisable = by-row s x params.DebuggerDisable (no-more x.breakpoints.set)
by-command s x params.Pause = by-row s x params.Pause (asks-pause x (is_some s.paused))
by-command s x params.Resume = by-row s x params.Resume (λ _. refl)
by-command s x params.StepInto = by-row s x params.StepInto (a-step x kinds.Into s.paused)
by-command s x params.StepOver = by-row s x params.StepOver (a-step x kinds.Over s.paused)
by-command s x params.StepOut = by-row s x params.StepOut (a-step x kinds.Out s.paused)
by-command s x (params.ContinueToLocation at) =
    by-row s x (params.ContinueToLocation at)
    (of-script x (script_of at.script_id s.scripts) at.script_id
    (λ script. continue_at x (resolved_in at.position script))
    (λ script. to-place x (resolved_in at.position script)))
by-command s x (params.SetBreakpointByUrl url p condition) =
    by-row s x (params.SetBreakpointByUrl url p condition)
    (adds-one x (fault_of (url_id p url) x.breakpoints) (url_id p url) condition (resolved_by_url url p s.scripts)
    (set_by_url (url_id p url) (resolved_by_url url p s.scripts)))
by-command s x (params.SetBreakpoint at condition) =
    by-row s x (params.SetBreakpoint at condition)
    (of-script x (script_of at.script_id s.scripts) at.script_id (add_in s x at.position condition)
    (λ script. adds-resolved x (placed_in at.position script) condition
    (resolved_at (placed_in at.position script) s.scripts)))
by-command s x (params.RemoveBreakpoint id) =
    by-row s x (params.RemoveBreakpoint id) (filter-all (has_another_id id) x.breakpoints.set)
by-command s x (params.SetBreakpointsActive active) = by-row s x (params.SetBreakpointsActive active) (λ _. refl)
by-command s x (params.SetSkipAllPauses skip) = by-row s x (params.SetSkipAllPauses skip) (λ _. refl)
by-command s x (params.SetPauseOnExceptions state) = by-row s x (params.SetPauseOnExceptions state) (λ _. refl)
by-command s x params.SetAsyncCallStackDepth = by-row s x params.SetAsyncCallStackDepth (λ _. refl)
by-command s x (params.GetPossibleBreakpoints start end) =
    by-row s x (params.GetPossibleBreakpoints start end)
    (of-script x (script_of start.script_id s.scripts) start.script_id (possible_in x start.position (end_of end))
    (λ script. λ _. refl))
by-command s x (params.GetScriptSource id) =
    by-row s x (params.GetScriptSource id)
    (of-script x (script_of id s.scripts) id (source_in x) (λ script. λ _. refl))
by-command s x (params.GetProperties id own preview) =
    by-row s x (params.GetProperties id own preview) (lists-properties s x preview (handle_of x id))
by-command s x (params.ReleaseObject id) = by-row s x (params.ReleaseObject id) (releases-one x (handle_of x id))
by-command s x (params.ReleaseObjectGroup group) = by-row s x (params.ReleaseObjectGroup group) (λ _. refl)
by-command s x (params.Evaluate ev) =
    by-row s x (params.Evaluate ev) (in-scope s x script_scope values.Undefined ev)
by-command s x (params.EvaluateOnCallFrame id ev) =
    by-row s x (params.EvaluateOnCallFrame id ev) (in-frame s x (frame_of s x s.paused id) ev)
by-command s x (params.CallFunctionOn call) =
    by-row s x (params.CallFunctionOn call)
    (a-call s x call (receiver_of x call.object_id) (arguments_of x call.arguments))
by-command s x params.RuntimeEnable = by-row s x params.RuntimeEnable (λ _. refl)
by-command s x params.RuntimeDisable = by-row s x params.RuntimeDisable (λ _. refl)
by-command s x params.GlobalLexicalScopeNames = by-row s x params.GlobalLexicalScopeNames (λ _. refl)
by-command s x params.RunIfWaitingForDebugger = by-row s x params.RunIfWaitingForDebugger (λ _. refl)

-- ---- all texts

by-outcome : (x : Session) (id : ℕ) (r : Row)
    → Leaves x r
    → SameOrOther x (answer_by x (outcome_by id r)).session
by-outcome x id (Refuses why) leaves = λ _. refl
by-outcome x id (Does done) leaves = leaves

by-reading : (s : Situation) (x : Session) (r : Reading) → SameOrOther x (answer_by x (outcome_for s x r)).session
by-reading s x (readings.Command id method params) = by-outcome x id (comes_to s x params) (by-command s x params)
by-reading s x (readings.Refused id refusal) = λ _. refl
by-reading s x readings.Memory = λ _. refl

-- a text that leaves as many breakpoints leaves the same ones
pub answer-counts : (s : Situation) (x : Session) (text : List ℕ)
    → length (answer_of s x text).session.breakpoints.set ≡ length x.breakpoints.set
    → (answer_of s x text).session.breakpoints.set ≡ x.breakpoints.set
answer-counts s x text = by-reading s x (reading_of (read text))
