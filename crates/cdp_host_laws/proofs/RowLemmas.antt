-- What an answer leaves of a session, and which events come with it.
use Rattle.std.proofs.Common.{◌≡◌, ℕ, ◌+◌, List, [], ◌∷◌, ◌++◌, map, length, filter, codes, Bool, true, false, not, ◌&&◌, is_some, if◌then◌else◌, refl, ap, sym, ◌∙◌, append-nil, inl, inr, ◌⊎◌, ◌||◌, Option, Some, None}
use Rattle.std.proofs.lemmas.List.Elements.{filter-append}
use Rattle.std.specs.Option.{option_map_or}
use Rattle.serde_json.specs.Read.{read}
use Rattle.cdp_text.specs.declared.position.Place.{Place}
use Rattle.js_tree.specs.declared.script.Script.{Script}
use Rattle.js_tree.specs.Trees.{Expression}
use Rattle.js_heap.specs.World.{World}
use Rattle.js_heap.specs.declared.value.Addr.{Addr}
use Rattle.js_heap.specs.declared.value.Value.{Value}
use Rattle.js_semantics.specs.Evaluation.{Argument, Answer, a_result, a_throw, an_effect, is_full_of, spent}
use Rattle.js_semantics.specs.Makers.{MadeExpression as Source}
use Rattle.js_parser.specs.Expressions.{expression_of, function_of}
use Rattle.cdp_json.specs.Commands.{reading_of}
use Rattle.cdp_json.specs.Json.{Json}
use Rattle.cdp_json.specs.Messages.{refusal_text, result_text}
use Rattle.cdp_json.specs.Parts.{Pair}
use Rattle.cdp_json.specs.declared.command.Reading.{Reading}
use Rattle.cdp_json.specs.declared.command.Reading.TheVariants as readings
use Rattle.cdp_json.specs.declared.params.Evaluation.{Evaluation}
use Rattle.cdp_json.specs.declared.params.FunctionCall.{FunctionCall}
use Rattle.cdp_json.specs.declared.params.Params.{Params}
use Rattle.cdp_json.specs.declared.params.Params.TheVariants as params
use Rattle.cdp_json.specs.declared.refusal.Refusal.{Refusal}
use Rattle.cdp_json.specs.declared.refusal.Refusal.TheVariants as refusals
use Rattle.breakpoints.specs.declared.fault.AddFault.{AddFault}
use Rattle.stepping.specs.declared.rules.StepKind.{StepKind}
use Rattle.object_groups.specs.declared.handle.Handle.{Handle}
use Rattle.frames_scopes_types.specs.Frames.{ShownFrame}
use Rattle.remote_objects.specs.Making.{Made}
use Rattle.cdp_session_messages.specs.Exceptions.{thrown_result, value_result}
use Rattle.cdp_session_messages.specs.Results.{context_created_text, paused_text}
use Rattle.cdp_session_messages.specs.Scripts.{script_parsed_text, scripts_told}
use Rattle.cdp_session.specs.declared.situation.Pause.{Pause}
use Rattle.cdp_session.specs.Calls.{arguments_of, calls, calls_given, outcome_of_function, receiver_of, showing_for}
use Rattle.cdp_session.specs.Evaluations.{Evaluates, Stops, Answers, answered_by, as_it_is, behind_value, described, evaluates, evaluates_in, evaluates_at, frame_of, keeps, kept_by, outcome_of_answer, outcome_of_tree, showing_of}
use Rattle.cdp_session.specs.Objects.{handle_of}
use Rattle.cdp_session.specs.Pauses.{data_told, enabling_told, frames_told, pause_told, reason_of}
use Rattle.cdp_session.specs.Replies.{answer_by, answer_of, answer_texts, comes_to, outcome_by, outcome_for, outcome_of, refusal_of, texts_of}
use Rattle.cdp_session.specs.Rows.{Done, Row, Refuses, Does, adds, adds_at, contexts_told, continue_at, does, in_script, properties_of, releases, row, row_of, step_from}
use Rattle.cdp_session.specs.Sessions.{Session, with_exception, with_handles, with_rules}
use Rattle.cdp_session.specs.Situations.{Situation, script_of}
use Rattle.cdp_host_laws.specs.Events.{is_event, is_reply, once}
use Rattle.cdp_host_laws.proofs.TextKindLemmas.{IsMethod, all-of, debugger_paused, none-of, script-event, script_parsed}

-- ---- what a row leaves

-- a session that enabled the debugger
abbrev pub newly : Session → Session → Bool
newly x y = y.rules.enabled && not x.rules.enabled

and-not : (b : Bool) → b && not b ≡ false
and-not true = refl
and-not false = refl

-- The events of a method that is done: none; or the only context; or, where it enables the debugger, the scripts and
-- the pause.
abbrev pub Says : Situation → Session → Done → Type 0
Says s x done =
    ((done.before ≡ []) × (done.events ≡ []) × (newly x done.session ≡ false))
    ⊎ (((done.before ≡ contexts_told s x) × (done.events ≡ []) × (newly x done.session ≡ false))
    ⊎ ((done.before ≡ scripts_told s.scripts x.rules.enabled)
    × (done.events ≡ (enabling_told s s.paused x.rules.enabled x).made)
    × (newly x done.session ≡ not x.rules.enabled)))

pub record Leaves (s : Situation) (x : Session) (done : Done) : Type 0 where
  pub number : done.session.number ≡ x.number
  pub says : Says s x done

abbrev pub RowLeaves : Situation → Session → Row → Type 0
RowLeaves s x (Refuses refusal) = Unit {0}
RowLeaves s x (Does done) = Leaves s x done

-- no event, and the debugger as it was
abbrev IsNothing : List (List ℕ) → Type 0
IsNothing texts = texts ≡ []

none_new : (x : Session) → IsNothing [] × IsNothing [] × (newly x x ≡ false)
none_new x = (refl, refl, and-not x.rules.enabled)

step_leaves : (s : Situation) (kind : StepKind) (o : Option Pause) (x : Session) → RowLeaves s x (step_from kind o x)
step_leaves s kind None x = tt
step_leaves s kind (Some at) x = record { number = refl; says = inl (none_new x) }

script_leaves : (s : Situation) (o : Option Script) (id : List ℕ) (f : Script → Row) (x : Session)
    → ((script : Script) → RowLeaves s x (f script))
    → RowLeaves s x (in_script o id f)
script_leaves s None id f x each = tt
script_leaves s (Some script) id f x each = each script

continue_leaves : (s : Situation) (x : Session) (o : Option Place) → RowLeaves s x (continue_at x o)
continue_leaves s x None = tt
continue_leaves s x (Some place) = record { number = refl; says = inl (none_new x) }

adds_leaves : (s : Situation) (o : Option AddFault) (x : Session) (id : List ℕ) (condition : Option (List ℕ))
    (places : List Place) (result : Json)
    → RowLeaves s x (adds o x id condition places result)
adds_leaves s None x id condition places result = record { number = refl; says = inl (none_new x) }
adds_leaves s (Some fault) x id condition places result = tt

adds_at_leaves : (s : Situation) (x : Session) (place : Place) (condition : Option (List ℕ)) (o : Option Place)
    → RowLeaves s x (adds_at x place condition o)
adds_at_leaves s x place condition None = tt
adds_at_leaves s x place condition (Some resolved) = adds_leaves s _ x _ condition _ _

pause_leaves : (s : Situation) (o : Option Pause) (x : Session)
    → RowLeaves s x (does (if is_some o then x else with_rules (record x.rules { pause = true }) x))
pause_leaves s None x = record { number = refl; says = inl (none_new x) }
pause_leaves s (Some at) x = record { number = refl; says = inl (none_new x) }

properties_leave : (s : Situation) (x : Session) (preview : Bool) (o : Option Handle)
    → RowLeaves s x (properties_of s x preview o)
properties_leave s x preview None = tt
properties_leave s x preview (Some h) = record { number = refl; says = inl (none_new x) }

release_leaves : (s : Situation) (x : Session) (o : Option Handle) → RowLeaves s x (releases x o)
release_leaves s x None = tt
release_leaves s x (Some h) = record { number = refl; says = inl (none_new x) }

-- ---- evaluations

-- an evaluation leaves the session's number and its rules
record LeavesSame (x y : Session) : Type 0 where
  pub number : y.number ≡ x.number
  pub rules : y.rules ≡ x.rules

abbrev EvaluatesSame : Evaluates → Session → Type 0
EvaluatesSame (Stops refusal) x = Unit {0}
EvaluatesSame (Answers result y) x = LeavesSame x y

as_it_was : (x : Session) → LeavesSame x x
as_it_was x = record { number = refl; rules = refl }

evaluates_leave : (s : Situation) (x : Session) (e : Evaluates) → EvaluatesSame e x → RowLeaves s x (row_of e)
evaluates_leave s x (Stops refusal) is = tt
evaluates_leave s x (Answers result y) is = record {
  number = is.number;
  says = inl (refl, refl, ap (λ r. r.enabled && not x.rules.enabled) is.rules ∙ and-not x.rules.enabled);
}

kept_same : (b : Bool) (e : Source) (w : World) (x : Session) → LeavesSame x (kept_by b e w x)
kept_same true e w x = record { number = refl; rules = refl }
kept_same false e w x = as_it_was x

answered_same : (result : Json → Json) (leaves : Session → Session) (x y : Session) (o : Option (Made Json))
    → ((z : Session) → LeavesSame z (leaves z))
    → LeavesSame x y
    → EvaluatesSame (answered_by result leaves y o) x
answered_same result leaves x y None left is = tt
answered_same result leaves x y (Some m) left is =
    let z = with_handles m.handles y in
    record { number = (left z).number ∙ is.number; rules = (left z).rules ∙ is.rules }

told_same : (z : Session) → LeavesSame z (with_exception z)
told_same z = record { number = refl; rules = refl }

answer_same : (s : Situation) (x : Session) (how : _) (e : Source) (a : Answer)
    → EvaluatesSame (outcome_of_answer s x how e a) x
answer_same s x how e (a_result v w) =
    answered_same value_result as_it_is x (behind_value x how e v w) (described s x how v w) as_it_was
    (kept_same (keeps how v x.handles) e w x)
answer_same s x how e (a_throw v w) =
    answered_same (thrown_result (with_exception x).exceptions) with_exception x (behind_value x how e v w)
    (described s x how v w) told_same (kept_same (keeps how v x.handles) e w x)
answer_same s x how e an_effect = told_same x
answer_same s x how e (is_full_of what) = tt
answer_same s x how e spent = tt

tree_same : (s : Situation) (x : Session) (scope : Addr) (receiver : Value) (how : _) (source : List ℕ)
    (o : Option Expression)
    → EvaluatesSame (outcome_of_tree s x scope receiver how source o) x
tree_same s x scope receiver how source None = told_same x
tree_same s x scope receiver how source (Some e) = answer_same s x how _ _

asked_same : (x : Session) (b : Bool) (e : Evaluates)
    → EvaluatesSame e x
    → EvaluatesSame (if b then e else Stops refusals.NeedsNoSideEffect) x
asked_same x true e is = is
asked_same x false e is = tt

evaluated_same : (s : Situation) (x : Session) (scope : Addr) (receiver : Value) (ev : Evaluation)
    → EvaluatesSame (evaluates_in s x scope receiver ev) x
evaluated_same s x scope receiver ev =
    asked_same x ev.throw_on_side_effect _
    (tree_same s x scope receiver (showing_of ev) ev.expression (expression_of ev.expression))

at_frame_same : (s : Situation) (x : Session) (o : Option ShownFrame) (ev : Evaluation)
    → EvaluatesSame (evaluates_at s x o ev) x
at_frame_same s x None ev = tt
at_frame_same s x (Some f) ev = evaluated_same s x _ _ ev

function_same : (s : Situation) (x : Session) (receiver : Value) (arguments : List Argument) (how : _)
    (source : List ℕ) (o : Option Expression)
    → EvaluatesSame (outcome_of_function s x receiver arguments how source o) x
function_same s x receiver arguments how source None = told_same x
function_same s x receiver arguments how source (Some f) = answer_same s x how _ _

called_same : (s : Situation) (x : Session) (call : FunctionCall) (receiver : Option Value)
    (arguments : Option (List Argument))
    → EvaluatesSame (calls_given s x call receiver arguments) x
called_same s x call None arguments = tt
called_same s x call (Some receiver) None = tt
called_same s x call (Some receiver) (Some arguments) =
    asked_same x call.throw_on_side_effect _
    (function_same s x receiver arguments (showing_for x call) call.function_declaration
    (function_of call.function_declaration))

-- ---- all methods

pub row-leaves : (s : Situation) (x : Session) (ps : Params) → RowLeaves s x (row s x ps)
row-leaves s x params.DebuggerEnable = record { number = refl; says = inr (inr (refl, refl, refl)) }
row-leaves s x params.DebuggerDisable = record { number = refl; says = inl (refl, refl, refl) }
row-leaves s x params.Pause = pause_leaves s s.paused x
row-leaves s x params.Resume = record { number = refl; says = inl (none_new x) }
row-leaves s x params.StepInto = step_leaves s _ s.paused x
row-leaves s x params.StepOver = step_leaves s _ s.paused x
row-leaves s x params.StepOut = step_leaves s _ s.paused x
row-leaves s x (params.ContinueToLocation at) =
    script_leaves s (script_of at.script_id s.scripts) at.script_id _ x (λ script. continue_leaves s x _)
row-leaves s x (params.SetBreakpointByUrl url p condition) = adds_leaves s _ x _ condition _ _
row-leaves s x (params.SetBreakpoint at condition) =
    script_leaves s (script_of at.script_id s.scripts) at.script_id _ x (λ script. adds_at_leaves s x _ condition _)
row-leaves s x (params.RemoveBreakpoint id) = record { number = refl; says = inl (none_new x) }
row-leaves s x (params.SetBreakpointsActive active) = record { number = refl; says = inl (none_new x) }
row-leaves s x (params.SetSkipAllPauses skip) = record { number = refl; says = inl (none_new x) }
row-leaves s x (params.SetPauseOnExceptions state) = record { number = refl; says = inl (none_new x) }
row-leaves s x params.SetAsyncCallStackDepth = record { number = refl; says = inl (none_new x) }
row-leaves s x (params.GetPossibleBreakpoints start end) =
    script_leaves s (script_of start.script_id s.scripts) start.script_id _ x
    (λ script. record { number = refl; says = inl (none_new x) })
row-leaves s x (params.GetScriptSource id) =
    script_leaves s (script_of id s.scripts) id _ x (λ script. record { number = refl; says = inl (none_new x) })
row-leaves s x (params.GetProperties id own preview) = properties_leave s x preview (handle_of x id)
row-leaves s x (params.ReleaseObject id) = release_leaves s x (handle_of x id)
row-leaves s x (params.ReleaseObjectGroup group) = record { number = refl; says = inl (none_new x) }
row-leaves s x (params.Evaluate evaluation) =
    evaluates_leave s x (evaluates s x evaluation) (evaluated_same s x _ _ evaluation)
row-leaves s x (params.EvaluateOnCallFrame id evaluation) =
    evaluates_leave s x (evaluates_at s x (frame_of s x s.paused id) evaluation)
    (at_frame_same s x (frame_of s x s.paused id) evaluation)
row-leaves s x (params.CallFunctionOn call) =
    evaluates_leave s x (calls s x call)
    (called_same s x call (receiver_of x call.object_id) (arguments_of x call.arguments))
row-leaves s x params.RuntimeEnable =
    record { number = refl; says = inr (inl (refl, refl, and-not x.rules.enabled)) }
row-leaves s x params.RuntimeDisable = record { number = refl; says = inl (none_new x) }
row-leaves s x params.GlobalLexicalScopeNames = record { number = refl; says = inl (none_new x) }
row-leaves s x params.RunIfWaitingForDebugger = record { number = refl; says = inl (none_new x) }

pub comes-leaves : (s : Situation) (o : Option Refusal) (r : Row) (x : Session) → RowLeaves s x r
    → RowLeaves s x (option_map_or Refuses o r)
comes-leaves s None r x is = is
comes-leaves s (Some refusal) r x is = tt

-- ---- the events of a reply

-- an answer leaves the session's number, and tells of scripts and of the pause where it enables the debugger
pub record AnswerSays (s : Situation) (x y : Session) (texts : List (List ℕ)) : Type 0 where
  pub number : y.number ≡ x.number
  pub parsed : filter (is_event (codes "Debugger.scriptParsed")) texts
      ≡ (if newly x y then map script_parsed_text s.scripts else [])
  pub paused : length (filter (is_event (codes "Debugger.paused")) texts) ≡ once (newly x y && is_some s.paused)

-- the reply itself is no event
around : (test : List ℕ → Bool) (before events : List (List ℕ)) (reply : List ℕ) → test reply ≡ false
    → filter test (before ++ reply ∷ events) ≡ filter test before ++ filter test events
around test before events reply none =
    filter-append test before (reply ∷ events)
    ∙ ap (λ b. filter test before ++ (if b then reply ∷ filter test events else filter test events)) none

-- of lists in which there is none
none-around : (test : List ℕ → Bool) (before events others : List (List ℕ)) (reply : List ℕ) → test reply ≡ false
    → before ≡ others → events ≡ [] → filter test others ≡ [] → filter test (before ++ reply ∷ events) ≡ []
none-around test before events others reply other first second is =
    around test before events reply other
    ∙ ap (λ l. filter test l ++ filter test events) first
    ∙ ap (λ l. filter test others ++ filter test l) second
    ∙ ap (λ l. l ++ []) is

context_none : (s : Situation) (x : Session) (test : List ℕ → Bool) → test context_created_text ≡ false
    → filter test (contexts_told s x) ≡ []
context_none s x test none = choice test (s.standing.over || x.runtime) none
  where
    choice : (test : List ℕ → Bool) (b : Bool) → test context_created_text ≡ false
        → filter test (if b then [] else context_created_text ∷ []) ≡ []
    choice test true none = refl
    choice test false none = none-of test (context_created_text ∷ []) (none, tt)

enabling_none : (s : Situation) (x : Session) (test : List ℕ → Bool)
    → ((frames : List Json) (thrown : List Pair) (hits : List (List ℕ)) (reason : List ℕ)
    → test (paused_text frames thrown hits reason) ≡ false)
    → (o : Option Pause) (b : Bool) → filter test (enabling_told s o b x).made ≡ []
enabling_none s x test none None b = refl
enabling_none s x test none (Some p) true = refl
enabling_none s x test none (Some p) false =
    none-of test ((pause_told s p.number [] None x).made ∷ [])
    (none (frames_told s p.number x).made (data_told s p.number None x).made [] (reason_of None), tt)

enabling_once : (s : Situation) (x : Session) (o : Option Pause) (b : Bool)
    → length (filter (is_event (codes "Debugger.paused")) (enabling_told s o b x).made) ≡ once (not b && is_some o)
enabling_once s x None true = refl
enabling_once s x None false = refl
enabling_once s x (Some p) true = refl
enabling_once s x (Some p) false =
    let shown : List ℕ = (pause_told s p.number [] None x).made in
    ap (λ b. length (if b then shown ∷ [] else []))
    (debugger_paused.of_pause (frames_told s p.number x).made (data_told s p.number None x).made [] (reason_of None))

scripts_none : (test : List ℕ → Bool) (scripts : List Script) (b : Bool)
    → ((script : Script) → test (script_parsed_text script) ≡ false) → filter test (scripts_told scripts b) ≡ []
scripts_none test scripts true none = refl
scripts_none test [] false none = refl
scripts_none test (script ∷ scripts) false none =
    ap (λ b. if b then script_parsed_text script ∷ filter test (map script_parsed_text scripts)
    else filter test (map script_parsed_text scripts)) (none script)
    ∙ scripts_none test scripts false none

scripts_all : (scripts : List Script) (b : Bool)
    → filter (is_event (codes "Debugger.scriptParsed")) (scripts_told scripts b)
    ≡ (if not b then map script_parsed_text scripts else [])
scripts_all scripts true = refl
scripts_all scripts false =
    all-of (is_event (codes "Debugger.scriptParsed")) script_parsed_text script_parsed.of_script scripts

-- one that says nothing of scripts and of pauses
says_nothing : (s : Situation) (x y : Session) (texts : List (List ℕ)) → y.number ≡ x.number → newly x y ≡ false
    → filter (is_event (codes "Debugger.scriptParsed")) texts ≡ []
    → filter (is_event (codes "Debugger.paused")) texts ≡ []
    → AnswerSays s x y texts
says_nothing s x y texts same old parsed paused = record {
  number = same;
  parsed = parsed ∙ ap (λ b. if b then map script_parsed_text s.scripts else []) (sym old);
  paused = ap length paused ∙ ap (λ b. once (b && is_some s.paused)) (sym old);
}

done_says : (s : Situation) (x : Session) (id : ℕ) (done : Done) → Leaves s x done
    → AnswerSays s x (answer_by x (outcome_by id (Does done))).session (texts_of id done)
done_says s x id done leaves = by_case s x id done leaves.number leaves.says
  where
    by_case : (s : Situation) (x : Session) (id : ℕ) (done : Done) → done.session.number ≡ x.number → Says s x done
        → AnswerSays s x (answer_by x (outcome_by id (Does done))).session (texts_of id done)
    by_case s x id done same (inl is) =
        let reply = result_text id done.result in
        says_nothing s x (answer_by x (outcome_by id (Does done))).session (texts_of id done) same is.2
        (none-around (is_event (codes "Debugger.scriptParsed")) done.before done.events [] reply
        (script_parsed.of_result id done.result) is.0 is.1 refl)
        (none-around (is_event (codes "Debugger.paused")) done.before done.events [] reply
        (debugger_paused.of_result id done.result) is.0 is.1 refl)
    by_case s x id done same (inr (inl is)) =
        let reply = result_text id done.result in
        says_nothing s x (answer_by x (outcome_by id (Does done))).session (texts_of id done) same is.2
        (none-around (is_event (codes "Debugger.scriptParsed")) done.before done.events (contexts_told s x) reply
        (script_parsed.of_result id done.result) is.0 is.1
        (context_none s x (is_event (codes "Debugger.scriptParsed")) script_parsed.of_context))
        (none-around (is_event (codes "Debugger.paused")) done.before done.events (contexts_told s x) reply
        (debugger_paused.of_result id done.result) is.0 is.1
        (context_none s x (is_event (codes "Debugger.paused")) debugger_paused.of_context))
    by_case s x id done same (inr (inr is)) =
        let reply = result_text id done.result in
        let b = x.rules.enabled in
        let told : List (List ℕ) = (enabling_told s s.paused b x).made in
        let scripts = is_event (codes "Debugger.scriptParsed") in
        let pauses = is_event (codes "Debugger.paused") in
        record {
          number = same;
          parsed =
              around scripts done.before done.events reply (script_parsed.of_result id done.result)
              ∙ ap (λ l. filter scripts l ++ filter scripts done.events) is.0
              ∙ ap (λ l. filter scripts (scripts_told s.scripts b) ++ filter scripts l) is.1
              ∙ ap (λ l. filter scripts (scripts_told s.scripts b) ++ l)
              (enabling_none s x scripts script_parsed.of_pause s.paused b)
              ∙ append-nil (filter scripts (scripts_told s.scripts b))
              ∙ scripts_all s.scripts b
              ∙ ap (λ c. if c then map script_parsed_text s.scripts else []) (sym is.2);
          paused =
              ap length (around pauses done.before done.events reply (debugger_paused.of_result id done.result)
              ∙ ap (λ l. filter pauses l ++ filter pauses done.events) is.0
              ∙ ap (λ l. filter pauses (scripts_told s.scripts b) ++ filter pauses l) is.1
              ∙ ap (λ l. l ++ filter pauses told) (scripts_none pauses s.scripts b debugger_paused.of_script))
              ∙ enabling_once s x s.paused b
              ∙ ap (λ c. once (c && is_some s.paused)) (sym is.2);
        }

refused_says : (s : Situation) (x : Session) (id : Option ℕ) (refusal : Refusal)
    → AnswerSays s x x (refusal_text id refusal ∷ [])
refused_says s x id refusal =
    let texts = refusal_text id refusal ∷ [] in
    says_nothing s x x texts refl (and-not x.rules.enabled)
    (none-of (is_event (codes "Debugger.scriptParsed")) texts (script_parsed.of_refusal id refusal, tt))
    (none-of (is_event (codes "Debugger.paused")) texts (debugger_paused.of_refusal id refusal, tt))

-- the same of a session that has other texts
refused_so : (s : Situation) (x y : Session) (texts : List (List ℕ)) → y.number ≡ x.number → y.rules ≡ x.rules
    → AnswerSays s x x texts → AnswerSays s x y texts
refused_so s x y texts number rules says =
    let old : newly x x ≡ newly x y = ap (λ r. r.enabled && not x.rules.enabled) (sym rules) in
    record {
      number = number;
      parsed = says.parsed ∙ ap (λ b. if b then map script_parsed_text s.scripts else []) old;
      paused = says.paused ∙ ap (λ b. once (b && is_some s.paused)) old;
    }

row_says : (s : Situation) (x : Session) (id : ℕ) (r : Row) → RowLeaves s x r
    → AnswerSays s x (answer_by x (outcome_by id r)).session (answer_texts (outcome_by id r))
row_says s x id (Refuses refusal) leaves =
    refused_so s x (answer_by x (outcome_by id (Refuses refusal))).session (refusal_text (Some id) refusal ∷ []) refl
    refl
    (refused_says s x (Some id) refusal)
row_says s x id (Does done) leaves = done_says s x id done leaves

reading_says : (s : Situation) (x : Session) (r : Reading)
    → AnswerSays s x (answer_by x (outcome_for s x r)).session (answer_texts (outcome_for s x r))
reading_says s x (readings.Command id method ps) =
    row_says s x id (comes_to s x ps) (comes-leaves s (refusal_of s x ps) (row s x ps) x (row-leaves s x ps))
reading_says s x (readings.Refused id refusal) =
    refused_so s x (answer_by x (outcome_for s x (readings.Refused id refusal))).session (refusal_text id refusal ∷ [])
    refl refl (refused_says s x id refusal)
reading_says s x readings.Memory =
    refused_so s x (answer_by x (outcome_for s x readings.Memory)).session (refusal_text None refusals.NotJson ∷ [])
    refl refl (refused_says s x None refusals.NotJson)

-- the answer to a text
pub answer-says : (s : Situation) (x : Session) (text : List ℕ)
    → AnswerSays s x (answer_of s x text).session (answer_texts (outcome_of s x text))
answer-says s x text = reading_says s x (reading_of (read text))

-- ---- other events than those come with no answer

done_none : (method : List ℕ) (print throw destroyed resume : Bool)
    → IsMethod method print throw destroyed false resume false
    → (s : Situation) (x : Session) (id : ℕ) (done : Done) → Says s x done
    → filter (is_event method) (texts_of id done) ≡ []
done_none method print throw destroyed resume is s x id done (inl says) =
    none-around (is_event method) done.before done.events [] (result_text id done.result)
    (is.of_result id done.result) says.0 says.1 refl
done_none method print throw destroyed resume is s x id done (inr (inl says)) =
    none-around (is_event method) done.before done.events (contexts_told s x) (result_text id done.result)
    (is.of_result id done.result) says.0 says.1 (context_none s x (is_event method) is.of_context)
done_none method print throw destroyed resume is s x id done (inr (inr says)) =
    let b = x.rules.enabled in
    around (is_event method) done.before done.events (result_text id done.result) (is.of_result id done.result)
    ∙ ap (λ l. filter (is_event method) l ++ filter (is_event method) done.events) says.0
    ∙ ap (λ l. filter (is_event method) (scripts_told s.scripts b) ++ filter (is_event method) l) says.1
    ∙ ap (λ l. l ++ filter (is_event method) (enabling_told s s.paused b x).made)
    (scripts_none (is_event method) s.scripts b is.of_script)
    ∙ enabling_none s x (is_event method) is.of_pause s.paused b

row_none : (method : List ℕ) (print throw destroyed resume : Bool)
    → IsMethod method print throw destroyed false resume false
    → (s : Situation) (x : Session) (id : ℕ) (r : Row) → RowLeaves s x r
    → filter (is_event method) (answer_texts (outcome_by id r)) ≡ []
row_none method print throw destroyed resume is s x id (Refuses refusal) leaves =
    none-of (is_event method) (refusal_text (Some id) refusal ∷ []) (is.of_refusal (Some id) refusal, tt)
row_none method print throw destroyed resume is s x id (Does done) leaves =
    done_none method print throw destroyed resume is s x id done leaves.says

reading_none : (method : List ℕ) (print throw destroyed resume : Bool)
    → IsMethod method print throw destroyed false resume false
    → (s : Situation) (x : Session) (r : Reading)
    → filter (is_event method) (answer_texts (outcome_for s x r)) ≡ []
reading_none method print throw destroyed resume is s x (readings.Command id name ps) =
    row_none method print throw destroyed resume is s x id (comes_to s x ps)
    (comes-leaves s (refusal_of s x ps) (row s x ps) x (row-leaves s x ps))
reading_none method print throw destroyed resume is s x (readings.Refused id refusal) =
    none-of (is_event method) (refusal_text id refusal ∷ []) (is.of_refusal id refusal, tt)
reading_none method print throw destroyed resume is s x readings.Memory =
    none-of (is_event method) (refusal_text None refusals.NotJson ∷ []) (is.of_refusal None refusals.NotJson, tt)

pub answer-none : (method : List ℕ) (print throw destroyed resume : Bool)
    → IsMethod method print throw destroyed false resume false
    → (s : Situation) (x : Session) (text : List ℕ)
    → filter (is_event method) (answer_texts (outcome_of s x text)) ≡ []
answer-none method print throw destroyed resume is s x text =
    reading_none method print throw destroyed resume is s x (reading_of (read text))

-- beside the reply all texts are events
pub only-reply : (test : List ℕ → Bool) → test context_created_text ≡ false
    → ((script : Script) → test (script_parsed_text script) ≡ false)
    → ((frames : List Json) (thrown : List Pair) (hits : List (List ℕ)) (reason : List ℕ)
    → test (paused_text frames thrown hits reason) ≡ false)
    → (s : Situation) (x : Session) (id : ℕ) (done : Done) → Says s x done
    → filter test (texts_of id done) ≡ filter test (result_text id done.result ∷ [])
only-reply test context script stop s x id done says =
    split test done.before done.events (result_text id done.result) (by_case test context script stop s x done says)
  where
    split : (test : List ℕ → Bool) (before events : List (List ℕ)) (reply : List ℕ)
        → (filter test before ≡ []) × (filter test events ≡ [])
        → filter test (before ++ reply ∷ events) ≡ filter test (reply ∷ [])
    split test before events reply none =
        filter-append test before (reply ∷ events)
        ∙ ap (λ l. l ++ filter test (reply ∷ events)) none.0
        ∙ filter-append test (reply ∷ []) events
        ∙ ap (λ l. filter test (reply ∷ []) ++ l) none.1
        ∙ append-nil (filter test (reply ∷ []))

    by_case : (test : List ℕ → Bool) → test context_created_text ≡ false
        → ((script : Script) → test (script_parsed_text script) ≡ false)
        → ((frames : List Json) (thrown : List Pair) (hits : List (List ℕ)) (reason : List ℕ)
        → test (paused_text frames thrown hits reason) ≡ false)
        → (s : Situation) (x : Session) (done : Done) → Says s x done
        → (filter test done.before ≡ []) × (filter test done.events ≡ [])
    by_case test context script stop s x done (inl is) =
        (ap (λ l. filter test l) is.0, ap (λ l. filter test l) is.1)
    by_case test context script stop s x done (inr (inl is)) =
        (ap (λ l. filter test l) is.0 ∙ context_none s x test context, ap (λ l. filter test l) is.1)
    by_case test context script stop s x done (inr (inr is)) = (
      ap (λ l. filter test l) is.0 ∙ scripts_none test s.scripts x.rules.enabled script,
      ap (λ l. filter test l) is.1 ∙ enabling_none s x test stop s.paused x.rules.enabled,
    )

-- ---- each text is answered once

row_once : (s : Situation) (x : Session) (id : ℕ) (r : Row) → RowLeaves s x r
    → length (filter is_reply (answer_texts (outcome_by id r))) ≡ 1
row_once s x id (Refuses refusal) leaves = refl
row_once s x id (Does done) leaves =
    ap length (only-reply is_reply refl script-event (λ frames thrown hits reason. refl) s x id done leaves.says)

reading_once : (s : Situation) (x : Session) (r : Reading)
    → length (filter is_reply (answer_texts (outcome_for s x r))) ≡ 1
reading_once s x (readings.Command id method ps) =
    row_once s x id (comes_to s x ps) (comes-leaves s (refusal_of s x ps) (row s x ps) x (row-leaves s x ps))
reading_once s x (readings.Refused id refusal) = refl
reading_once s x readings.Memory = refl

pub answer-once : (s : Situation) (x : Session) (text : List ℕ)
    → length (filter is_reply (answer_texts (outcome_of s x text))) ≡ 1
answer-once s x text = reading_once s x (reading_of (read text))
