-- Which answers tell of an exception, and of which.
use Rattle.std.proofs.Common.{◌≡◌, ◌<◌, ◌⊎◌, ℕ, zero, suc, pos, ◌+◌, ◌/◌, ◌%◌, ◌^◌, List, [], ◌∷◌, ◌++◌, filter, codes, decimal, nat_eq, nat_lt, Bool, true, false, ◌==◌, is_some, if◌then◌else◌, inl, inr, refl, ap, sym, subst, ◌∙◌, arith, lt-ltb, mod-lt, ne_eqb, Option, Some, None}
use Rattle.std.specs.Fmt.{digits, digits_onto, digit_glyph}
use Rattle.std.specs.Char.{encode_utf8}
use Rattle.std.specs.Char.Utf16.{utf16_chars}
use Rattle.std.specs.Option.{option_map_or}
use Rattle.serde_json.specs.Read.{read}
use Rattle.json.specs.Print.{escape_byte}
use Rattle.cdp_text.specs.Units.{utf8_of}
use Rattle.cdp_text.specs.declared.position.Place.{Place}
use Rattle.js_tree.specs.declared.script.Script.{Script}
use Rattle.js_tree.specs.Trees.{Expression}
use Rattle.js_heap.specs.World.{World}
use Rattle.js_heap.specs.declared.value.Addr.{Addr}
use Rattle.js_heap.specs.declared.value.Value.{Value}
use Rattle.js_semantics.specs.Evaluation.{Argument, Answer, a_result, a_throw, an_effect, is_full_of, spent}
use Rattle.js_semantics.specs.Makers.{MadeExpression as Source}
use Rattle.js_parser.specs.Expressions.{expression_of, function_of}
use Rattle.cdp_json.specs.Commands.{reading_of}
use Rattle.cdp_json.specs.Compact.{compact_text}
use Rattle.cdp_json.specs.Json.{Json, number, text}
use Rattle.cdp_json.specs.Messages.{refusal_text, result_text}
use Rattle.cdp_json.specs.Parts.{Pair, nothing, object_of}
use Rattle.cdp_json.specs.declared.command.Reading.{Reading}
use Rattle.cdp_json.specs.declared.command.Reading.TheVariants as readings
use Rattle.cdp_json.specs.declared.params.Evaluation.{Evaluation}
use Rattle.cdp_json.specs.declared.params.FunctionCall.{FunctionCall}
use Rattle.cdp_json.specs.declared.params.Params.{Params}
use Rattle.cdp_json.specs.declared.params.Params.TheVariants as params
use Rattle.cdp_json.specs.declared.refusal.Refusal.{Refusal}
use Rattle.cdp_json.specs.declared.refusal.Refusal.TheVariants as refusals
use Rattle.locations.specs.declared.spot.Spot.{Spot}
use Rattle.breakpoints.specs.declared.fault.AddFault.{AddFault}
use Rattle.stepping.specs.declared.rules.StepKind.{StepKind}
use Rattle.object_groups.specs.declared.handle.Handle.{Handle}
use Rattle.frames_scopes_types.specs.Frames.{ShownFrame}
use Rattle.remote_objects.specs.Making.{Made}
use Rattle.remote_objects.specs.Values.{undefined_pairs}
use Rattle.cdp_session_messages.specs.Exceptions.{details, details_result, effect_object, syntax_result, thrown_result, value_result}
use Rattle.cdp_session_messages.specs.Results.{debugger_id, declared_names, properties, script_source, set_at, set_by_url, spot_locations}
use Rattle.cdp_session_messages.specs.Scripts.{script_parsed_text}
use Rattle.cdp_session.specs.declared.situation.Pause.{Pause}
use Rattle.cdp_session.specs.Calls.{arguments_of, calls, calls_given, outcome_of_function, receiver_of, showing_for}
use Rattle.cdp_session.specs.Evaluations.{Evaluates, Stops, Answers, answered_by, as_it_is, behind_value, described, evaluates, evaluates_in, evaluates_at, frame_of, keeps, kept_by, outcome_of_answer, outcome_of_tree, showing_of}
use Rattle.cdp_session.specs.Objects.{handle_of}
use Rattle.cdp_session.specs.Replies.{answer_by, answer_of, answer_texts, comes_to, outcome_by, outcome_for, outcome_of, refusal_of}
use Rattle.cdp_session.specs.Rows.{Row, Refuses, Does, adds, adds_at, continue_at, does, in_script, properties_of, releases, row, row_of, step_from}
use Rattle.cdp_session.specs.Sessions.{Session, with_exception, with_handles, with_rules}
use Rattle.cdp_session.specs.Situations.{Situation, script_of}
use Rattle.cdp_host_laws.specs.Events.{begins_with}
use Rattle.cdp_host_laws.specs.Exceptions.{AreDetailsOf, Counts, IsReplyOf, at_comma, tells_exception}
use Rattle.cdp_host_laws.proofs.RowLemmas.{RowLeaves, comes-leaves, only-reply, row-leaves}

-- ---- the result of a reply

-- no digit is a comma
glyph : (d : ℕ) → d < 10 → nat_eq (digit_glyph false d) 44 ≡ false
glyph d below =
    ap (λ b. nat_eq (if b then 48 + d else 87 + d) 44) (lt-ltb d 10 below)
    ∙ ne_eqb (48 + d) 44 (λ same. absurd (omega (arith, same)))

past-choice : (b : Bool) (g : ℕ) (acc deep rest : List ℕ) → nat_eq g 44 ≡ false
    → at_comma (deep ++ rest) ≡ at_comma (g ∷ (acc ++ rest))
    → at_comma ((if b then g ∷ acc else deep) ++ rest) ≡ at_comma (acc ++ rest)
past-choice true g acc deep rest none same = ap (λ c. if c then g ∷ (acc ++ rest) else at_comma (acc ++ rest)) none
past-choice false g acc deep rest none same =
    same ∙ ap (λ c. if c then g ∷ (acc ++ rest) else at_comma (acc ++ rest)) none

past-digits : (k n : ℕ) (acc rest : List ℕ)
    → at_comma (digits_onto k 10 false n acc ++ rest) ≡ at_comma (acc ++ rest)
past-digits zero n acc rest = refl
past-digits (suc k) n acc rest =
    let g = digit_glyph false (n % 10) in
    past-choice (n / 10 == 0) g acc (digits_onto k 10 false (n / 10) (g ∷ acc)) rest
    (glyph (n % 10) (mod-lt n (omega arith))) (past-digits k (n / 10) (g ∷ acc) rest)

past-decimal : (n : ℕ) (rest : List ℕ) → at_comma (decimal n ++ rest) ≡ at_comma rest
unfolding digits
past-decimal n rest = past-digits 64 n [] rest

-- a result that begins so tells of an exception
abbrev says_details : Json → Bool
says_details j = begins_with (codes "{\"exceptionDetails\":") (compact_text j ++ codes "}")

reply-tells : (id : ℕ) (j : Json) → tells_exception (result_text id j) ≡ says_details j
reply-tells id j =
    ap (λ l. begins_with (codes ",\"result\":{\"exceptionDetails\":") l)
    (past-decimal id (codes ",\"result\":" ++ (compact_text j ++ codes "}")))

-- ---- results that tell of none

abbrev IsPlain : Json → Type 0
IsPlain j = says_details j ≡ false

nothing_plain : IsPlain nothing
nothing_plain = refl

debugger_plain : IsPlain debugger_id
unfolding utf8_of utf16_chars encode_utf8 escape_byte
debugger_plain = refl

spots_plain : (script : ℕ) (spots : List Spot) → IsPlain (spot_locations script spots)
unfolding utf8_of utf16_chars encode_utf8 escape_byte
spots_plain script spots = refl

url_plain : (id : List ℕ) (places : List Place) → IsPlain (set_by_url id places)
unfolding utf8_of utf16_chars encode_utf8 escape_byte
url_plain id places = refl

at_plain : (id : List ℕ) (place : Place) → IsPlain (set_at id place)
unfolding utf8_of utf16_chars encode_utf8 escape_byte
at_plain id place = refl

source_plain : (source : List ℕ) → IsPlain (script_source source)
unfolding utf8_of utf16_chars encode_utf8 escape_byte
source_plain source = refl

properties_plain : (values : List Json) → IsPlain (properties values)
unfolding utf8_of utf16_chars encode_utf8 escape_byte
properties_plain values = refl

names_plain : (names : List (List ℕ)) → IsPlain (declared_names names)
unfolding utf8_of utf16_chars encode_utf8 escape_byte
names_plain names = refl

value_plain : (j : Json) → IsPlain (value_result j)
unfolding utf8_of utf16_chars encode_utf8 escape_byte
value_plain j = refl

-- ---- results that tell of one

record HasDetails (id : ℕ) (j : Json) : Type 0 where
  pub said : Json
  pub others : List Pair
  pub is : j ≡ object_of ((codes "exceptionDetails", said) ∷ others)
  pub are : AreDetailsOf id said
  pub shown : says_details j ≡ true

details_shown : (says j : Json) → says_details (details_result says j) ≡ true
unfolding utf8_of utf16_chars encode_utf8 escape_byte
details_shown says j = refl

has-details : (id : ℕ) (exception : List Pair) (shown : List ℕ) (j : Json)
    → HasDetails id (details_result (details exception id shown) j)
has-details id exception shown j = record {
  said = details exception id shown;
  others = (codes "result", j) ∷ [];
  is = refl;
  are = (
    (codes "columnNumber", number (pos 0)) ∷ exception,
    ((codes "lineNumber", number (pos 0)) ∷ (codes "text", text shown) ∷ [], refl),
  );
  shown = details_shown (details exception id shown) j;
}

-- ---- what a method tells of

-- of as many as before, or of the next one
abbrev Tells : Session → Session → Json → Type 0
Tells x y j =
    ((y.exceptions ≡ x.exceptions) × IsPlain j)
    ⊎ ((y.exceptions ≡ (with_exception x).exceptions) × HasDetails (with_exception x).exceptions j)

abbrev RowTells : Session → Row → Type 0
RowTells x (Refuses refusal) = Unit {0}
RowTells x (Does done) = Tells x done.session done.result

step_tells : (kind : StepKind) (o : Option Pause) (x : Session) → RowTells x (step_from kind o x)
step_tells kind None x = tt
step_tells kind (Some at) x = inl (refl, nothing_plain)

script_tells : (o : Option Script) (id : List ℕ) (f : Script → Row) (x : Session)
    → ((script : Script) → RowTells x (f script)) → RowTells x (in_script o id f)
script_tells None id f x each = tt
script_tells (Some script) id f x each = each script

continue_tells : (x : Session) (o : Option Place) → RowTells x (continue_at x o)
continue_tells x None = tt
continue_tells x (Some place) = inl (refl, nothing_plain)

adds_tells : (o : Option AddFault) (x : Session) (id : List ℕ) (condition : Option (List ℕ)) (places : List Place)
    (result : Json)
    → IsPlain result → RowTells x (adds o x id condition places result)
adds_tells None x id condition places result plain = inl (refl, plain)
adds_tells (Some fault) x id condition places result plain = tt

adds_at_tells : (x : Session) (place : Place) (condition : Option (List ℕ)) (o : Option Place)
    → RowTells x (adds_at x place condition o)
adds_at_tells x place condition None = tt
adds_at_tells x place condition (Some resolved) = adds_tells _ x _ condition _ _ (at_plain _ resolved)

pause_tells : (o : Option Pause) (x : Session)
    → RowTells x (does (if is_some o then x else with_rules (record x.rules { pause = true }) x))
pause_tells None x = inl (refl, nothing_plain)
pause_tells (Some at) x = inl (refl, nothing_plain)

properties_tell : (s : Situation) (x : Session) (preview : Bool) (o : Option Handle)
    → RowTells x (properties_of s x preview o)
properties_tell s x preview None = tt
properties_tell s x preview (Some h) = inl (refl, properties_plain _)

release_tells : (x : Session) (o : Option Handle) → RowTells x (releases x o)
release_tells x None = tt
release_tells x (Some h) = inl (refl, nothing_plain)

-- ---- evaluations

abbrev EvaluatesTells : Session → Evaluates → Type 0
EvaluatesTells x (Stops refusal) = Unit {0}
EvaluatesTells x (Answers result y) = Tells x y result

evaluates_tell : (x : Session) (e : Evaluates) → EvaluatesTells x e → RowTells x (row_of e)
evaluates_tell x (Stops refusal) tells = tt
evaluates_tell x (Answers result y) tells = tells

kept_count : (b : Bool) (e : Source) (w : World) (x : Session) → (kept_by b e w x).exceptions ≡ x.exceptions
kept_count true e w x = refl
kept_count false e w x = refl

answered_tells : (result : Json → Json) (leaves : Session → Session) (x y : Session) (o : Option (Made Json))
    → ((m : Made Json) → Tells x (leaves (with_handles m.handles y)) (result m.made))
    → EvaluatesTells x (answered_by result leaves y o)
answered_tells result leaves x y None each = tt
answered_tells result leaves x y (Some m) each = each m

answer_tells : (s : Situation) (x : Session) (how : _) (e : Source) (a : Answer)
    → EvaluatesTells x (outcome_of_answer s x how e a)
answer_tells s x how e (a_result v w) =
    answered_tells value_result as_it_is x (behind_value x how e v w) (described s x how v w)
    (λ m. inl (kept_count (keeps how v x.handles) e w x, value_plain m.made))
answer_tells s x how e (a_throw v w) =
    answered_tells (thrown_result (with_exception x).exceptions) with_exception x (behind_value x how e v w)
    (described s x how v w)
    (λ m. inr (
      ap (λ n. if nat_lt n (2 ^ 62) then n + 1 else n) (kept_count (keeps how v x.handles) e w x),
      has-details (with_exception x).exceptions ((codes "exception", m.made) ∷ []) (codes "Uncaught") m.made,
    ))
answer_tells s x how e an_effect =
    inr (
      refl,
      has-details (with_exception x).exceptions ((codes "exception", effect_object) ∷ []) (codes "Uncaught")
          effect_object,
    )
answer_tells s x how e (is_full_of what) = tt
answer_tells s x how e spent = tt

syntax_tells : (x : Session) → Tells x (with_exception x) (syntax_result (with_exception x).exceptions)
syntax_tells x =
    inr (
      refl,
      has-details (with_exception x).exceptions [] (codes "Uncaught SyntaxError: Unexpected token")
          (object_of undefined_pairs),
    )

tree_tells : (s : Situation) (x : Session) (scope : Addr) (receiver : Value) (how : _) (source : List ℕ)
    (o : Option Expression)
    → EvaluatesTells x (outcome_of_tree s x scope receiver how source o)
tree_tells s x scope receiver how source None = syntax_tells x
tree_tells s x scope receiver how source (Some e) = answer_tells s x how _ _

asked_tells : (x : Session) (b : Bool) (e : Evaluates) → EvaluatesTells x e
    → EvaluatesTells x (if b then e else Stops refusals.NeedsNoSideEffect)
asked_tells x true e is = is
asked_tells x false e is = tt

evaluated_tells : (s : Situation) (x : Session) (scope : Addr) (receiver : Value) (ev : Evaluation)
    → EvaluatesTells x (evaluates_in s x scope receiver ev)
evaluated_tells s x scope receiver ev =
    asked_tells x ev.throw_on_side_effect _
    (tree_tells s x scope receiver (showing_of ev) ev.expression (expression_of ev.expression))

at_frame_tells : (s : Situation) (x : Session) (o : Option ShownFrame) (ev : Evaluation)
    → EvaluatesTells x (evaluates_at s x o ev)
at_frame_tells s x None ev = tt
at_frame_tells s x (Some f) ev = evaluated_tells s x _ _ ev

function_tells : (s : Situation) (x : Session) (receiver : Value) (arguments : List Argument) (how : _)
    (source : List ℕ) (o : Option Expression)
    → EvaluatesTells x (outcome_of_function s x receiver arguments how source o)
function_tells s x receiver arguments how source None = syntax_tells x
function_tells s x receiver arguments how source (Some f) = answer_tells s x how _ _

called_tells : (s : Situation) (x : Session) (call : FunctionCall) (receiver : Option Value)
    (arguments : Option (List Argument))
    → EvaluatesTells x (calls_given s x call receiver arguments)
called_tells s x call None arguments = tt
called_tells s x call (Some receiver) None = tt
called_tells s x call (Some receiver) (Some arguments) =
    asked_tells x call.throw_on_side_effect _
    (function_tells s x receiver arguments (showing_for x call) call.function_declaration
    (function_of call.function_declaration))

-- ---- all methods

row_tells : (s : Situation) (x : Session) (ps : Params) → RowTells x (row s x ps)
row_tells s x params.DebuggerEnable = inl (refl, debugger_plain)
row_tells s x params.DebuggerDisable = inl (refl, nothing_plain)
row_tells s x params.Pause = pause_tells s.paused x
row_tells s x params.Resume = inl (refl, nothing_plain)
row_tells s x params.StepInto = step_tells _ s.paused x
row_tells s x params.StepOver = step_tells _ s.paused x
row_tells s x params.StepOut = step_tells _ s.paused x
row_tells s x (params.ContinueToLocation at) =
    script_tells (script_of at.script_id s.scripts) at.script_id _ x (λ script. continue_tells x _)
row_tells s x (params.SetBreakpointByUrl url p condition) = adds_tells _ x _ condition _ _ (url_plain _ _)
row_tells s x (params.SetBreakpoint at condition) =
    script_tells (script_of at.script_id s.scripts) at.script_id _ x (λ script. adds_at_tells x _ condition _)
row_tells s x (params.RemoveBreakpoint id) = inl (refl, nothing_plain)
row_tells s x (params.SetBreakpointsActive active) = inl (refl, nothing_plain)
row_tells s x (params.SetSkipAllPauses skip) = inl (refl, nothing_plain)
row_tells s x (params.SetPauseOnExceptions state) = inl (refl, nothing_plain)
row_tells s x params.SetAsyncCallStackDepth = inl (refl, nothing_plain)
row_tells s x (params.GetPossibleBreakpoints start end) =
    script_tells (script_of start.script_id s.scripts) start.script_id _ x (λ script. inl (refl, spots_plain _ _))
row_tells s x (params.GetScriptSource id) =
    script_tells (script_of id s.scripts) id _ x (λ script. inl (refl, source_plain _))
row_tells s x (params.GetProperties id own preview) = properties_tell s x preview (handle_of x id)
row_tells s x (params.ReleaseObject id) = release_tells x (handle_of x id)
row_tells s x (params.ReleaseObjectGroup group) = inl (refl, nothing_plain)
row_tells s x (params.Evaluate evaluation) =
    evaluates_tell x (evaluates s x evaluation) (evaluated_tells s x _ _ evaluation)
row_tells s x (params.EvaluateOnCallFrame id evaluation) =
    evaluates_tell x (evaluates_at s x (frame_of s x s.paused id) evaluation)
    (at_frame_tells s x (frame_of s x s.paused id) evaluation)
row_tells s x (params.CallFunctionOn call) =
    evaluates_tell x (calls s x call)
    (called_tells s x call (receiver_of x call.object_id) (arguments_of x call.arguments))
row_tells s x params.RuntimeEnable = inl (refl, nothing_plain)
row_tells s x params.RuntimeDisable = inl (refl, nothing_plain)
row_tells s x params.GlobalLexicalScopeNames = inl (refl, names_plain _)
row_tells s x params.RunIfWaitingForDebugger = inl (refl, nothing_plain)

comes_tells : (o : Option Refusal) (r : Row) (x : Session) → RowTells x r → RowTells x (option_map_or Refuses o r)
comes_tells None r x is = is
comes_tells (Some refusal) r x is = tt

-- ---- an answer

next-one : (n : ℕ) → n < 2 ^ 62 → (if nat_lt n (2 ^ 62) then n + 1 else n) ≡ n + 1
next-one n below = ap (λ b. if b then n + 1 else n) (lt-ltb n (2 ^ 62) below)

one-reply : (x y : Session) (id : ℕ) (j : Json) → Tells x y j
    → Counts IsReplyOf x.exceptions y.exceptions (filter tells_exception (result_text id j ∷ []))
one-reply x y id j (inl is) =
    let reply = result_text id j in
    let none : filter tells_exception (reply ∷ []) ≡ []
    = ap (λ b. if b then reply ∷ [] else []) (reply-tells id j ∙ is.1) in
    subst (λ l. Counts IsReplyOf x.exceptions y.exceptions l) (sym none) is.0
one-reply x y id j (inr is) =
    let reply = result_text id j in
    let had = is.1 in
    let one : filter tells_exception (reply ∷ []) ≡ reply ∷ []
    = ap (λ b. if b then reply ∷ [] else []) (reply-tells id j ∙ had.shown) in
    let told : IsReplyOf (with_exception x).exceptions reply
    = record {
      command = id;
      details = had.said;
      others = had.others;
      told = ap (λ k. result_text id k) had.is;
      are = had.are;
    } in
    subst (λ l. Counts IsReplyOf x.exceptions y.exceptions l) (sym one)
    (λ below. is.0 ∙ next-one x.exceptions below, subst (λ k. IsReplyOf k reply) (sym is.0) told, refl)

no-script : (script : Script) → tells_exception (script_parsed_text script) ≡ false
unfolding script_parsed_text
no-script script = refl

refused_counts : (x y : Session) (id : Option ℕ) (refusal : Refusal) → y.exceptions ≡ x.exceptions
    → Counts IsReplyOf x.exceptions y.exceptions (filter tells_exception (refusal_text id refusal ∷ []))
refused_counts x y id refusal same = same

row_counts : (s : Situation) (x : Session) (id : ℕ) (r : Row) → RowLeaves s x r → RowTells x r
    → Counts IsReplyOf x.exceptions (answer_by x (outcome_by id r)).session.exceptions
    (filter tells_exception (answer_texts (outcome_by id r)))
row_counts s x id (Refuses refusal) leaves tells =
    refused_counts x (answer_by x (outcome_by id (Refuses refusal))).session (Some id) refusal refl
row_counts s x id (Does done) leaves tells =
    subst (λ l. Counts IsReplyOf x.exceptions done.session.exceptions l)
    (sym (only-reply tells_exception refl no-script (λ frames thrown hits reason. refl) s x id done leaves.says))
    (one-reply x done.session id done.result tells)

reading_counts : (s : Situation) (x : Session) (r : Reading)
    → Counts IsReplyOf x.exceptions (answer_by x (outcome_for s x r)).session.exceptions
    (filter tells_exception (answer_texts (outcome_for s x r)))
reading_counts s x (readings.Command id method ps) =
    row_counts s x id (comes_to s x ps) (comes-leaves s (refusal_of s x ps) (row s x ps) x (row-leaves s x ps))
    (comes_tells (refusal_of s x ps) (row s x ps) x (row_tells s x ps))
reading_counts s x (readings.Refused id refusal) =
    refused_counts x (answer_by x (outcome_for s x (readings.Refused id refusal))).session id refusal refl
reading_counts s x readings.Memory =
    refused_counts x (answer_by x (outcome_for s x readings.Memory)).session None refusals.NotJson refl

-- the answer to a text tells of the next exception, or of none
pub answer-counts : (s : Situation) (x : Session) (shown : List ℕ)
    → Counts IsReplyOf x.exceptions (answer_of s x shown).session.exceptions
    (filter tells_exception (answer_texts (outcome_of s x shown)))
answer-counts s x shown = reading_counts s x (reading_of (read shown))
