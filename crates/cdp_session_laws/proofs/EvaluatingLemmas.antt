-- What an evaluation leaves of its session.
use Rattle.std.proofs.Common.{◌≡◌, ℕ, ◌+◌, Bool, true, false, not, ◌&&◌, List, [], length, take, refl, sym, ap, ◌∙◌, arith}
use Rattle.std.specs.Prelude.{◌≤◌, ◌^◌, is_some, nat_lt, if◌then◌else◌, Option, Some, None, option_map}
use Rattle.std.specs.Option.{option_map_or}
use lib.Seq.{take-length}
use Rattle.js_heap.specs.declared.value.Addr.{Addr}
use Rattle.js_heap.specs.declared.value.Addr.TheVariants.{Base, Scratch}
use Rattle.js_heap.specs.declared.value.Value.{Value}
use Rattle.js_heap.specs.declared.value.Value.TheVariants as values
use Rattle.js_heap.specs.BuiltIns.{script_scope}
use Rattle.js_heap.specs.World.{World}
use Rattle.js_heap_memory.specs.Overlays.{space_after}
use Rattle.js_tree.specs.Trees.{Expression}
use Rattle.js_parser.specs.Expressions.{expression_of, function_of}
use Rattle.js_parser_numbering.specs.Numbered.{numbered_made}
use Rattle.js_semantics.specs.Evaluation.{Answer, Argument, a_result, a_throw, an_effect, is_full_of, spent}
use Rattle.js_semantics.specs.Laws.{AnswerKeeps}
use Rattle.js_semantics.specs.Literals.{expression_literals}
use Rattle.js_semantics.specs.Makers.{MadeExpression as Source}
use Rattle.js_semantics.proofs.EvaluationLemmas.{call-keeps, evaluate-keeps}
use Rattle.js_semantics_limits.specs.Balances.{AnswerBalances}
use Rattle.js_semantics_limits.proofs.AnswerLemmas.{call-balances, evaluate-balances}
use Rattle.pure_eval.specs.Workspaces.{with_evaluated}
use Rattle.object_groups.specs.declared.fault.HandleFault.{HandleFault}
use Rattle.object_groups.specs.declared.handle.Target.TheVariants as targets
use Rattle.object_groups.specs.Handles.{HeldHandles, fault_of}
use Rattle.cdp_json.specs.Json.{Json}
use Rattle.cdp_json.specs.declared.params.Evaluation.{Evaluation as Asked}
use Rattle.cdp_json.specs.declared.params.FunctionCall.{FunctionCall}
use Rattle.cdp_json.specs.declared.params.Params.TheVariants as params
use Rattle.cdp_json.specs.declared.refusal.Refusal.{Refusal}
use Rattle.frames_scopes_types.specs.Frames.{ShownFrame}
use Rattle.remote_objects.specs.Making.{Made, handles_by}
use Rattle.remote_objects.specs.ByValue.{remote_by_value}
use Rattle.remote_objects.specs.Remote.{remote_with}
use Rattle.remote_objects.specs.Sights.{Sight}
use Rattle.remote_objects.specs.declared.detail.Detail.{Detail}
use Rattle.remote_objects.specs.declared.detail.Detail.TheVariants as details
use Rattle.cdp_session_messages.specs.Exceptions.{thrown_result, value_result}
use Rattle.cdp_session.specs.Calls.{answer_to, arguments_of, calls_given, outcome_of_function, receiver_of, showing_for}
use Rattle.cdp_session.specs.Evaluations.{Evaluates, answer_in, answered_by, as_it_is, described, described_as, evaluates_at, evaluates_in, frame_of, holds_on, innermost, keeps, kept_by, outcome_of_answer, outcome_of_tree, showing_of, sight_with, without_handle}
use Rattle.cdp_session.specs.Replies.{comes_to, refusal_of}
use Rattle.cdp_session.specs.Rows.{Does, Refuses, Row, row, row_of}
use Rattle.cdp_session.specs.Sessions.{Session, with_exception, with_handles}
use Rattle.cdp_session.specs.Situations.{Situation}
use Rattle.cdp_session.specs.declared.asks.Asks.TheVariants.{Nothing}
use Rattle.cdp_session_laws.specs.Effects.{IsOnlyEvaluation, OnlyEvaluates}
use Rattle.cdp_session_laws.proofs.CountLemmas.{counts-on}
use Rattle.cdp_session_laws.proofs.ScratchLemmas.{IsBalanced, evaluated-balanced}
use Rattle.cdp_session_laws.proofs.GrowLemmas.{Grows, grows-same}
use Rattle.cdp_session_laws.proofs.DescriptionLemmas.{GrowsIf, grows-described}

-- ---- handles on cells of evaluations

-- where no limit stands, a handle more is made
makes-more : (o : Option HandleFault) (i : ℕ) (d : Detail) (g : Option (List ℕ)) (h : HeldHandles)
    → not (is_some o) ≡ true
    → (handles_by o (targets.Object (Scratch i)) g h).made ≡ h.made + 1
makes-more None i d g h is = refl
makes-more (Some fault) i d g h is = absurd cc

-- so is one by a description
with-more : (s : Sight) (i : ℕ) (d : Detail) (g : Option (List ℕ)) (h : HeldHandles)
    → not (is_some (fault_of h)) ≡ true
    → (remote_with s d g (values.Object (Scratch i)) h).handles.made ≡ h.made + 1
with-more s i details.Plain g h is = makes-more (fault_of h) i details.Plain g h is
with-more s i details.Previewed g h is = makes-more (fault_of h) i details.Previewed g h is

-- where a description holds on to a cell of an evaluation, it makes a handle
holds-more : (s : Sight) (d : Detail) (g : Option (List ℕ)) (v : Value) (h : HeldHandles)
    → holds_on v h ≡ true
    → (remote_with s d g v h).handles.made ≡ h.made + 1
holds-more s d g values.Undefined h is = absurd cc
holds-more s d g values.Null h is = absurd cc
holds-more s d g (values.Bool b) h is = absurd cc
holds-more s d g (values.Number z) h is = absurd cc
holds-more s d g (values.Text a) h is = absurd cc
holds-more s d g (values.Object (Base i)) h is = absurd cc
holds-more s d g (values.Object (Scratch i)) h is = with-more s i d g h is

-- what is asked for by value makes none
keeps-more : (b : Bool) (s : Sight) (d : Detail) (g : Option (List ℕ)) (v : Value) (h : HeldHandles) (m : Made Json)
    (by : Option (Made Json))
    → (not b && holds_on v h) ≡ true
    → (if b then by else Some (remote_with s d g v h)) ≡ Some m
    → m.handles.made ≡ h.made + 1
keeps-more true s d g v h m by is there = absurd cc
keeps-more false s d g v h m by is there =
    let same : remote_with s d g v h ≡ m = cc in
    ap (λ (k : Made Json). k.handles.made) (sym same) ∙ holds-more s d g v h is

kept-made : (s : Sight) (how : _) (v : Value) (h : HeldHandles) (m : Made Json)
    → keeps how v h ≡ true
    → described_as s how v h ≡ Some m
    → m.handles.made ≡ h.made + 1
kept-made s how v h m is there =
    keeps-more how.by_value s how.detail how.group v h m (option_map (without_handle h) (remote_by_value s v)) is there

-- ---- rows

-- what a row leaves that only evaluates, with the handles that it adds, its count of exceptions, and what it keeps
pub record Evaluated (x y : Session) : Type 0 where
  pub only : OnlyEvaluates x y
  pub grows : Grows x.handles y.handles
  pub counts : x.exceptions ≤ 2 ^ 62 → y.exceptions ≤ 2 ^ 62
  pub fits : IsBalanced x.workspace → IsBalanced y.workspace

-- it is refused, or it leaves that, sends nothing besides and asks nothing
abbrev pub Evaluation : Session → Row → Type 0
Evaluation x (Refuses why) = Unit {0}
Evaluation x (Does done) =
    Evaluated x done.session × (done.before ≡ []) × (done.events ≡ []) × (done.asks ≡ Nothing)

pub only-evaluates : (x : Session) (r : Row) → Evaluation x r → IsOnlyEvaluation x r
only-evaluates x (Refuses why) e = tt
only-evaluates x (Does done) e = (e.0.only, e.1, e.2, e.3)

-- ---- sessions

-- the same handles are as many
same-count : (a b : HeldHandles) → a ≡ b → a.made ≡ b.made
same-count a b same = ap (λ (h : HeldHandles). h.made) same

-- a session with handles that were added, whose cells and program are kept or forgotten
behind : (b : Bool) (e : Source) (w : World) (x : Session) (h : HeldHandles)
    → Grows x.handles h
    → take (length x.workspace.scratch.cells) w.scratch ≡ x.workspace.scratch.cells
    → (b ≡ true → h.made ≡ x.handles.made + 1)
    → (IsBalanced x.workspace → IsBalanced (with_evaluated e w x.workspace))
    → Evaluated x (with_handles h (kept_by b e w x))
behind true e w x h g front more grown = record {
  only = record {
    number = refl;
    rules = refl;
    runtime = refl;
    breakpoints = refl;
    outbox = refl;
    counted = g.counted;
    handles = g.each;
    cells = front;
    forgets = λ same. absurd (omega (arith, more refl, same-count h x.handles same));
  };
  grows = g;
  counts = λ le. le;
  fits = grown;
}
behind false e w x h g front more grown = record {
  only = record {
    number = refl;
    rules = refl;
    runtime = refl;
    breakpoints = refl;
    outbox = refl;
    counted = g.counted;
    handles = g.each;
    cells = take-length x.workspace.scratch.cells;
    forgets = λ same. refl;
  };
  grows = g;
  counts = λ le. le;
  fits = λ q. q;
}

-- one exception more
excepted : (x y : Session) → Evaluated x y → Evaluated x (with_exception y)
excepted x y e = record {
  only = record {
    number = e.only.number;
    rules = e.only.rules;
    runtime = e.only.runtime;
    breakpoints = e.only.breakpoints;
    outbox = e.only.outbox;
    counted = e.only.counted;
    handles = e.only.handles;
    cells = e.only.cells;
    forgets = e.only.forgets;
  };
  grows = e.grows;
  counts = λ le. counts-on (2 ^ 62) y.exceptions (nat_lt y.exceptions (2 ^ 62)) refl (e.counts le);
  fits = e.fits;
}

-- nothing was made
as-before : (x : Session) → Evaluated x x
as-before x = record {
  only = record {
    number = refl;
    rules = refl;
    runtime = refl;
    breakpoints = refl;
    outbox = refl;
    counted = omega arith;
    handles = λ n le. refl;
    cells = take-length x.workspace.scratch.cells;
    forgets = λ same. refl;
  };
  grows = grows-same x.handles;
  counts = λ le. le;
  fits = λ q. q;
}

-- ---- answers

a-value : (x : Session) (b : Bool) (e : Source) (w : World) (result : Json → Json) (o : Option (Made Json))
    → take (length x.workspace.scratch.cells) w.scratch ≡ x.workspace.scratch.cells
    → GrowsIf x.handles o
    → ((m : Made Json) → b ≡ true → o ≡ Some m → m.handles.made ≡ x.handles.made + 1)
    → (IsBalanced x.workspace → IsBalanced (with_evaluated e w x.workspace))
    → Evaluation x (row_of (answered_by result as_it_is (kept_by b e w x) o))
a-value x b e w result None front g more grown = tt
a-value x b e w result (Some m) front g more grown =
    (behind b e w x m.handles g front (λ is. more m is refl) grown, refl, refl, refl)

a-thrown : (x : Session) (b : Bool) (e : Source) (w : World) (result : Json → Json) (o : Option (Made Json))
    → take (length x.workspace.scratch.cells) w.scratch ≡ x.workspace.scratch.cells
    → GrowsIf x.handles o
    → ((m : Made Json) → b ≡ true → o ≡ Some m → m.handles.made ≡ x.handles.made + 1)
    → (IsBalanced x.workspace → IsBalanced (with_evaluated e w x.workspace))
    → Evaluation x (row_of (answered_by result with_exception (kept_by b e w x) o))
a-thrown x b e w result None front g more grown = tt
a-thrown x b e w result (Some m) front g more grown = (
  excepted x (with_handles m.handles (kept_by b e w x))
      (behind b e w x m.handles g front (λ is. more m is refl) grown),
  refl,
  refl,
  refl,
)

pub an-answer : (s : Situation) (x : Session) (how : _) (e : Source) (a : Answer)
    → AnswerKeeps s.standing.world x.workspace.scratch a
    → AnswerBalances s.standing.world x.workspace.scratch a
    → Evaluation x (row_of (outcome_of_answer s x how e a))
an-answer s x how e (a_result v w) k q =
    a-value x (keeps how v x.handles) e w value_result (described s x how v w) k.earlier
    (grows-described (sight_with s x (space_after w)) how v x.handles)
    (λ m is there. kept-made (sight_with s x (space_after w)) how v x.handles m is there)
    (evaluated-balanced x.workspace e s.standing.world w q k.program)
an-answer s x how e (a_throw v w) k q =
    a-thrown x (keeps how v x.handles) e w (thrown_result (with_exception x).exceptions) (described s x how v w)
    k.earlier (grows-described (sight_with s x (space_after w)) how v x.handles)
    (λ m is there. kept-made (sight_with s x (space_after w)) how v x.handles m is there)
    (evaluated-balanced x.workspace e s.standing.world w q k.program)
an-answer s x how e an_effect k q = (excepted x x (as-before x), refl, refl, refl)
an-answer s x how e (is_full_of what) k q = tt
an-answer s x how e spent k q = tt

a-tree : (s : Situation) (x : Session) (scope : Addr) (receiver : Value) (how : _) (source : List ℕ)
    (o : Option Expression)
    → Evaluation x (row_of (outcome_of_tree s x scope receiver how source o))
a-tree s x scope receiver how source None = (excepted x x (as-before x), refl, refl, refl)
a-tree s x scope receiver how source (Some e) =
    an-answer s x how (numbered_made e) (answer_in s x scope receiver source e)
    (evaluate-keeps x.workspace.program s.standing.world x.workspace.scratch scope receiver source
    (expression_literals e) (numbered_made e))
    (evaluate-balances x.workspace.program s.standing.world x.workspace.scratch scope receiver source
    (expression_literals e) (numbered_made e))

if-pure : (x : Session) (b : Bool) (first second : Evaluates)
    → Evaluation x (row_of first)
    → Evaluation x (row_of second)
    → Evaluation x (row_of (if b then first else second))
if-pure x true first second a c = a
if-pure x false first second a c = c

pub an-evaluation : (s : Situation) (x : Session) (scope : Addr) (receiver : Value) (ev : Asked)
    → Evaluation x (row_of (evaluates_in s x scope receiver ev))
an-evaluation s x scope receiver ev =
    if-pure x ev.throw_on_side_effect
    (outcome_of_tree s x scope receiver (showing_of ev) ev.expression (expression_of ev.expression)) _
    (a-tree s x scope receiver (showing_of ev) ev.expression (expression_of ev.expression)) tt

pub in-frame : (s : Situation) (x : Session) (o : Option ShownFrame) (ev : Asked)
    → Evaluation x (row_of (evaluates_at s x o ev))
in-frame s x None ev = tt
in-frame s x (Some f) ev = an-evaluation s x (innermost f.scopes) f.receiver ev

a-function : (s : Situation) (x : Session) (receiver : Value) (args : List Argument) (how : _) (source : List ℕ)
    (o : Option Expression)
    → Evaluation x (row_of (outcome_of_function s x receiver args how source o))
a-function s x receiver args how source None = (excepted x x (as-before x), refl, refl, refl)
a-function s x receiver args how source (Some f) =
    an-answer s x how (numbered_made f) (answer_to s x receiver args source f)
    (call-keeps x.workspace.program s.standing.world x.workspace.scratch source (expression_literals f)
    (numbered_made f) receiver args)
    (call-balances x.workspace.program s.standing.world x.workspace.scratch source (expression_literals f)
    (numbered_made f) receiver args)

pub a-call : (s : Situation) (x : Session) (call : FunctionCall) (o : Option Value) (p : Option (List Argument))
    → Evaluation x (row_of (calls_given s x call o p))
a-call s x call None p = tt
a-call s x call (Some v) None = tt
a-call s x call (Some v) (Some args) =
    if-pure x call.throw_on_side_effect
    (outcome_of_function s x v args (showing_for x call) call.function_declaration
    (function_of call.function_declaration)) _
    (a-function s x v args (showing_for x call) call.function_declaration (function_of call.function_declaration)) tt

-- ---- commands

-- what is refused before it acts leaves everything
or-refused : (x : Session) (o : Option Refusal) (r : Row) → Evaluation x r → Evaluation x (option_map_or Refuses o r)
or-refused x None r e = e
or-refused x (Some why) r e = tt

pub evaluate-leaves : (s : Situation) (x : Session) (ev : Asked)
    → IsOnlyEvaluation x (comes_to s x (params.Evaluate ev))
evaluate-leaves s x ev =
    only-evaluates x (comes_to s x (params.Evaluate ev)) (an-evaluation s x script_scope values.Undefined ev)

pub frame-leaves : (s : Situation) (x : Session) (id : List ℕ) (ev : Asked)
    → IsOnlyEvaluation x (comes_to s x (params.EvaluateOnCallFrame id ev))
frame-leaves s x id ev =
    only-evaluates x (comes_to s x (params.EvaluateOnCallFrame id ev))
    (or-refused x (refusal_of s x (params.EvaluateOnCallFrame id ev)) (row s x (params.EvaluateOnCallFrame id ev))
    (in-frame s x (frame_of s x s.paused id) ev))

pub call-leaves : (s : Situation) (x : Session) (call : FunctionCall)
    → IsOnlyEvaluation x (comes_to s x (params.CallFunctionOn call))
call-leaves s x call =
    only-evaluates x (comes_to s x (params.CallFunctionOn call))
    (a-call s x call (receiver_of x call.object_id) (arguments_of x call.arguments))
