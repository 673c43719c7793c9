-- The evaluation of `this`, and evaluations that reach what has an effect.
use Rattle.std.proofs.Common.{◌≡◌, ℕ, suc, ◌+◌, ◌-◌, ◌<◌, ◌^◌, Bool, true, false, List, [], ◌∷◌, ◌++◌, length, refl, sym, ap, subst, ◌∙◌, arith, inl, inr}
use Rattle.std.specs.Prelude.{◌⊎◌, nat_le, slice_get, if◌then◌else◌, Option, Some}
use Rattle.js_heap.specs.declared.cell.Cell.TheVariants as cells
use Rattle.js_heap.specs.declared.change.Counted.TheVariants as counted
use Rattle.js_heap.specs.declared.value.Addr.{Addr}
use Rattle.js_heap.specs.declared.value.Addr.TheVariants.{Scratch}
use Rattle.js_heap.specs.declared.value.Value.{Value}
use Rattle.js_heap.specs.declared.value.Value.TheVariants as values
use Rattle.js_heap.specs.BuiltIns.{script_scope}
use Rattle.js_heap.specs.ScratchSpaces.{ScratchSpace, copied_world}
use Rattle.js_heap.specs.World.{Tried, World, fine, full, is_evaluation}
use Rattle.js_heap_memory.specs.Overlays.{space_after}
use Rattle.js_tree.specs.Trees.{Expression}
use Rattle.js_tree.specs.Trees as trees
use Rattle.js_parser.specs.Expressions.{expression_of}
use Rattle.js_parser_numbering.specs.Numbered.{numbered_made}
use Rattle.js_parser_numbering.specs.Numbering.{leaf}
use Rattle.js_semantics.specs.Evaluation.{Answer, a_result, after_try, an_effect, answer_of, answered, budget, evaluate, evaluated, evaluation_state, is_full_of, kept_term, kept_tree, place_literals, with_source}
use Rattle.js_semantics.specs.Functions.{Program}
use Rattle.js_semantics.specs.Makers.{MadeExpression as Source, this_made}
use Rattle.js_semantics.specs.Next.{next}
use Rattle.js_semantics.specs.Run.{Run, by_effect, ended, literals, run_after, run_of, running, steps_in}
use Rattle.js_semantics.specs.State.{Action, Move, State, first_line, has_effect, other_lines, perform, print, take_line}
use Rattle.js_semantics.specs.Terms.{Term, end, part}
use Rattle.js_semantics.specs.declared.form.Form.TheVariants.{This as this}
use Rattle.js_semantics.proofs.FollowLemmas.{over-stays, steps-more}
use Rattle.cdp_json.specs.declared.params.Evaluation.{Evaluation as Asked}
use Rattle.cdp_json.specs.declared.params.Params.TheVariants as params
use Rattle.cdp_json.specs.declared.refusal.Refusal.TheVariants as refusals
use Rattle.frames_scopes_types.specs.Frames.{ShownFrame}
use Rattle.remote_objects.specs.Ids.{frame_id}
use Rattle.remote_objects.specs.Remote.{remote_with}
use Rattle.cdp_session_messages.specs.Exceptions.{value_result}
use Rattle.cdp_session.specs.Evaluations.{Stops, answer_in, answered_by, as_it_is, behind_value, detail_of, evaluates_in, innermost, outcome_of_answer, outcome_of_tree, showing_of, sight_with}
use Rattle.cdp_session.specs.Replies.{comes_to}
use Rattle.cdp_session.specs.Rows.{row_of}
use Rattle.cdp_session.specs.Sessions.{Session}
use Rattle.cdp_session.specs.Situations.{Situation}
use Rattle.cdp_session.specs.declared.situation.Pause.{Pause}
use Rattle.cdp_session_laws.specs.Effects.{RepliesEffect}
use Rattle.cdp_session_laws.specs.Replying.{RepliesValue}
use Rattle.cdp_session_laws.proofs.TruthLemmas.{comes-to-frame}

-- ---- the evaluation of `this`

-- what is made of it
this-numbered : numbered_made trees.this ≡ this_made 0
unfolding numbered_made leaf
this-numbered = refl

-- it is come to in one step
one-step : (k : ℕ) (p : Program) (scope : Addr) (v : World) (receiver : Value)
    → answer_of (steps_in (suc k) p scope (run_of (part this end end) (evaluation_state v receiver)))
    ≡ a_result receiver v
one-step k p scope v receiver = ap answer_of (over-stays k p scope (ended receiver) (evaluation_state v receiver))

within-budget : (b k : ℕ) (p : Program) (scope : Addr) (v : World) (receiver : Value)
    → b ≡ suc k
    → answer_of (steps_in b p scope (run_of (part this end end) (evaluation_state v receiver))) ≡ a_result receiver v
within-budget b k p scope v receiver is =
    ap (λ n. answer_of (steps_in n p scope (run_of (part this end end) (evaluation_state v receiver)))) is
    ∙ one-step k p scope v receiver

-- a value was come to, or there is no room to keep the text
abbrev ComesTo : Value → Answer → Type 0
ComesTo v a = (a ≡ is_full_of counted.Units) ⊎ ((w : World) × (a ≡ a_result v w))

-- where a text is kept at an address, or isn't
abbrev kept_if : Bool → ℕ → World → Tried Addr
kept_if b n v = if b then fine (Scratch n) v else full counted.Units

this-by : (b : Bool) (n : ℕ) (v : World) (p : Program) (scope : Addr) (receiver : Value)
    → ComesTo receiver (answered
    (after_try (kept_if b n v) (λ at u. after_try (place_literals u [] (literals (kept_term at (this_made 0))))
    (λ t z. fine (kept_tree at (this_made 0)) z)))
    (evaluated p scope receiver))
this-by true n v p scope receiver = inr (v, within-budget budget 99999 p scope v receiver refl)
this-by false n v p scope receiver = inl refl

this-answer : (p : Program) (w : World) (x : ScratchSpace) (scope : Addr) (receiver : Value) (source : List ℕ)
    → ComesTo receiver (evaluate p w x scope receiver source [] (this_made 0))
this-answer p w x scope receiver source =
    let c : World = copied_world w x in
    this-by (nat_le (length source) c.room.units) (length c.scratch)
    (record c {
      scratch = c.scratch ++ cells.Text source ∷ [];
      room = record { cells = c.room.cells; units = c.room.units - length source };
    })
    (with_source p x (this_made 0)) scope receiver

-- ---- the reply

pub by-handle : {A : Type 0} (b : Bool) (o : Option A) (m : A) → b ≡ false → (if b then o else Some m) ≡ Some m
by-handle true o m is = absurd cc
by-handle false o m is = refl

value-replied : (s : Situation) (x : Session) (ev : Asked) (e : Source) (v : Value) (w : World)
    → ev.return_by_value ≡ false
    → RepliesValue s x v ev (row_of (outcome_of_answer s x (showing_of ev) e (a_result v w)))
value-replied s x ev e v w plain =
    subst (λ o. RepliesValue s x v ev
    (row_of (answered_by value_result as_it_is (behind_value x (showing_of ev) e v w) o)))
    (sym (by-handle ev.return_by_value _
    (remote_with (sight_with s x (space_after w)) (detail_of ev.generate_preview) ev.object_group v x.handles) plain))
    (space_after w, refl)

answer-replied : (s : Situation) (x : Session) (ev : Asked) (e : Source) (v : Value) (a : Answer)
    → ev.return_by_value ≡ false
    → ComesTo v a
    → RepliesValue s x v ev (row_of (outcome_of_answer s x (showing_of ev) e a))
answer-replied s x ev e v a plain (inl is) =
    subst (λ b. RepliesValue s x v ev (row_of (outcome_of_answer s x (showing_of ev) e b))) (sym is) refl
answer-replied s x ev e v a plain (inr there) =
    subst (λ b. RepliesValue s x v ev (row_of (outcome_of_answer s x (showing_of ev) e b))) (sym there.1)
    (value-replied s x ev e v there.0 plain)

this-in : (s : Situation) (x : Session) (scope : Addr) (v : Value) (ev : Asked)
    → ev.return_by_value ≡ false
    → RepliesValue s x v ev (row_of (outcome_of_tree s x scope v (showing_of ev) ev.expression (Some trees.this)))
this-in s x scope v ev plain =
    subst (λ e. RepliesValue s x v ev (row_of (outcome_of_answer s x (showing_of ev) e
    (evaluate x.workspace.program s.standing.world x.workspace.scratch scope v ev.expression [] e))))
    (sym this-numbered)
    (answer-replied s x ev (this_made 0) v
    (evaluate x.workspace.program s.standing.world x.workspace.scratch scope v ev.expression [] (this_made 0)) plain
    (this-answer x.workspace.program s.standing.world x.workspace.scratch scope v ev.expression))

-- an evaluation without effects of a text that is this tree
pub of-tree : (s : Situation) (x : Session) (scope : Addr) (v : Value) (ev : Asked) (e : Expression)
    → ev.throw_on_side_effect ≡ true
    → expression_of ev.expression ≡ Some e
    → evaluates_in s x scope v ev ≡ outcome_of_tree s x scope v (showing_of ev) ev.expression (Some e)
of-tree s x scope v ev e pure is =
    ap (λ b. if b then outcome_of_tree s x scope v (showing_of ev) ev.expression (expression_of ev.expression)
    else Stops refusals.NeedsNoSideEffect) pure
    ∙ ap (outcome_of_tree s x scope v (showing_of ev) ev.expression) is

pub this-replied : (s : Situation) (x : Session) (p : Pause) (n : ℕ) (f : ShownFrame) (ev : Asked)
    → x.rules.enabled ≡ true → s.paused ≡ Some p → n < 2 ^ 64 → slice_get s.standing.frames n ≡ Some f
    → ev.throw_on_side_effect ≡ true → ev.return_by_value ≡ false → expression_of ev.expression ≡ Some trees.this
    → RepliesValue s x f.receiver ev
    (comes_to s x (params.EvaluateOnCallFrame (frame_id x.number p.number n) ev))
this-replied s x p n f ev enabled paused small there pure plain is =
    subst (RepliesValue s x f.receiver ev)
    (sym (comes-to-frame s x p n f ev enabled paused small there
    ∙ ap row_of (of-tree s x (innermost f.scopes) f.receiver ev trees.this pure is)))
    (this-in s x (innermost f.scopes) f.receiver ev plain)

-- ---- effects

outside-effect : (b : Bool) (s : State) (m : Move Term) → b ≡ true → (if b then has_effect s else m) ≡ has_effect s
outside-effect true s m is = refl
outside-effect false s m is = absurd cc

pub print-ends : (values : List Value) (text : List ℕ) (s : State)
    → is_evaluation s.world ≡ true
    → perform (print values text) s ≡ has_effect s
print-ends values text s is = outside-effect (is_evaluation s.world) s _ is

pub read-ends : (k : Option (List ℕ) → Action) (s : State)
    → is_evaluation s.world ≡ true
    → perform (take_line k) s ≡ has_effect s
read-ends k s is =
    outside-effect (is_evaluation s.world) s
    (perform (k (first_line s.input)) (record s { input = other_lines s.input })) is

-- a run that comes to a step with an effect within its bound ends there
effect-in : (b k j : ℕ) (p : Program) (scope : Addr) (r : Run) (t : Term) (s u : State)
    → b ≡ k + suc j
    → steps_in k p scope r ≡ running t s
    → next p scope t s ≡ has_effect u
    → answer_of (steps_in b p scope r) ≡ an_effect
effect-in b k j p scope r t s u bound there effect =
    ap (λ n. answer_of (steps_in n p scope r)) bound
    ∙ ap answer_of (steps-more k (suc j) p scope r)
    ∙ ap (λ q. answer_of (steps_in (suc j) p scope q)) there
    ∙ ap (λ m. answer_of (steps_in j p scope (run_after m))) effect
    ∙ ap answer_of (over-stays j p scope by_effect u)

within : (b k : ℕ) (p : Program) (scope : Addr) (r : Run) (t : Term) (s u : State)
    → k < b
    → steps_in k p scope r ≡ running t s
    → next p scope t s ≡ has_effect u
    → answer_of (steps_in b p scope r) ≡ an_effect
within b k p scope r t s u less there effect =
    effect-in b k (b - suc k) p scope r t s u (omega (arith, less)) there effect

pub effect-ends : (k : ℕ) (p : Program) (scope : Addr) (r : Run) (t : Term) (s u : State)
    → k < budget
    → steps_in k p scope r ≡ running t s
    → next p scope t s ≡ has_effect u
    → answer_of (steps_in budget p scope r) ≡ an_effect
effect-ends k p scope r t s u less there effect = within budget k p scope r t s u less there effect

pub effect-replied : (s : Situation) (x : Session) (ev : Asked) (e : Expression)
    → ev.throw_on_side_effect ≡ true
    → expression_of ev.expression ≡ Some e
    → answer_in s x script_scope values.Undefined ev.expression e ≡ an_effect
    → RepliesEffect (comes_to s x (params.Evaluate ev))
effect-replied s x ev e pure is effect =
    subst (λ o. RepliesEffect (row_of o))
    (sym (of-tree s x script_scope values.Undefined ev e pure is
    ∙ ap (outcome_of_answer s x (showing_of ev) (numbered_made e)) effect))
    ((refl, refl), (refl, refl))
