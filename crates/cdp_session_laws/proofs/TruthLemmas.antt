-- A condition against the reply to its evaluation.
use Rattle.std.proofs.Common.{◌≡◌, ℕ, zero, suc, ℤ, pos, negsuc, true, false, not, List, [], ◌∷◌, ◌++◌, ◌<◌, ◌^◌, is_some, refl, sym, ap, ◌∙◌, arith}
use Rattle.std.proofs.lemmas.Bool.Decides.{nat_tests}
use Rattle.std.specs.Prelude.{nat_eq, slice_get, if◌then◌else◌, Option, Some, None}
use Rattle.std.specs.Option.{option_map_or}
use Rattle.js_heap.specs.declared.cell.Cell.{Cell}
use Rattle.js_heap.specs.declared.cell.Cell.TheVariants as cells
use Rattle.js_heap.specs.declared.value.Value.{Value}
use Rattle.js_heap.specs.declared.value.Value.TheVariants as values
use Rattle.js_heap.specs.Values.{is_empty, is_truthy, is_zero, units_at}
use Rattle.js_heap.specs.World.{read_cell}
use Rattle.js_heap_memory.specs.Overlays.{space_after}
use Rattle.js_tree.specs.Trees.{Expression}
use Rattle.js_parser.specs.Expressions.{expression_of}
use Rattle.js_parser_numbering.specs.Numbered.{numbered_made}
use Rattle.js_semantics.specs.Evaluation.{Answer, a_result, a_throw, an_effect, is_full_of, spent}
use Rattle.js_semantics.specs.Makers.{MadeExpression as Source}
use Rattle.object_groups.specs.Handles.{HeldHandles, fault_of}
use Rattle.cdp_json.specs.Parts.{object_of}
use Rattle.cdp_json.specs.declared.params.Evaluation.{Evaluation}
use Rattle.cdp_json.specs.declared.params.Params.TheVariants as params
use Rattle.cdp_json.specs.declared.refusal.Refusal.TheVariants as refusals
use Rattle.frames_scopes_types.specs.Frames.{ShownFrame}
use Rattle.remote_objects.specs.Ids.{frame_id}
use Rattle.remote_objects.specs.Making.{id_pairs, number_by}
use Rattle.remote_objects.specs.Remote.{remote}
use Rattle.remote_objects.specs.Sights.{Sight}
use Rattle.remote_objects.specs.Values.{cell_pairs}
use Rattle.cdp_session.specs.Conditions.{comes_true, condition_holds, holds, tree_holds}
use Rattle.cdp_session.specs.Evaluations.{answer_in, evaluates_at, frame_of, innermost, outcome_of_answer, outcome_of_tree, showing_of, sight_with}
use Rattle.cdp_session.specs.Replies.{comes_to, refusal_of}
use Rattle.cdp_session.specs.Rows.{Refuses, row, row_of}
use Rattle.cdp_session.specs.Sessions.{Session}
use Rattle.cdp_session.specs.Situations.{Situation}
use Rattle.cdp_session.specs.declared.situation.Pause.{Pause}
use Rattle.cdp_session_laws.specs.Truth.{asked, has_units, is_other_than_0, reply_is_true, shows_true}
use Rattle.cdp_session_laws.proofs.IdLemmas.{frame-found}

-- ---- values

number-true : (z : ℤ) → not (is_zero z) ≡ is_other_than_0 z
number-true (pos zero) = refl
number-true (pos (suc n)) =
    let other : nat_eq (suc n) 0 ≡ false = grind (arith, nat_tests) in
    ap not other
number-true (negsuc n) = refl

text-true : (us : List ℕ) → not (is_empty us) ≡ has_units us
text-true [] = refl
text-true (u ∷ us) = refl

-- an object has no member `value`, whatever its cell is and whether it has a handle
object-true : (s : Sight) (o : Option Cell) (session : ℕ) (n : Option ℕ)
    → true ≡ shows_true (Some (object_of (cell_pairs s o ++ id_pairs session n)))
object-true s None session None = refl
object-true s None session (Some n) = refl
object-true s (Some (cells.Object ps)) session None = refl
object-true s (Some (cells.Object ps)) session (Some n) = refl
object-true s (Some (cells.Error class ps)) session None = refl
object-true s (Some (cells.Error class ps)) session (Some n) = refl
object-true s (Some (cells.Array vs)) session None = refl
object-true s (Some (cells.Array vs)) session (Some n) = refl
object-true s (Some (cells.Function code name len scope receiver)) session None = refl
object-true s (Some (cells.Function code name len scope receiver)) session (Some n) = refl
object-true s (Some (cells.Text us)) session None = refl
object-true s (Some (cells.Text us)) session (Some n) = refl
object-true s (Some (cells.Bindings kind name outer names)) session None = refl
object-true s (Some (cells.Bindings kind name outer names)) session (Some n) = refl

value-true : (s : Sight) (g : Option (List ℕ)) (v : Value) (h : HeldHandles)
    → is_truthy s.world v ≡ shows_true (Some (remote s g v h).made)
value-true s g values.Undefined h = refl
value-true s g values.Null h = refl
value-true s g (values.Bool b) h = refl
value-true s g (values.Number z) h = number-true z
value-true s g (values.Text a) h = text-true (units_at s.world a)
value-true s g (values.Object a) h =
    object-true s (read_cell s.world a) s.session (number_by (fault_of h) h)

-- ---- answers

answer-true : (s : Situation) (x : Session) (source : List ℕ) (g : Option (List ℕ)) (e : Source) (a : Answer)
    → comes_true s.standing.world a ≡ reply_is_true
    (row_of (outcome_of_answer s x (showing_of (asked source g)) e a))
answer-true s x source g e (a_result v w) = value-true (sight_with s x (space_after w)) g v x.handles
answer-true s x source g e (a_throw v w) = refl
answer-true s x source g e an_effect = refl
answer-true s x source g e (is_full_of what) = refl
answer-true s x source g e spent = refl

-- by the tree of the text, in a frame that is the top one
tree-true : (s : Situation) (x : Session) (source : List ℕ) (g : Option (List ℕ)) (f : ShownFrame)
    (fs : List ShownFrame) (o : Option Expression)
    → tree_holds (record s.standing { frames = f ∷ fs }) x.workspace source o
    ≡ reply_is_true
    (row_of (outcome_of_tree s x (innermost f.scopes) f.receiver (showing_of (asked source g)) source o))
tree-true s x source g f fs None = refl
tree-true s x source g f fs (Some e) =
    answer-true s x source g (numbered_made e) (answer_in s x (innermost f.scopes) f.receiver source e)

-- ---- the command

-- nothing refuses it before its row
not-before : (s : Situation) (x : Session) (p : Pause) (id : List ℕ) (ev : Evaluation)
    → x.rules.enabled ≡ true
    → s.paused ≡ Some p
    → refusal_of s x (params.EvaluateOnCallFrame id ev) ≡ None
not-before s x p id ev enabled paused =
    ap (λ b. if not b then Some refusals.NotEnabled else if not (is_some s.paused)
    then Some refusals.NotPaused else None)
    enabled
    ∙ ap (λ o. if not (is_some o) then Some refusals.NotPaused else None) paused

-- an evaluation in a frame of the present stop comes to what its evaluation comes to there
pub comes-to-frame : (s : Situation) (x : Session) (p : Pause) (n : ℕ) (f : ShownFrame) (ev : Evaluation)
    → x.rules.enabled ≡ true
    → s.paused ≡ Some p
    → n < 2 ^ 64
    → slice_get s.standing.frames n ≡ Some f
    → comes_to s x (params.EvaluateOnCallFrame (frame_id x.number p.number n) ev)
    ≡ row_of (evaluates_at s x (Some f) ev)
comes-to-frame s x p n f ev enabled paused small there =
    let id : List ℕ = frame_id x.number p.number n in
    ap (λ o. option_map_or Refuses o (row s x (params.EvaluateOnCallFrame id ev)))
    (not-before s x p id ev enabled paused)
    ∙ ap (λ o. row_of (evaluates_at s x (frame_of s x o id) ev)) paused
    ∙ ap (λ o. row_of (evaluates_at s x o ev)) (frame-found s x p n small ∙ there)

holds-as : (s : Situation) (x : Session) (source : List ℕ) (g : Option (List ℕ)) (f : ShownFrame)
    (fs : List ShownFrame)
    → s.standing.frames ≡ f ∷ fs
    → holds s.standing x.workspace source
    ≡ reply_is_true (row_of (evaluates_at s x (Some f) (asked source g)))
unfolding holds
holds-as s x source g f fs frames =
    ap (λ k. tree_holds (record s.standing { frames = k }) x.workspace source (expression_of source)) frames
    ∙ tree-true s x source g f fs (expression_of source)

pub condition-true : (s : Situation) (x : Session) (p : Pause) (source : List ℕ) (g : Option (List ℕ))
    (f : ShownFrame) (fs : List ShownFrame)
    → x.rules.enabled ≡ true → s.paused ≡ Some p → s.standing.frames ≡ f ∷ fs
    → condition_holds s.standing x.workspace (Some source)
    ≡ reply_is_true
    (comes_to s x (params.EvaluateOnCallFrame (frame_id x.number p.number 0) (asked source g)))
condition-true s x p source g f fs enabled paused frames =
    holds-as s x source g f fs frames
    ∙ ap reply_is_true (sym (comes-to-frame s x p 0 f (asked source g) enabled paused (omega arith)
    (ap (λ k. slice_get k 0) frames)))
