-- The object of a reply is found by the id that the reply has.
use Rattle.std.proofs.Common.{◌≡◌, ℕ, ◌<◌, ◌^◌, Bool, true, false, not, is_some, ◌&&◌, refl, sym, ap, subst, ◌∙◌}
use Rattle.std.specs.Prelude.{slice_get, Some, None}
use Rattle.js_heap.specs.declared.value.Addr.{Addr}
use Rattle.js_heap.specs.declared.value.Addr.TheVariants.{Base, Scratch}
use Rattle.js_heap.specs.declared.value.Value.{Value}
use Rattle.js_heap.specs.declared.value.Value.TheVariants as values
use Rattle.js_heap.specs.BuiltIns.{script_scope}
use Rattle.js_heap.specs.ScratchSpaces.{copied_world}
use Rattle.js_heap.specs.World.{World, read_cell}
use Rattle.js_heap_memory.specs.Overlays.{space_after}
use Rattle.js_parser_numbering.specs.Numbered.{numbered_made}
use Rattle.js_semantics.specs.Evaluation.{a_result}
use Rattle.js_semantics.specs.Makers.{MadeExpression as Source}
use Rattle.object_groups.specs.Handles.{fault_of}
use Rattle.cdp_json.specs.Json.{Json}
use Rattle.cdp_json.specs.declared.params.Evaluation.{Evaluation as Asked}
use Rattle.cdp_json.specs.declared.params.Params.TheVariants as params
use Rattle.frames_scopes_types.specs.Frames.{ShownFrame}
use Rattle.remote_objects.specs.Ids.{frame_id}
use Rattle.remote_objects.specs.Making.{Made}
use Rattle.remote_objects.specs.Remote.{remote_with}
use Rattle.cdp_session_messages.specs.Exceptions.{value_result}
use Rattle.cdp_session.specs.Evaluations.{answered_by, as_it_is, behind_value, detail_of, evaluates_in, innermost, keeps, kept_by, outcome_of_answer, showing_of, sight_with}
use Rattle.cdp_session.specs.Replies.{comes_to}
use Rattle.cdp_session.specs.Rows.{row_of}
use Rattle.cdp_session.specs.Sessions.{Session}
use Rattle.cdp_session.specs.Situations.{Situation}
use Rattle.cdp_session.specs.declared.situation.Pause.{Pause}
use Rattle.cdp_session_laws.specs.Handles.{IsOrdered}
use Rattle.cdp_session_laws.specs.Naming.{ComesToObject, RepliesObject}
use Rattle.cdp_session_laws.proofs.NamingLemmas.{object-named}
use Rattle.cdp_session_laws.proofs.ReceiverLemmas.{by-handle, of-tree}
use Rattle.cdp_session_laws.proofs.TruthLemmas.{comes-to-frame}

-- ---- what is kept

kept-number : (b : Bool) (e : Source) (w : World) (x : Session) → (kept_by b e w x).number ≡ x.number
kept-number true e w x = refl
kept-number false e w x = refl

kept-cells : (b : Bool) (e : Source) (w : World) (x : Session)
    → b ≡ true
    → (kept_by b e w x).workspace.scratch ≡ space_after w
kept-cells true e w x is = refl
kept-cells false e w x is = absurd cc

-- an object on a cell of an evaluation is kept where a handle can be made
object-kept : (ev : Asked) (x : Session) (i : ℕ)
    → ev.return_by_value ≡ false
    → fault_of x.handles ≡ None
    → keeps (showing_of ev) (values.Object (Scratch i)) x.handles ≡ true
object-kept ev x i plain free =
    ap (λ b. not b && not (is_some (fault_of x.handles))) plain ∙ ap (λ o. not (is_some o)) free

-- so it is found in its cell
cell-kept : (s : Situation) (x : Session) (ev : Asked) (e : Source) (a : Addr) (w : World)
    → ev.return_by_value ≡ false
    → fault_of x.handles ≡ None
    → read_cell (copied_world s.standing.world
    (kept_by (keeps (showing_of ev) (values.Object a) x.handles) e w x).workspace.scratch) a
    ≡ read_cell (copied_world s.standing.world (space_after w)) a
cell-kept s x ev e (Base i) w plain free = refl
cell-kept s x ev e (Scratch i) w plain free =
    ap (λ space. read_cell (copied_world s.standing.world space) (Scratch i))
    (kept-cells (keeps (showing_of ev) (values.Object (Scratch i)) x.handles) e w x (object-kept ev x i plain free))

-- ---- replies

object-replied : (s : Situation) (x : Session) (ev : Asked) (e : Source) (a : Addr) (w : World)
    → IsOrdered x.handles
    → fault_of x.handles ≡ None
    → ev.return_by_value ≡ false
    → RepliesObject s x ev.object_group a w
    (row_of (outcome_of_answer s x (showing_of ev) e (a_result (values.Object a) w)))
object-replied s x ev e a w ordered free plain =
    let m : Made Json = remote_with (sight_with s x (space_after w)) (detail_of ev.generate_preview) ev.object_group
    (values.Object a) x.handles in
    subst (λ o. RepliesObject s x ev.object_group a w
    (row_of (answered_by value_result as_it_is (behind_value x (showing_of ev) e (values.Object a) w) o)))
    (sym (by-handle ev.return_by_value _ m plain))
    (record {
      described = m.made;
      result = refl;
      named = object-named (sight_with s x (space_after w)) (detail_of ev.generate_preview) ev.object_group a x.handles
          ordered free;
      session = kept-number (keeps (showing_of ev) (values.Object a) x.handles) e w x;
      cell = cell-kept s x ev e a w plain free;
    })

evaluation-replied : (s : Situation) (x : Session) (scope : Addr) (receiver : Value) (ev : Asked) (a : Addr) (w : World)
    → IsOrdered x.handles
    → fault_of x.handles ≡ None
    → ComesToObject s x scope receiver ev a w
    → RepliesObject s x ev.object_group a w (row_of (evaluates_in s x scope receiver ev))
evaluation-replied s x scope receiver ev a w ordered free c =
    subst (λ o. RepliesObject s x ev.object_group a w (row_of o))
    (sym (of-tree s x scope receiver ev c.tree c.pure c.reads
    ∙ ap (outcome_of_answer s x (showing_of ev) (numbered_made c.tree)) c.comes))
    (object-replied s x ev (numbered_made c.tree) a w ordered free c.with_id)

pub scripts-replied : (s : Situation) (x : Session) (ev : Asked) (a : Addr) (w : World)
    → IsOrdered x.handles
    → fault_of x.handles ≡ None
    → ComesToObject s x script_scope values.Undefined ev a w
    → RepliesObject s x ev.object_group a w (comes_to s x (params.Evaluate ev))
scripts-replied s x ev a w ordered free c =
    evaluation-replied s x script_scope values.Undefined ev a w ordered free c

pub frame-replied : (s : Situation) (x : Session) (p : Pause) (n : ℕ) (f : ShownFrame) (ev : Asked) (a : Addr)
    (w : World)
    → IsOrdered x.handles
    → fault_of x.handles ≡ None
    → x.rules.enabled ≡ true → s.paused ≡ Some p → n < 2 ^ 64 → slice_get s.standing.frames n ≡ Some f
    → ComesToObject s x (innermost f.scopes) f.receiver ev a w
    → RepliesObject s x ev.object_group a w
    (comes_to s x (params.EvaluateOnCallFrame (frame_id x.number p.number n) ev))
frame-replied s x p n f ev a w ordered free enabled paused small there c =
    subst (RepliesObject s x ev.object_group a w) (sym (comes-to-frame s x p n f ev enabled paused small there))
    (evaluation-replied s x (innermost f.scopes) f.receiver ev a w ordered free c)
