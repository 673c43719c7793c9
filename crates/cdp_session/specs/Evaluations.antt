-- What an evaluation does to its session, and what it is answered with (Chrome DevTools Protocol 1.3,
-- `Runtime.evaluate` and `Debugger.evaluateOnCallFrame`).
use Rattle.std.specs.Prelude.{ℕ, ◌+◌, Bool, true, false, not, is_some, List, [], ◌∷◌, bytes_eq, if◌then◌else◌, ◌&&◌, Option, Some, None, option_map}
use Rattle.js_heap.specs.declared.value.Addr.{Addr}
use Rattle.js_heap.specs.declared.value.Addr.TheVariants.{Scratch}
use Rattle.js_heap.specs.declared.value.Value.{Value}
use Rattle.js_heap.specs.declared.value.Value.TheVariants as values
use Rattle.js_heap.specs.declared.change.Counted.{Counted}
use Rattle.js_heap.specs.declared.change.Counted.TheVariants as counted
use Rattle.js_heap.specs.BuiltIns.{script_scope}
use Rattle.js_heap.specs.ScratchSpaces.{ScratchSpace, copied_world}
use Rattle.js_heap.specs.World.{World, scratch_room}
use Rattle.js_tree.specs.declared.script.Script.{Script}
use Rattle.js_tree.specs.Trees.{Expression}
use Rattle.js_semantics.specs.Evaluation.{Answer, a_result, a_throw, an_effect, is_full_of, spent, evaluate}
use Rattle.js_semantics.specs.Literals.{expression_literals}
use Rattle.js_semantics.specs.Makers.{MadeExpression as Source}
use Rattle.js_parser_numbering.specs.Numbered.{numbered_made}
use Rattle.js_heap_memory.specs.Overlays.{Over, over_world, space_after}
use Rattle.js_parser.specs.Expressions.{expression_of}
use Rattle.js_parser.specs.NodeTexts.{node_text}
use Rattle.pure_eval.specs.Workspaces.{OpenWorkspace, with_evaluated}
use Rattle.frames_scopes_types.specs.Frames.{ShownFrame, ShownScope}
use Rattle.object_groups.specs.Handles as handles
use Rattle.object_groups.specs.Handles.{fault_of}
use Rattle.cdp_json.specs.Json.{Json}
use Rattle.cdp_json.specs.declared.params.Evaluation.{Evaluation}
use Rattle.cdp_json.specs.declared.refusal.Refusal.{Refusal}
use Rattle.cdp_json.specs.declared.refusal.Refusal.TheVariants as refusals
use Rattle.cdp_json.specs.declared.refusal.ScratchLimit.TheVariants as limits
use Rattle.remote_objects.specs.Ids.{frame_id}
use Rattle.remote_objects.specs.Making.{Made}
use Rattle.remote_objects.specs.ByValue.{remote_by_value}
use Rattle.remote_objects.specs.Remote.{remote_with}
use Rattle.remote_objects.specs.declared.detail.Detail.{Detail}
use Rattle.remote_objects.specs.declared.detail.Detail.TheVariants as previews
use Rattle.remote_objects.specs.Sights.{Sight}
use Rattle.remote_objects.specs.Views as views
use Rattle.remote_objects.specs.declared.describer.Describer.{Describer}
use Rattle.cdp_session_messages.specs.Exceptions.{effect_object, syntax_result, thrown_result, value_result}
use Rattle.cdp_session.specs.Sessions.{Session, with_handles, with_workspace, with_exception}
use Rattle.cdp_session.specs.Situations.{Situation}
use Rattle.cdp_session.specs.declared.showing.Showing.{Showing}
use Rattle.cdp_session.specs.declared.situation.Pause.{Pause}

-- ---- what is kept

-- whether objects are described with previews
abbrev pub detail_of : Bool → Detail
detail_of true = previews.Previewed
detail_of false = previews.Plain

-- how the value of an evaluation is to be described
abbrev pub showing_of : Evaluation → Showing
showing_of ev =
    record { group = ev.object_group; by_value = ev.return_by_value; detail = detail_of ev.generate_preview }

-- whether a reply that describes a value makes a handle on a cell of the session's: on an object there, unless as many
-- handles are held as may be
abbrev pub holds_on : Value → handles.HeldHandles → Bool
holds_on (values.Object (Scratch i)) h = not (is_some (fault_of h))
holds_on v h = false

-- the evaluation's cells and its source are kept where the reply holds on to one of the session's cells, and forgotten
-- else
abbrev pub kept_by : Bool → Source → World → Session → Session
kept_by true e w x = with_workspace (with_evaluated e w x.workspace) x
kept_by false e w x = x

-- ---- outcomes

-- what a method of evaluation comes to: a refusal, or a result with its session
pub data Evaluates : Type 0 where
  Stops : Refusal → Evaluates
  Answers : Json → Session → Evaluates

-- what values are described to the session by: the program's cells, and these of its evaluations, whose functions are
-- parts of the texts that were evaluated
abbrev pub sight_with : Situation → Session → ScratchSpace → Sight
sight_with s x scratch =
    record {
      node_text = node_text;
      world = copied_world s.standing.world scratch;
      scripts = s.scripts;
      session = x.number;
    }

-- what a describer over the cells of evaluations describes by, as it is lent
abbrev pub described_over : {S : Type 0} → Describer Over S → Sight
described_over d = views.sight_of node_text (over_world d.names.now d.world.now) d.scripts.now d.session

-- by value it has no handle
abbrev pub without_handle : handles.HeldHandles → Json → Made Json
without_handle h j = record { made = j; handles = h }

-- A value as it is described: by value, where it may be too long, or else with a handle in a group or in none.
abbrev pub described_as : Sight → Showing → Value → handles.HeldHandles → Option (Made Json)
described_as sight how v h =
    if how.by_value then option_map (without_handle h) (remote_by_value sight v) else Some
    (remote_with sight how.detail how.group v h)

-- a value to which an evaluation came in a world
abbrev pub described : Situation → Session → Showing → Value → World → Option (Made Json)
described s x how v w = described_as (sight_with s x (space_after w)) how v x.handles

-- whether a description that is asked for so makes a handle on a cell of the session's
abbrev pub keeps : Showing → Value → handles.HeldHandles → Bool
keeps how v h = not how.by_value && holds_on v h

-- the session behind an evaluation to this value over what was opened, but for its handles
abbrev pub left_by : OpenWorkspace → Showing → Value → Session → Session
left_by o how v x = with_workspace (if keeps how v x.handles then o.behind else o.before) x

-- a value to which an evaluation over what was opened came, as it is described
abbrev pub described_in : List Script → OpenWorkspace → Showing → Value → Session → Option (Made Json)
described_in scripts o how v x =
    described_as (views.sight_of node_text (copied_world o.world o.behind.scratch) scripts x.number) how v x.handles

-- the session behind an evaluation to this value, but for its handles
abbrev pub behind_value : Session → Showing → Source → Value → World → Session
behind_value x how e v w = kept_by (keeps how v x.handles) e w x

-- the answer that has what was described; what is too long is refused
abbrev pub answered_by : (Json → Json) → (Session → Session) → Session → Option (Made Json) → Evaluates
answered_by result leaves x None = Stops refusals.ReferenceChainTooLong
answered_by result leaves x (Some m) = Answers (result m.made) (leaves (with_handles m.handles x))

-- the limit that a full scratch names
abbrev pub limit_of : Counted → Refusal
limit_of counted.Cells = refusals.ScratchFull scratch_room.cells limits.Cells
limit_of counted.Units = refusals.ScratchFull scratch_room.units limits.Units

-- the session is as it is
abbrev pub as_it_is : Session → Session
as_it_is x = x

-- what an evaluation comes to for the session, by what it answered
abbrev pub outcome_of_answer : Situation → Session → Showing → Source → Answer → Evaluates
outcome_of_answer s x how e (a_result v w) =
    answered_by value_result as_it_is (behind_value x how e v w) (described s x how v w)
outcome_of_answer s x how e (a_throw v w) =
    answered_by (thrown_result (with_exception x).exceptions) with_exception (behind_value x how e v w)
    (described s x how v w)
outcome_of_answer s x how e an_effect =
    Answers (thrown_result (with_exception x).exceptions effect_object) (with_exception x)
outcome_of_answer s x how e (is_full_of what) = Stops (limit_of what)
outcome_of_answer s x how e spent = Stops refusals.BudgetSpent

-- the answer of the evaluation of a text, which is an expression of this tree, in a scope with a `this`
abbrev pub answer_in : Situation → Session → Addr → Value → List ℕ → Expression → Answer
answer_in s x scope receiver source e =
    evaluate x.workspace.program s.standing.world x.workspace.scratch scope receiver source (expression_literals e)
    (numbered_made e)

-- what the evaluation of a text comes to that is no expression
abbrev pub no_expression : Session → Evaluates
no_expression x = Answers (syntax_result (with_exception x).exceptions) (with_exception x)

-- what the evaluation of a text comes to, by its tree, if it has one
abbrev pub outcome_of_tree : Situation → Session → Addr → Value → Showing → List ℕ → Option Expression → Evaluates
outcome_of_tree s x scope receiver how source None = no_expression x
outcome_of_tree s x scope receiver how source (Some e) =
    outcome_of_answer s x how (numbered_made e) (answer_in s x scope receiver source e)

-- an evaluation is asked to have no effect, or it is refused
abbrev pub evaluates_in : Situation → Session → Addr → Value → Evaluation → Evaluates
evaluates_in s x scope receiver ev =
    if ev.throw_on_side_effect then outcome_of_tree s x scope receiver (showing_of ev) ev.expression
    (expression_of ev.expression)
    else Stops refusals.NeedsNoSideEffect

-- an evaluation in the scope of the scripts
abbrev pub evaluates : Situation → Session → Evaluation → Evaluates
evaluates s x ev = evaluates_in s x script_scope values.Undefined ev

-- ---- in a frame

-- the innermost of its scopes
abbrev pub innermost : List ShownScope → Addr
innermost [] = script_scope
innermost (scope ∷ scopes) = scope.bindings

-- the frame whose id this is, of frames outward from one that is so far from the top
abbrev pub frame_from : ℕ → ℕ → List ℕ → ℕ → List ShownFrame → Option ShownFrame
frame_from session stop id depth [] = None
frame_from session stop id depth (f ∷ fs) =
    if bytes_eq (frame_id session stop depth) id then Some f else frame_from session stop id (depth + 1) fs

-- a frame of the present stop by the id that the session knows it by
abbrev pub frame_of : Situation → Session → Option Pause → List ℕ → Option ShownFrame
frame_of s x None id = None
frame_of s x (Some p) id = frame_from x.number p.number id 0 s.standing.frames

-- in a frame, if the session knows one by that id
abbrev pub evaluates_at : Situation → Session → Option ShownFrame → Evaluation → Evaluates
evaluates_at s x None ev = Stops refusals.UnknownFrame
evaluates_at s x (Some f) ev = evaluates_in s x (innermost f.scopes) f.receiver ev
