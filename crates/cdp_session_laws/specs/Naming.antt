-- The id by which a description names what it describes (Chrome DevTools Protocol 1.3, `Runtime.RemoteObject`).
use Rattle.std.specs.Prelude.{◌≡◌, ◌<◌, ◌^◌, ℕ, List, codes, true, false, Option, Some, None}
use Rattle.js_heap.specs.declared.value.Addr.{Addr}
use Rattle.js_heap.specs.declared.value.Value.{Value}
use Rattle.js_heap.specs.declared.value.Value.TheVariants as values
use Rattle.js_heap.specs.ScratchSpaces.{copied_world}
use Rattle.js_heap.specs.World.{World, read_cell}
use Rattle.js_heap_memory.specs.Overlays.{space_after}
use Rattle.js_tree.specs.Trees.{Expression}
use Rattle.js_parser.specs.Expressions.{expression_of}
use Rattle.js_semantics.specs.Evaluation.{a_result}
use Rattle.object_groups.specs.declared.handle.Target.{Target}
use Rattle.object_groups.specs.declared.handle.Target.TheVariants.{Object}
use Rattle.cdp_json.specs.Json.{Json, text}
use Rattle.object_groups.specs.Handles as handles
use Rattle.remote_objects.specs.Ids.{object_id}
use Rattle.remote_objects.specs.Making.{Made}
use Rattle.cdp_json.specs.declared.params.Evaluation.{Evaluation}
use Rattle.cdp_session.specs.Evaluations.{answer_in}
use Rattle.cdp_session.specs.Objects.{numbered}
use Rattle.cdp_session.specs.Rows.{Done, Row, Refuses, Does}
use Rattle.cdp_session.specs.Sessions.{Session}
use Rattle.cdp_session.specs.Situations.{Situation}
use Rattle.cdp_session_laws.specs.Members.{value_of}

-- a description for the session of this number names a target in a group or in none: it has the id of a handle, and
-- the handle that is then held by that number stands for the target
pub record IsNamed (session : ℕ) (target : Target) (group : Option (List ℕ)) (m : Made Json) : Type 0 where
  pub number : ℕ
  pub few : number < 2 ^ 64
  pub said : value_of (codes "objectId") m.made ≡ Some (text (object_id session number))
  pub found : numbered m.handles.held number ≡ Some (record { number = number; target = target; group = group })

-- it names nothing, and the handles are as before
pub record IsNameless (before : handles.HeldHandles) (m : Made Json) : Type 0 where
  pub said : value_of (codes "objectId") m.made ≡ None
  pub same : m.handles ≡ before

-- A reply describes an object, which an evaluation came to in a world, by an id by which the session then finds it, and
-- what it finds there is the cell of that world.
pub record NamesObject (s : Situation) (x : Session) (group : Option (List ℕ)) (a : Addr) (w : World) (done : Done)
    : Type 0 where
  pub described : Json
  pub result : value_of (codes "result") done.result ≡ Some described
  pub named : IsNamed x.number (Object a) group (record { made = described; handles = done.session.handles })
  pub session : done.session.number ≡ x.number
  pub cell : read_cell (copied_world s.standing.world done.session.workspace.scratch) a
      ≡ read_cell (copied_world s.standing.world (space_after w)) a

-- such a reply is given
abbrev pub RepliesObject : Situation → Session → Option (List ℕ) → Addr → World → Row → Type 0
RepliesObject s x group a w (Refuses why) = ⊥
RepliesObject s x group a w (Does done) = NamesObject s x group a w done

-- an evaluation without effects whose value is described with an id comes to this object
pub record ComesToObject (s : Situation) (x : Session) (scope : Addr) (receiver : Value) (ev : Evaluation) (a : Addr)
    (w : World) : Type 0 where
  pub pure : ev.throw_on_side_effect ≡ true
  pub with_id : ev.return_by_value ≡ false
  pub tree : Expression
  pub reads : expression_of ev.expression ≡ Some tree
  pub comes : answer_in s x scope receiver ev.expression tree ≡ a_result (values.Object a) w
