-- Tasks: forms of which a part is being reduced, each with the values of the parts before it.
use Rattle.std.specs.Prelude.{◌≡◌, ℕ, List, [], ◌∷◌, Option, Some, None, slice_get, nat_eq, if◌then◌else◌}
use Rattle.js_heap.specs.declared.value.Addr.{Addr}
use Rattle.js_heap.specs.declared.value.Value.{Value}
use Rattle.js_semantics.specs.declared.form.Completion.{Completion}
use Rattle.js_semantics.specs.declared.form.Stage.TheVariants as stages
use Rattle.js_semantics.specs.declared.form.Form.{Form}
use Rattle.js_semantics.specs.declared.form.Form.TheVariants.{Scoped as scoped, Frame as frame, Loop as loop, Ending as ending}
use Rattle.js_semantics.specs.Terms.{Term, done, part, Terms, more, dones}
use Rattle.js_semantics.specs.Next.{scope_in}
use Rattle.js_machine_nodes.specs.declared.op.Op.{Op}
use Rattle.js_machine_nodes.specs.declared.op.Op.TheVariants as ops
use Rattle.js_machine_nodes.specs.declared.table.NodeTable.{NodeTable}
use Rattle.js_machine_nodes.specs.Forms.{form_of, members_at, object_form, turn_form, body_form}
use Rattle.js_machine_nodes.specs.Trees.{trees}
use Rattle.js_machine_engine.specs.declared.task.Extra.{Extra}
use Rattle.js_machine_engine.specs.declared.task.Extra.TheVariants as extras
use Rattle.js_machine_engine.specs.Gaps.{Gap}

-- A task with its own values: its parts up to `at` are reduced or in the gap, those from `at` to `mid` come, those from
-- `mid` to `end` are kept. `inner` is the scope in which its parts are. An ending keeps a completion, a `for .. of` its
-- list and index, an object literal where its kept parts begin.
pub record Wide : Type 0 where
  pub op : Op
  pub info : ℕ
  pub at : ℕ
  pub mid : ℕ
  pub end : ℕ
  pub inner : Addr
  pub values : List Value
  pub extra : Option Extra

-- ---- forms

-- the scope of a loop's present turn, where it has one
abbrev pub turn_scope : ℕ → Addr → Option Addr
turn_scope info inner = if nat_eq info 0 then None else Some inner

-- the completion that a `finally` keeps, if it keeps one
abbrev pub kept_of : Option Extra → Option Completion
kept_of (Some (extras.Kept c)) = Some c
kept_of _ = None

-- the index of a `for .. of`; 0 of all else
abbrev pub index_of : Option Extra → ℕ
index_of (Some (extras.Turn list i)) = i
index_of _ = 0

-- the form of a task, by its scope and what it keeps
abbrev pub form_in : List (List ℕ) → NodeTable → Op → ℕ → Addr → Option Extra → Form
form_in ts t ops.Scoped info inner extra = scoped inner
form_in ts t ops.Frame info inner extra = frame info inner
form_in ts t ops.LoopFirst info inner extra = loop stages.First (turn_scope info inner)
form_in ts t ops.LoopDoing info inner extra = loop stages.Doing (turn_scope info inner)
form_in ts t ops.LoopTesting info inner extra = loop stages.Testing (turn_scope info inner)
form_in ts t ops.LoopBody info inner extra = loop stages.Body (turn_scope info inner)
form_in ts t ops.LoopUpdating info inner extra = loop stages.Updating (turn_scope info inner)
form_in ts t ops.TurnOf info inner extra = turn_form ts (slice_get t.for_ofs.items info) (index_of extra)
form_in ts t ops.BodyOf info inner extra = body_form ts (slice_get t.for_ofs.items info) (index_of extra)
form_in ts t ops.Ending info inner extra = ending (kept_of extra)
form_in ts t ops.ObjectRest info inner extra = object_form ts (members_at t info)
form_in ts t op info inner extra = form_of ts t op info

-- the form that a task stands for
unfoldable pub task_form : List (List ℕ) → NodeTable → Wide → Form
task_form ts t w = form_in ts t w.op w.info w.inner w.extra

-- ---- parts

-- where the kept parts of a task begin
abbrev pub kept_from : Option Extra → ℕ → ℕ
kept_from (Some (extras.Rest from)) mid = from
kept_from _ mid = mid

-- in front of the kept parts a `for .. of` has its list
abbrev pub with_list : Option Extra → Terms → Terms
with_list (Some (extras.Turn list i)) later = more (done list) later
with_list _ later = later

-- the parts that a task keeps for later
abbrev pub later_of : List (List ℕ) → NodeTable → Wide → Terms
later_of ts t w = with_list w.extra (trees ts t (kept_from w.extra w.mid) w.end)

-- a task as a form with a gap before the parts that come
abbrev pub gap_of : List (List ℕ) → NodeTable → Wide → Gap
gap_of ts t w =
    record { form = task_form ts t w; before = w.values; after = trees ts t w.at w.mid; later = later_of ts t w }

-- tasks as forms with gaps, from the innermost one
abbrev pub gaps_of : List (List ℕ) → NodeTable → List Wide → List Gap
gaps_of ts t [] = []
gaps_of ts t (w ∷ ws) = gap_of ts t w ∷ gaps_of ts t ws

-- a task all of whose parts are values, which waits for its row
abbrev pub redex_of : List (List ℕ) → NodeTable → Wide → Term
redex_of ts t w = part (task_form ts t w) (dones w.values) (later_of ts t w)

-- ---- scopes: each task has the scope in which its parts are; the scope around all tasks is that of the scripts

-- the scope of the innermost task's parts; where there is no task, the scope around all
abbrev pub scope_of : Addr → List Wide → Addr
scope_of root [] = root
scope_of root (w ∷ ws) = w.inner

-- for any table of names, since scopes don't depend on it
abbrev pub InScopes : NodeTable → Addr → List Wide → Type 0
InScopes t root [] = Unit {0}
InScopes t root (w ∷ ws) =
    ((ts : List (List ℕ)) → scope_in (task_form ts t w) (scope_of root ws) ≡ w.inner) × InScopes t root ws
