-- What a row answers.
use Rattle.std.specs.Prelude.{◌≡◌, ℕ, List, Option}
use Rattle.js_heap.specs.declared.value.Addr.{Addr}
use Rattle.js_heap.specs.declared.value.Value.{Value}
use Rattle.js_semantics.specs.declared.form.SourceMark.{SourceMark}
use Rattle.js_semantics.specs.declared.form.Completion.TheVariants.{Throws as throws}
use Rattle.js_semantics.specs.State.{State}
use Rattle.js_semantics.specs.Next.{scope_in}
use Rattle.js_semantics.specs.Rows.{row, taken}
use Rattle.js_machine_actions.specs.Flow.{performed}
use Rattle.js_machine_nodes.specs.declared.op.Op.{Op}
use Rattle.js_machine_nodes.specs.declared.op.Op.TheVariants as ops
use Rattle.js_machine_nodes.specs.declared.table.NodeTable.{NodeTable}
use Rattle.js_machine_nodes.specs.Trees.{program_of}
use Rattle.js_machine_engine.specs.declared.reduced.Reduced.{Reduced}
use Rattle.js_machine_engine.specs.declared.task.Extra.{Extra}
use Rattle.js_machine_engine.specs.declared.task.Redex.{Redex}
use Rattle.js_machine_engine.specs.Tasks.{Wide, task_form, later_of}
use Rattle.js_machine_engine.specs.Answers.{Reduces}

-- what is about to be reduced, as a task whose parts have these values
abbrev pub redex : Redex → List Value → Option Extra → Wide
redex r vs extra =
    record {
      op = r.op;
      info = r.info;
      at = r.mid;
      mid = r.mid;
      end = r.end;
      inner = r.inner;
      values = vs;
      extra = extra;
    }

-- where the form's parts are in its scope, the answer is its row's, from one state to another
abbrev pub RowOf : List (List ℕ) → NodeTable → Wide → Addr → State → Reduced → State → Type 0
RowOf ts t w outer s r u =
    scope_in (task_form ts t w) outer ≡ w.inner
    → Reduces ts t w (performed (row (program_of ts t) s outer (task_form ts t w) w.values (later_of ts t w)) s) r u

-- a `try` with its catch
abbrev pub IsCatching : Op → Type 0
IsCatching ops.Catching = Unit {0}
IsCatching ops.CatchingName = Unit {0}
IsCatching op = ⊥

-- the answer is what the form makes of a throw
abbrev pub CatchOf : List (List ℕ) → NodeTable → Wide → Addr → Value → SourceMark → State → Reduced → State → Type 0
CatchOf ts t w outer v place s r u =
    scope_in (task_form ts t w) outer ≡ w.inner
    → Reduces ts t w (performed (taken outer (task_form ts t w) (throws v place) (later_of ts t w)) s) r u
