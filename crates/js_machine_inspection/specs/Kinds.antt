-- What is about to be reduced, as far as it says where a machine stands.
use Rattle.std.specs.Prelude.{ℕ, Bool, true, false, List, Option, Some, None, slice_get}
use Rattle.js_tree.specs.declared.node.Span.{Span}
use Rattle.js_semantics.specs.declared.form.Mark.{Mark}
use Rattle.js_semantics.specs.declared.form.Mark.TheVariants.{Start as start, BeforeEnd as before_end}
use Rattle.js_semantics.specs.declared.form.Form.{Form}
use Rattle.js_semantics.specs.declared.form.Form.TheVariants.{Script as script, Enter as enter, EnterDebugger as enter_debugger, EnterFor as enter_for, EnterForOf as enter_for_of, Frame as frame, Catching as catching, Call as call}
use Rattle.js_semantics.specs.Frames.{Active, reduces, call_arrival}
use Rattle.js_machine_nodes.specs.declared.op.Op.{Op}
use Rattle.js_machine_nodes.specs.declared.op.Op.TheVariants as ops
use Rattle.js_machine_nodes.specs.declared.node.ScriptEntry.{ScriptEntry}
use Rattle.js_machine_nodes.specs.declared.node.ForEntry.{ForEntry}
use Rattle.js_machine_nodes.specs.declared.node.ForOfEntry.{ForOfEntry}
use Rattle.js_machine_nodes.specs.declared.node.CallEntry.{CallEntry}
use Rattle.js_machine_nodes.specs.declared.table.NodeTable.{NodeTable}
use Rattle.js_machine_inspection.specs.declared.reducing.Reducing.{Reducing}

-- the form enters a statement, or a `debugger` statement, by its node; it is the body of a call, by its function's
-- node; a call, by its place and the node of its statement; a script, by its number; a `try` with a `catch`; or
-- anything else
pub data ActiveKind : Type 0 where
  entering : ℕ → ActiveKind
  debugging : ℕ → ActiveKind
  leaving : ℕ → ActiveKind
  calling : Mark → ℕ → ActiveKind
  opening : ℕ → ActiveKind
  guarding : ActiveKind
  plain : ActiveKind

-- the kind of a form
abbrev pub kind_of : Form → ActiveKind
kind_of (enter node) = entering node
kind_of (enter_debugger node) = debugging node
kind_of (enter_for node constant names) = entering node
kind_of (enter_for_of node b) = entering node
kind_of (frame node a) = leaving node
kind_of (call place node) = calling place node
kind_of (script number names) = opening number
kind_of (catching n) = guarding
kind_of f = plain

-- the kind of what is about to be reduced in a term
abbrev pub active_kind : Active → ActiveKind
active_kind (reduces f vs) = kind_of f
active_kind a = plain

-- ---- the kind of what a node or a task does

-- the kind of an untouched `for` with names, by its entry
abbrev pub for_kind : Option ForEntry → ActiveKind
for_kind (Some e) = entering e.node
for_kind None = plain

-- the kind of an untouched `for .. of`, by its entry
abbrev pub for_of_kind : Option ForOfEntry → ActiveKind
for_of_kind (Some e) = entering e.node
for_of_kind None = plain

-- the kind of a call, by its entry
abbrev pub call_kind : Option CallEntry → ActiveKind
call_kind (Some c) = calling c.place c.statement
call_kind None = plain

-- the kind of a script, by its entry
abbrev pub script_kind : Option ScriptEntry → ActiveKind
script_kind (Some e) = opening e.number
script_kind None = plain

-- the kind of what a node or a task does, with its number
abbrev pub op_kind : NodeTable → Op → ℕ → ActiveKind
op_kind t ops.Enter info = entering info
op_kind t ops.EnterDebugger info = debugging info
op_kind t ops.EnterFor info = for_kind (slice_get t.fors.items info)
op_kind t ops.EnterForOf info = for_of_kind (slice_get t.for_ofs.items info)
op_kind t ops.Frame info = leaving info
op_kind t ops.Call info = call_kind (slice_get t.calls.items info)
op_kind t ops.Script info = script_kind (slice_get t.scripts.items info)
op_kind t ops.Catching info = guarding
op_kind t ops.CatchingName info = guarding
op_kind t op info = plain

-- the kind of what a machine is about to reduce, if anything
abbrev pub reducing_kind : NodeTable → Option Reducing → ActiveKind
reducing_kind t None = plain
reducing_kind t (Some r) = op_kind t r.op r.info

-- ---- what it says

-- the place of an arrival, where what is of this kind is about to be reduced and the next step arrives
abbrev pub arrival_by : List Span → ActiveKind → Option Mark
arrival_by spans (entering node) = Some (start node)
arrival_by spans (debugging node) = Some (start node)
arrival_by spans (leaving node) = Some (before_end node 1)
arrival_by spans (calling place node) = call_arrival spans place node
arrival_by spans k = None

-- what a node does that is about to enter a `debugger` statement
abbrev pub enters_debugger : Op → Bool
enters_debugger ops.EnterDebugger = true
enters_debugger op = false

-- the number of the script
abbrev pub opened_by : ActiveKind → Option ℕ
opened_by (opening number) = Some number
opened_by k = None
