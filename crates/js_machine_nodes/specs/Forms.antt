-- The forms that nodes stand for, with a table of names.
use Rattle.std.specs.Prelude.{ℕ, List, [], ◌∷◌, map, Option, Some, None, slice_get}
use Rattle.js_semantics.specs.declared.form.Reference.TheVariants.{Name as to_name, Member as to_member, Index as to_index}
use Rattle.js_semantics.specs.declared.form.FunctionForm.{FunctionForm}
use Rattle.js_semantics.specs.declared.form.Member.{Member}
use Rattle.js_semantics.specs.declared.form.Member.TheVariants.{Keyed as keyed, Computed as computed}
use Rattle.js_semantics.specs.declared.form.Stage.TheVariants.{First as first, Doing as doing, Testing as testing, Body as body, Updating as updating}
use Rattle.js_semantics.specs.declared.form.Form.{Form}
use Rattle.js_semantics.specs.declared.form.Form.TheVariants.{Scripts as scripts, Script as script, Sequence as sequence, Enter as enter, EnterDebugger as enter_debugger, EnterFor as enter_for, EnterForOf as enter_for_of, Block as block, Initialize as initialize, Choose as choose, Both as both, Either as either, Loop as loop, ListOf as list_of, TurnOf as turn_of, BodyOf as body_of, Break as break_, Continue as continue_, Return as return_, Throw as throw_, Catching as catching, Finishing as finishing, Ending as ending, This as this, Read as read, TypeofName as typeof_name, Unary as unary, Binary as binary, Comma as comma, Function as function, Array as array, Object as object, Method as method, Assign as assign, Compound as compound, Update as update, Delete as delete, Call as call, CallOf as call_of}
use Rattle.js_heap_memory.specs.Names.{name_of}
use Rattle.js_heap_memory.specs.Cells.{binding_at, bindings, texts_of}
use Rattle.js_machine_nodes.specs.declared.op.Op.{Op}
use Rattle.js_machine_nodes.specs.declared.op.Op.TheVariants as ops
use Rattle.js_machine_nodes.specs.declared.node.ScriptEntry.{ScriptEntry}
use Rattle.js_machine_nodes.specs.declared.node.ForEntry.{ForEntry}
use Rattle.js_machine_nodes.specs.declared.node.ForOfEntry.{ForOfEntry}
use Rattle.js_machine_nodes.specs.declared.node.CallEntry.{CallEntry}
use Rattle.js_machine_nodes.specs.declared.node.MemberEntry.{MemberEntry}
use Rattle.js_machine_nodes.specs.declared.node.MemberEntry.TheVariants as members
use Rattle.js_machine_nodes.specs.declared.node.FunctionEntry.{FunctionEntry}
use Rattle.js_heap_memory.specs.declared.stored.Slot.{Slot}
use Rattle.js_machine_nodes.specs.declared.table.NodeTable.{NodeTable}
use Rattle.js_machine_nodes.specs.Ops.{operator_of, is_prefix}

-- ---- entries

-- a member of an object literal, by its entry
abbrev pub member_of : List (List ℕ) → MemberEntry → Member
member_of ts (members.Keyed n) = keyed (name_of ts n.number)
member_of ts members.Computed = computed

-- the members of an object literal, by their entries
abbrev pub members_of : List (List ℕ) → List MemberEntry → List Member
members_of ts [] = []
members_of ts (m ∷ ms) = member_of ts m ∷ members_of ts ms

-- a function's form, by its entry
abbrev pub function_of : List (List ℕ) → FunctionEntry → FunctionForm
function_of ts f =
    record {
      code = f.code;
      node = f.node;
      name = name_of ts f.name.number;
      parameters = texts_of ts f.parameters.items;
      names = bindings ts f.names;
      is_arrow = f.is_arrow;
      is_named = f.is_named;
    }

-- ---- forms; a number that names no entry gives the form `this`

-- a script with its names
abbrev pub script_form : List (List ℕ) → Option ScriptEntry → Form
script_form ts (Some e) = script e.number (bindings ts e.names)
script_form ts None = this

-- an untouched `for` with names
abbrev pub for_form : List (List ℕ) → Option ForEntry → Form
for_form ts (Some e) = enter_for e.node e.constant (bindings ts e.names)
for_form ts None = this

-- an untouched `for .. of`
abbrev pub for_of_form : List (List ℕ) → Option ForOfEntry → Form
for_of_form ts (Some e) = enter_for_of e.node (binding_at ts e.slot)
for_of_form ts None = this

-- the list of a `for .. of`
abbrev pub list_form : List (List ℕ) → Option ForOfEntry → Form
list_form ts (Some e) = list_of (binding_at ts e.slot)
list_form ts None = this

-- a `for .. of` before the turn of this index
abbrev pub turn_form : List (List ℕ) → Option ForOfEntry → ℕ → Form
turn_form ts (Some e) i = turn_of (binding_at ts e.slot) i
turn_form ts None i = this

-- a `for .. of` in the turn before this index
abbrev pub body_form : List (List ℕ) → Option ForOfEntry → ℕ → Form
body_form ts (Some e) i = body_of (binding_at ts e.slot) i
body_form ts None i = this

-- an untouched block with its names
abbrev pub block_form : List (List ℕ) → Option (List Slot) → Form
block_form ts (Some names) = block (bindings ts names)
block_form ts None = this

-- a function
abbrev pub function_form : List (List ℕ) → Option FunctionEntry → Form
function_form ts (Some f) = function (function_of ts f)
function_form ts None = this

-- a method with a computed key
abbrev pub method_form : List (List ℕ) → Option FunctionEntry → Form
method_form ts (Some f) = method (function_of ts f)
method_form ts None = this

-- an object literal with its members
abbrev pub object_form : List (List ℕ) → Option (List MemberEntry) → Form
object_form ts (Some ms) = object (members_of ts ms)
object_form ts None = this

-- the members of an object literal
abbrev pub members_at : NodeTable → ℕ → Option (List MemberEntry)
members_at t n = slice_get (map (λ ms. ms.items) t.objects.items) n

-- a call
abbrev pub call_form : Option CallEntry → Form
call_form (Some c) = call c.place c.statement
call_form None = this

-- a call whose callee is a name
abbrev pub name_call_form : List (List ℕ) → Option CallEntry → Form
name_call_form ts (Some c) = call_of (to_name (name_of ts c.name.number)) c.place c.statement
name_call_form ts None = this

-- a call whose callee is a property with a fixed key
abbrev pub member_call_form : List (List ℕ) → Option CallEntry → Form
member_call_form ts (Some c) = call_of (to_member (name_of ts c.name.number)) c.place c.statement
member_call_form ts None = this

-- a call whose callee is a property with a computed key
abbrev pub index_call_form : Option CallEntry → Form
index_call_form (Some c) = call_of to_index c.place c.statement
index_call_form None = this

-- the form of what a node does; what comes up in a run alone has its form from its task
unfoldable pub form_of : List (List ℕ) → NodeTable → Op → ℕ → Form
form_of ts t ops.Literal info = this
form_of ts t ops.Scripts info = scripts
form_of ts t ops.Script info = script_form ts (slice_get t.scripts.items info)
form_of ts t ops.Sequence info = sequence
form_of ts t ops.Enter info = enter info
form_of ts t ops.EnterDebugger info = enter_debugger info
form_of ts t ops.EnterFor info = for_form ts (slice_get t.fors.items info)
form_of ts t ops.EnterForOf info = for_of_form ts (slice_get t.for_ofs.items info)
form_of ts t ops.Block info = block_form ts (slice_get t.blocks.items info)
form_of ts t ops.Scoped info = this
form_of ts t ops.Frame info = this
form_of ts t ops.Initialize info = initialize (name_of ts info)
form_of ts t ops.Choose info = choose
form_of ts t ops.Both info = both
form_of ts t ops.Either info = either
form_of ts t ops.LoopFirst info = loop first None
form_of ts t ops.LoopDoing info = loop doing None
form_of ts t ops.LoopTesting info = loop testing None
form_of ts t ops.LoopBody info = loop body None
form_of ts t ops.LoopUpdating info = loop updating None
form_of ts t ops.ListOf info = list_form ts (slice_get t.for_ofs.items info)
form_of ts t ops.TurnOf info = this
form_of ts t ops.BodyOf info = this
form_of ts t ops.Break info = break_
form_of ts t ops.Continue info = continue_
form_of ts t ops.Return info = return_
form_of ts t ops.Throw info = throw_ info
form_of ts t ops.Catching info = catching None
form_of ts t ops.CatchingName info = catching (Some (name_of ts info))
form_of ts t ops.Finishing info = finishing
form_of ts t ops.Ending info = ending None
form_of ts t ops.This info = this
form_of ts t ops.ReadName info = read (to_name (name_of ts info))
form_of ts t ops.ReadMember info = read (to_member (name_of ts info))
form_of ts t ops.ReadIndex info = read to_index
form_of ts t ops.TypeofName info = typeof_name (name_of ts info)
form_of ts t (ops.Unary o) info = unary o
form_of ts t (ops.Binary o) info = binary o
form_of ts t ops.Comma info = comma
form_of ts t ops.Function info = function_form ts (slice_get t.functions.items info)
form_of ts t ops.Method info = method_form ts (slice_get t.functions.items info)
form_of ts t ops.Array info = array
form_of ts t ops.Object info = object_form ts (members_at t info)
form_of ts t ops.ObjectRest info = this
form_of ts t ops.AssignName info = assign (to_name (name_of ts info))
form_of ts t ops.AssignMember info = assign (to_member (name_of ts info))
form_of ts t ops.AssignIndex info = assign to_index
form_of ts t (ops.CompoundName o) info = compound o (to_name (name_of ts info))
form_of ts t (ops.CompoundMember o) info = compound o (to_member (name_of ts info))
form_of ts t (ops.CompoundIndex o) info = compound o to_index
form_of ts t (ops.UpdateName k) info = update (operator_of k) (is_prefix k) (to_name (name_of ts info))
form_of ts t (ops.UpdateMember k) info = update (operator_of k) (is_prefix k) (to_member (name_of ts info))
form_of ts t (ops.UpdateIndex k) info = update (operator_of k) (is_prefix k) to_index
form_of ts t ops.DeleteName info = delete (to_name (name_of ts info))
form_of ts t ops.DeleteMember info = delete (to_member (name_of ts info))
form_of ts t ops.DeleteIndex info = delete to_index
form_of ts t ops.Call info = call_form (slice_get t.calls.items info)
form_of ts t ops.CallOfName info = name_call_form ts (slice_get t.calls.items info)
form_of ts t ops.CallOfMember info = member_call_form ts (slice_get t.calls.items info)
form_of ts t ops.CallOfIndex info = index_call_form (slice_get t.calls.items info)
