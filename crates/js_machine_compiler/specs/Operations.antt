-- The forms of operations that need no entry of their own.
use Rattle.std.specs.Prelude.{ℕ, Bool, true, false, List, Option, None, Some}
use Rattle.js_heap.specs.declared.value.Addr.{Addr}
use Rattle.js_semantics.specs.declared.form.Stage.{Stage}
use Rattle.js_semantics.specs.declared.form.Form.{Form}
use Rattle.js_semantics.specs.declared.form.Form.TheVariants.{Scripts as scripts, Sequence as sequence, Enter as enter, EnterDebugger as enter_debugger, Initialize as initialize, Choose as choose, Both as both, Either as either, Loop as loop, Break as break_, Continue as continue_, Return as return_, Throw as throw_, Catching as catching, Finishing as finishing, This as this, Read as read, TypeofName as typeof_name, Unary as unary, Binary as binary, Comma as comma, Array as array, Assign as assign, Compound as compound, Update as update, Delete as delete}
use Rattle.js_semantics.specs.declared.form.Reference.TheVariants.{Name as to_name, Member as to_member, Index as to_index}
use Rattle.js_semantics.specs.declared.form.Stage.TheVariants.{First as first, Doing as doing, Testing as testing, Body as body, Updating as updating}
use Rattle.js_machine_nodes.specs.declared.op.Op.{Op}
use Rattle.js_machine_nodes.specs.declared.op.Op.TheVariants as ops
use Rattle.js_machine_nodes.specs.Ops.{operator_of, is_prefix}
use Rattle.js_machine_compiler.specs.declared.nodes.Instruction.{Instruction}

-- what needs no number
abbrev pub is_bare : Op → Bool
is_bare ops.Scripts = true
is_bare ops.Sequence = true
is_bare ops.Choose = true
is_bare ops.Both = true
is_bare ops.Either = true
is_bare ops.LoopFirst = true
is_bare ops.LoopDoing = true
is_bare ops.LoopTesting = true
is_bare ops.LoopBody = true
is_bare ops.LoopUpdating = true
is_bare ops.Break = true
is_bare ops.Continue = true
is_bare ops.Return = true
is_bare ops.Catching = true
is_bare ops.Finishing = true
is_bare ops.This = true
is_bare ops.ReadIndex = true
is_bare (ops.Unary o) = true
is_bare (ops.Binary o) = true
is_bare ops.Comma = true
is_bare ops.Array = true
is_bare ops.AssignIndex = true
is_bare (ops.CompoundIndex o) = true
is_bare (ops.UpdateIndex k) = true
is_bare ops.DeleteIndex = true
is_bare op = false

-- the form of what needs no number
abbrev pub bare_form : Op → Form
bare_form ops.Scripts = scripts
bare_form ops.Sequence = sequence
bare_form ops.Choose = choose
bare_form ops.Both = both
bare_form ops.Either = either
bare_form ops.LoopFirst = loop first None
bare_form ops.LoopDoing = loop doing None
bare_form ops.LoopTesting = loop testing None
bare_form ops.LoopBody = loop body None
bare_form ops.LoopUpdating = loop updating None
bare_form ops.Break = break_
bare_form ops.Continue = continue_
bare_form ops.Return = return_
bare_form ops.Catching = catching None
bare_form ops.Finishing = finishing
bare_form ops.ReadIndex = read to_index
bare_form (ops.Unary o) = unary o
bare_form (ops.Binary o) = binary o
bare_form ops.Comma = comma
bare_form ops.Array = array
bare_form ops.AssignIndex = assign to_index
bare_form (ops.CompoundIndex o) = compound o to_index
bare_form (ops.UpdateIndex k) = update (operator_of k) (is_prefix k) to_index
bare_form ops.DeleteIndex = delete to_index
bare_form op = this

-- what has the number of a node of its source
abbrev pub is_placed : Op → Bool
is_placed ops.Enter = true
is_placed ops.EnterDebugger = true
is_placed ops.Throw = true
is_placed op = false

-- the form of what has the number of a node
abbrev pub placed_form : Op → ℕ → Form
placed_form ops.Enter node = enter node
placed_form ops.EnterDebugger node = enter_debugger node
placed_form ops.Throw node = throw_ node
placed_form op node = this

-- what has the number of a name
abbrev pub is_named : Op → Bool
is_named ops.Initialize = true
is_named ops.CatchingName = true
is_named ops.ReadName = true
is_named ops.ReadMember = true
is_named ops.TypeofName = true
is_named ops.AssignName = true
is_named ops.AssignMember = true
is_named (ops.CompoundName o) = true
is_named (ops.CompoundMember o) = true
is_named (ops.UpdateName k) = true
is_named (ops.UpdateMember k) = true
is_named ops.DeleteName = true
is_named ops.DeleteMember = true
is_named op = false

-- the form of what has the number of this name
abbrev pub named_form : Op → List ℕ → Form
named_form ops.Initialize name = initialize name
named_form ops.CatchingName name = catching (Some name)
named_form ops.ReadName name = read (to_name name)
named_form ops.ReadMember name = read (to_member name)
named_form ops.TypeofName name = typeof_name name
named_form ops.AssignName name = assign (to_name name)
named_form ops.AssignMember name = assign (to_member name)
named_form (ops.CompoundName o) name = compound o (to_name name)
named_form (ops.CompoundMember o) name = compound o (to_member name)
named_form (ops.UpdateName k) name = update (operator_of k) (is_prefix k) (to_name name)
named_form (ops.UpdateMember k) name = update (operator_of k) (is_prefix k) (to_member name)
named_form ops.DeleteName name = delete (to_name name)
named_form ops.DeleteMember name = delete (to_member name)
named_form op name = this

-- ---- forms that need neither names nor an entry

-- a loop at this stage, as what a node does
abbrev pub stage_op : Stage → Op
stage_op first = ops.LoopFirst
stage_op doing = ops.LoopDoing
stage_op testing = ops.LoopTesting
stage_op body = ops.LoopBody
stage_op updating = ops.LoopUpdating

-- the entry of what needs no number
abbrev pub bare_entry : Op → Option Instruction
bare_entry op = Some (record { op = op; info = 0 })

-- the entry of what has the number of a node of its source
abbrev pub placed_entry : Op → ℕ → Option Instruction
placed_entry op node = Some (record { op = op; info = node })

-- a loop has a scope of its turn in a run alone
abbrev pub loop_entry : Stage → Option Addr → Option Instruction
loop_entry stage None = bare_entry (stage_op stage)
loop_entry stage (Some a) = None

-- the entry of such a form; none of any other
abbrev pub alone_entry : Form → Option Instruction
alone_entry scripts = bare_entry ops.Scripts
alone_entry sequence = bare_entry ops.Sequence
alone_entry choose = bare_entry ops.Choose
alone_entry both = bare_entry ops.Both
alone_entry either = bare_entry ops.Either
alone_entry break_ = bare_entry ops.Break
alone_entry continue_ = bare_entry ops.Continue
alone_entry return_ = bare_entry ops.Return
alone_entry finishing = bare_entry ops.Finishing
alone_entry this = bare_entry ops.This
alone_entry comma = bare_entry ops.Comma
alone_entry array = bare_entry ops.Array
alone_entry (unary o) = bare_entry (ops.Unary o)
alone_entry (binary o) = bare_entry (ops.Binary o)
alone_entry (enter node) = placed_entry ops.Enter node
alone_entry (enter_debugger node) = placed_entry ops.EnterDebugger node
alone_entry (throw_ node) = placed_entry ops.Throw node
alone_entry (loop stage scope) = loop_entry stage scope
alone_entry f = None
