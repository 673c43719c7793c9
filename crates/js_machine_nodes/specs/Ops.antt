-- Kinds of nodes.
use Rattle.std.specs.Prelude.{Bool, true, false}
use Rattle.js_tree_operators.specs.declared.operator.UpdateOperator.{UpdateOperator}
use Rattle.js_tree_operators.specs.declared.operator.UpdateOperator.TheVariants as updates
use Rattle.js_machine_nodes.specs.declared.op.Op.{Op}
use Rattle.js_machine_nodes.specs.declared.op.Op.TheVariants as ops
use Rattle.js_machine_nodes.specs.declared.op.UpdateKind.{UpdateKind}
use Rattle.js_machine_nodes.specs.declared.op.UpdateKind.TheVariants as kinds

-- a value
abbrev pub is_literal : Op → Bool
is_literal ops.Literal = true
is_literal op = false

-- what comes up in a run alone: no node has it
abbrev pub is_task_only : Op → Bool
is_task_only ops.Scoped = true
is_task_only ops.Frame = true
is_task_only ops.ListOf = true
is_task_only ops.TurnOf = true
is_task_only ops.BodyOf = true
is_task_only ops.Ending = true
is_task_only ops.ObjectRest = true
is_task_only op = false

-- which of `++` and `--` an update is
abbrev pub operator_of : UpdateKind → UpdateOperator
operator_of kinds.PrefixIncrement = updates.Increment
operator_of kinds.PrefixDecrement = updates.Decrement
operator_of kinds.PostfixIncrement = updates.Increment
operator_of kinds.PostfixDecrement = updates.Decrement

-- the operator stands in front of its target
abbrev pub is_prefix : UpdateKind → Bool
is_prefix kinds.PrefixIncrement = true
is_prefix kinds.PrefixDecrement = true
is_prefix kinds.PostfixIncrement = false
is_prefix kinds.PostfixDecrement = false

-- a loop, whose number says in a run whether it has a scope for each turn
abbrev pub is_loop : Op → Bool
is_loop ops.LoopFirst = true
is_loop ops.LoopDoing = true
is_loop ops.LoopTesting = true
is_loop ops.LoopBody = true
is_loop ops.LoopUpdating = true
is_loop op = false
