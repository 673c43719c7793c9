use Rattle.std.proofs.Common.{arith}
use Rattle.pure_eval.proofs.CallLemmas.{values-next, values-all}
use Rattle.pure_eval.proofs.calling.push_values.Goals as goal

pub loop-value-preserved : goal.loop-value-preserved
loop-value-preserved c =
    values-next c.args.more.now c.loop-value.value-index _ c.args.stack.now c.loop-value.stack c.push_value.new.self
    c.loop-value.invariant
    (omega arith) c.in_ok-push_value.ensures

pub returns : goal.returns
returns c =
    values-all c.args.more.now c.loop-value.value-index c.args.stack.now c.loop-value.stack c.loop-value.invariant
    (omega arith)
