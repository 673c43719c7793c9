use Rattle.pure_eval.proofs.CallLemmas.{CalleeOn}
use Rattle.pure_eval.proofs.calling.reduce_callee.Given as goal

abbrev pub invariant-loop-left : goal.invariant-loop-left
invariant-loop-left g l =
    CalleeOn l.code.names.now l.code.table.now l.code.root l.fn.stack l.fn.point
    (g.W.World.world l.code.names.now l.fn.world)
    l.fn.context l.most l.left l.stack l.point (g.W.World.world l.code.names.now l.world) l.context

abbrev pub decreases-loop-left : goal.decreases-loop-left
decreases-loop-left g l = l.left
