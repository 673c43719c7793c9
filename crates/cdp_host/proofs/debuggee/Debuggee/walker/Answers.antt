use Rattle.cdp_host.proofs.DebuggeeLemmas.{walk-parts}
use Rattle.cdp_host.proofs.debuggee.Debuggee.walker.Goals as goal

pub returns-clause-walk : goal.returns-clause-walk
returns-clause-walk c =
    let d = c.args.self.now in
    walk-parts d.scripts.now d.machine.now d.heap.now c.names.result.now c.table.result.now c.script_scope.result
    c.context.result.now c.stack.result.now c.point.result c.names.ensures c.table.ensures.table
    c.script_scope.ensures c.context.ensures c.stack.ensures.tasks c.point.ensures
