use Rattle.std.proofs.Common.{◌≡◌, ◌≤◌, length, arith}
use Rattle.js_machine_engine.proofs.TaskLemmas.{view-at, view-past}
use Rattle.js_machine_engine.proofs.stack.Stack.task_at.Goals as goal

pub returns-then-i-n-clause-some : goal.returns-then-i-n-clause-some
returns-then-i-n-clause-some c =
    let s = c.self.inside in
    let e : c.len-n.result ≡ length s.tasks.items = omega arith in
    view-at s.tasks.items s.values.items s.extras.items c.args.self.now c.args.i c.len-n.result c.index.result.now e
    c.if-i-n.true c.index.ensures c.self.view_is

pub returns-clause-none : goal.returns-clause-none
returns-clause-none c =
    let s = c.self.inside in
    let p : length s.tasks.items ≤ c.args.i = omega arith in
    view-past s.tasks.items s.values.items s.extras.items c.args.self.now c.args.i p c.self.view_is
