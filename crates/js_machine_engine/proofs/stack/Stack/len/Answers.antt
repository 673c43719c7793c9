use Rattle.std.proofs.Common.{◌≡◌, length, ◌∙◌, arith}
use Rattle.js_machine_engine.proofs.TaskLemmas.{view-length}
use Rattle.js_machine_engine.proofs.stack.Stack.len.Goals as goal

pub returns : goal.returns
returns c =
    let s = c.self.inside in
    let e : c.len.result ≡ length s.tasks.items = omega arith in
    e ∙ view-length s.tasks.items s.values.items s.extras.items c.args.self.now c.self.view_is
