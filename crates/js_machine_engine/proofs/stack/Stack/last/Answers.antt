use Rattle.js_machine_engine.proofs.StackLemmas.{owned-view}
use Rattle.js_machine_engine.proofs.stack.Stack.last.Goals as goal

pub returns-clause-owned : goal.returns-clause-owned
returns-clause-owned c =
    let s = c.self.inside in
    owned-view s.tasks.items s.values.items s.extras.items c.args.self.now c.self.view_is
