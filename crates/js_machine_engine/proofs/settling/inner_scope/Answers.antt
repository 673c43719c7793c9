use Rattle.std.proofs.Common.{sym, ◌∙◌}
use Rattle.js_machine_engine.proofs.DescentLemmas.{task-scope}
use Rattle.js_machine_engine.proofs.settling.inner_scope.Goals as goal

pub returns : goal.returns
returns c = λ root. task-scope c.args.stack.now _ root c.requires ∙ sym c.scope.ensures
