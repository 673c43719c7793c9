use Rattle.std.proofs.lemmas.Result.{on_ok_weaker}
use Rattle.js_machine_engine.proofs.leaf.follow_leaf.Goals as goal

pub returns-in-Gives-clause-scoped : goal.returns-in-Gives-clause-scoped
returns-in-Gives-clause-scoped c = on_ok_weaker c.give.result (λ d. λ f s. d c.args.root s) c.give.ensures.scoped
