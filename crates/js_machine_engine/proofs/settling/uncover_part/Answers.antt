use Rattle.std.proofs.lemmas.Result.{on_ok_weaker}
use Rattle.js_machine_engine.proofs.settling.uncover_part.Goals as goal

pub returns-in-Some-clause-scoped : goal.returns-in-Some-clause-scoped
returns-in-Some-clause-scoped c = on_ok_weaker c.give.result (λ d. d c.args.root) c.give.ensures.scoped
