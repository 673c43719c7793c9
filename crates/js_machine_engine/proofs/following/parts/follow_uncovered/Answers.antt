use Rattle.std.proofs.lemmas.Result.{on_ok_weaker}
use Rattle.js_machine_engine.proofs.FollowLemmas.{scopes-popped}
use Rattle.js_machine_engine.proofs.following.parts.follow_uncovered.Goals as goal

pub returns-clause-scoped : goal.returns-clause-scoped
returns-clause-scoped c =
    on_ok_weaker c.uncover_part.result
    (λ d. λ s. d (scopes-popped c.args.table.now c.args.root c.args.stack.now c.pop.new.self c.pop.ensures.outer s))
    c.uncover_part.ensures.scoped
