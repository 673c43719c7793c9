use Rattle.js_machine_engine.proofs.FollowLemmas.{scopes-popped}
use Rattle.js_machine_engine.proofs.ConcludeLemmas.{goes-on-weaker}
use Rattle.js_machine_engine.proofs.concluding.print_row.Goals as goal

pub returns-clause-stands : goal.returns-clause-stands
returns-clause-stands c =
    goes-on-weaker c.print.result
    (λ h. λ root s. h root
    (scopes-popped c.args.table.now root c.args.stack.now c.pop.new.self c.pop.ensures.outer s))
    c.print.ensures.stands
