use Rattle.std.proofs.Common.{ap, ◌∙◌}
use Rattle.js_machine_engine.specs.Settling.{next_term}
use Rattle.js_machine_engine.proofs.DescentLemmas.{row-term}
use Rattle.std.proofs.lemmas.Result.{on_ok_weaker}
use Rattle.js_machine_engine.proofs.settling.take_up.Goals as goal

pub returns-in-Row-clause-term : goal.returns-in-Row-clause-term
returns-in-Row-clause-term c =
    λ ts. rw c.set_row.ensures
    (ap (next_term ts c.args.table.now c.args.stack.now) c.in-Row.is
    ∙ row-term ts c.args.table.now c.args.stack.now)

pub returns-in-Row-clause-at : goal.returns-in-Row-clause-at
returns-in-Row-clause-at c = rw c.set_row.ensures (rw c.in-Row.is at c.requires.comes)

pub returns-in-Value-clause-scoped : goal.returns-in-Value-clause-scoped
returns-in-Value-clause-scoped c = on_ok_weaker c.give.result (λ d. λ root e s. d root s) c.give.ensures.scoped
