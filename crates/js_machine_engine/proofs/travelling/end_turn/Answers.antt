use Rattle.std.proofs.Common.{◌∙◌}
use Rattle.std.proofs.lemmas.Result.{on_ok_weaker}
use Rattle.js_machine_engine.specs.Stacks.{extra_of}
use Rattle.js_machine_engine.proofs.TravelLemmas.{turn-term, turn-scopes}
use Rattle.js_machine_engine.proofs.travelling.end_turn.Goals as goal

pub returns-clause-term : goal.returns-clause-term
returns-clause-term c =
    on_ok_weaker c.settle_row.result
    (λ h. λ ts. turn-term ts c.args.table.now c.args.stack.now c.clear_values.new.self c.set_at.new.self c.in-Some.task
    (extra_of c.args.stack.now) c.in-Some.ensures.some c.clear_values.ensures c.set_at.ensures
    ∙ h ts)
    c.settle_row.ensures.term

pub returns-clause-scoped : goal.returns-clause-scoped
returns-clause-scoped c =
    on_ok_weaker c.settle_row.result
    (λ h. λ root s. h root
    (turn-scopes c.args.table.now c.args.stack.now c.clear_values.new.self c.set_at.new.self c.in-Some.task
    (extra_of c.args.stack.now) c.in-Some.ensures.some c.clear_values.ensures c.set_at.ensures root s))
    c.settle_row.ensures.scoped
