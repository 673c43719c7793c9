use Rattle.std.proofs.Common.{refl}
use Rattle.js_machine_nodes.specs.declared.op.Op.TheVariants as ops
use Rattle.js_machine_engine.proofs.FollowLemmas.{owns-nothing, first-turn-follows, first-turn-scopes}
use Rattle.js_machine_engine.proofs.following.iterations.follow_first_turn.Goals as goal

pub returns-clause-term : goal.returns-clause-term
returns-clause-term c =
    λ ts. rw c.set_row.ensures
    (first-turn-follows ts c.args.table.now c.args.stack.now c.pop.new.self c.push_with.new.self c.in-Some.task
    c.args.list c.in-Some.ensures.task.0
    (owns-nothing c.args.stack.now c.in-Some.task ops.ListOf c.in-Some.ensures.task.0 c.in-Some.ensures.task.1
    c.in-Some.ensures.owned
    (λ info. refl))
    c.pop.ensures.outer c.in_ok-push_with.ensures)

pub returns-clause-at : goal.returns-clause-at
returns-clause-at c = rw c.set_row.ensures (rw c.in_ok-push_with.ensures refl)

pub returns-clause-scoped : goal.returns-clause-scoped
returns-clause-scoped c =
    λ s. first-turn-scopes c.args.table.now c.args.stack.now c.pop.new.self c.push_with.new.self c.in-Some.task
    ops.ListOf c.args.list c.in-Some.ensures.task.0 c.in-Some.ensures.task.1
    (λ info. refl) c.pop.ensures.outer c.in_ok-push_with.ensures c.args.root s
