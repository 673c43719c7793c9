use Rattle.std.proofs.lemmas.Result.{on_ok_weaker}
use Rattle.std.proofs.Common.{◌∙◌, ◌+◌, refl}
use Rattle.js_machine_nodes.specs.declared.op.Op.TheVariants as ops
use Rattle.js_machine_engine.proofs.FollowLemmas.{At, variables-follow, variables-scopes}
use Rattle.js_machine_engine.proofs.following.loops.follow_variables.Goals as goal

pub returns-clause-term : goal.returns-clause-term
returns-clause-term c =
    let at : At c.args.table.now c.args.stack.now c.in-Some.task ops.EnterFor c.in_ok-initializer.initializer = record {
      is = c.in-Some.ensures.task.0;
      op = c.in-Some.ensures.task.1;
      owned = c.in-Some.ensures.owned;
      owns = λ info. refl;
      before = c.in_ok-initializer.ensures.before;
      part = c.in_ok-initializer.ensures.part;
    } in
    on_ok_weaker c.uncover_part.result
    (λ d. λ ts. variables-follow ts c.args.table.now c.args.stack.now c.pop.new.self c.push.new.self c.in-Some.task
    ops.EnterFor c.args.scope c.in_ok-initializer.initializer at c.pop.ensures.outer c.in_ok-push.ensures
    ∙ d ts)
    c.uncover_part.ensures.term

pub returns-clause-scoped : goal.returns-clause-scoped
returns-clause-scoped c =
    on_ok_weaker c.uncover_part.result
    (λ d. λ s. d
    (variables-scopes c.args.table.now c.args.stack.now c.pop.new.self c.push.new.self (c.in-Some.task.mid + 1)
    c.in-Some.task.end c.args.scope c.pop.ensures.outer c.in_ok-push.ensures c.args.root s))
    c.uncover_part.ensures.scoped
