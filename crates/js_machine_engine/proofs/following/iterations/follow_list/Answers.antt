use Rattle.std.proofs.lemmas.Result.{on_ok_weaker}
use Rattle.std.proofs.Common.{◌∙◌, ◌+◌, refl}
use Rattle.js_machine_nodes.specs.declared.op.Op.TheVariants as ops
use Rattle.js_machine_engine.proofs.FollowLemmas.{At, list-follows, list-scopes}
use Rattle.js_machine_engine.proofs.following.iterations.follow_list.Goals as goal

pub returns-clause-term : goal.returns-clause-term
returns-clause-term c =
    let at : At c.args.table.now c.args.stack.now c.in-Some.task ops.EnterForOf c.in_ok-list.list = record {
      is = c.in-Some.ensures.task.0;
      op = c.in-Some.ensures.task.1;
      owned = c.in-Some.ensures.owned;
      owns = λ info. refl;
      before = c.in_ok-list.ensures.before;
      part = c.in_ok-list.ensures.part;
    } in
    on_ok_weaker c.go.result
    (λ d. λ ts. list-follows ts c.args.table.now c.args.stack.now c.pop.new.self c.push.new.self c.push-2.new.self
    c.in-Some.task ops.EnterForOf c.args.scope c.in_ok-list.list at c.pop.ensures.outer c.in_ok-push.ensures
    c.in_ok-push-2.ensures
    ∙ d ts)
    c.go.ensures.term

pub returns-clause-scoped : goal.returns-clause-scoped
returns-clause-scoped c =
    on_ok_weaker c.go.result
    (λ d. λ s. d
    (list-scopes c.args.table.now c.args.stack.now c.pop.new.self c.push.new.self c.push-2.new.self c.in-Some.task
    ops.EnterForOf c.args.scope
    (c.in-Some.task.mid + 1) c.in-Some.task.end c.in-Some.ensures.task.0 c.in-Some.ensures.task.1
    (λ info. refl) c.pop.ensures.outer c.in_ok-push.ensures c.in_ok-push-2.ensures c.args.root s))
    c.go.ensures.scoped
