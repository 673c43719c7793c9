use Rattle.std.proofs.lemmas.Result.{on_ok_weaker}
use Rattle.std.proofs.Common.{◌∙◌, ap, ◌+◌, refl}
use Rattle.js_machine_nodes.specs.declared.op.Op.TheVariants as ops
use Rattle.js_machine_engine.specs.Stacks.{changed}
use Rattle.js_machine_engine.proofs.FollowLemmas.{At, comma-follows, comma-scopes}
use Rattle.js_machine_engine.proofs.following.lists.follow_comma.Goals as goal

pub returns-clause-term : goal.returns-clause-term
returns-clause-term c =
    let at : At c.args.table.now c.args.stack.now c.in-Some.task ops.Comma c.in_ok-next.next = record {
      is = c.in-Some.ensures.task.0;
      op = c.in-Some.ensures.task.1;
      owned = c.in-Some.ensures.owned;
      owns = λ info. refl;
      before = c.in_ok-next.ensures.before;
      part = c.in_ok-next.ensures.part;
    } in
    on_ok_weaker c.go.result
    (λ d. λ ts. comma-follows ts c.args.table.now c.args.stack.now c.change.new.self c.in-Some.task ops.Comma
    c.in_ok-next.next at
    (c.change.ensures
    ∙ ap (changed ops.Comma c.in-Some.task.info (c.in-Some.task.mid + 1) (c.in-Some.task.mid + 1))
    c.clear_values.ensures)
    ∙ d ts)
    c.go.ensures.term

pub returns-clause-scoped : goal.returns-clause-scoped
returns-clause-scoped c =
    on_ok_weaker c.go.result
    (λ d. λ s. d
    (comma-scopes c.args.table.now c.args.stack.now c.change.new.self c.in-Some.task ops.Comma
    (c.in-Some.task.mid + 1) c.in-Some.ensures.task.0 c.in-Some.ensures.task.1 (λ info. refl)
    (c.change.ensures
    ∙ ap (changed ops.Comma c.in-Some.task.info (c.in-Some.task.mid + 1) (c.in-Some.task.mid + 1))
    c.clear_values.ensures)
    c.args.root s))
    c.go.ensures.scoped
