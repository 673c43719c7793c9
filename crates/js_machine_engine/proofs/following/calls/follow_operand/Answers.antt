use Rattle.std.proofs.lemmas.Result.{on_ok_weaker}
use Rattle.std.proofs.Common.{◌∙◌, ap, ◌∷◌, ◌+◌, None}
use Rattle.js_machine_nodes.specs.declared.op.Op.TheVariants as ops
use Rattle.js_machine_engine.specs.Stacks.{begun, with_value}
use Rattle.js_machine_engine.proofs.FollowLemmas.{operand-follows, compound-owns, operand-scopes, alone}
use Rattle.js_machine_engine.proofs.following.calls.follow_operand.Goals as goal

pub returns-clause-term : goal.returns-clause-term
returns-clause-term c =
    let old = c.args.stack.now in
    let task = c.in-Some.task in
    let compound = c.in-Some-compound_of.compound in
    on_ok_weaker c.proceed.result
    (λ d. λ ts. operand-follows ts c.args.table.now old c.push_value.new.self task compound.assignment compound.operator
    c.args.old c.in_ok-kept_part.field-0 c.in-Some.ensures.some
    (alone old task c.in-Some.ensures.some c.in-Some.ensures.owned
    (compound-owns task.op task.info c.in-Some-compound_of.ensures.2))
    c.in-Some-compound_of.ensures c.in_ok-kept_part.ensures.before c.in_ok-kept_part.ensures.part
    (c.in_ok-push_value.ensures
    ∙ ap (with_value c.args.old)
    (c.in_ok-push.ensures
    ∙ ap (λ ws. begun (ops.Binary c.in-Some-compound_of.compound.operator)
    c.in-Some.task.info c.in-Some.task.mid (c.in-Some.task.mid + 1) (c.in-Some.task.mid + 1)
    c.in-Some.task.inner None ∷ ws)
    c.change.ensures))
    ∙ d ts)
    c.proceed.ensures.term

pub returns-clause-scoped : goal.returns-clause-scoped
returns-clause-scoped c =
    let compound = c.in-Some-compound_of.compound in
    on_ok_weaker c.proceed.result
    (λ d. λ s. d c.args.root
    (operand-scopes c.args.table.now c.args.stack.now c.push_value.new.self c.in-Some.task compound.assignment
    compound.operator c.args.old c.in-Some.ensures.some c.in-Some-compound_of.ensures
    (c.in_ok-push_value.ensures
    ∙ ap (with_value c.args.old)
    (c.in_ok-push.ensures
    ∙ ap (λ ws. begun (ops.Binary c.in-Some-compound_of.compound.operator)
    c.in-Some.task.info c.in-Some.task.mid (c.in-Some.task.mid + 1) (c.in-Some.task.mid + 1)
    c.in-Some.task.inner None ∷ ws)
    c.change.ensures))
    c.args.root s))
    c.proceed.ensures.scoped
