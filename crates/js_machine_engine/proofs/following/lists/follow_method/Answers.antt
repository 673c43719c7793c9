use Rattle.std.proofs.lemmas.Result.{on_ok_weaker}
use Rattle.std.proofs.Common.{◌∙◌, ap, ◌+◌}
use Rattle.js_machine_nodes.specs.declared.op.Op.TheVariants as ops
use Rattle.js_machine_engine.specs.Stacks.{owning}
use Rattle.js_machine_engine.specs.declared.task.Extra.TheVariants as extras
use Rattle.js_machine_engine.proofs.FollowLemmas.{method-follows, method-scopes, rests-at}
use Rattle.js_machine_engine.proofs.following.lists.follow_method.Goals as goal

pub returns-clause-term : goal.returns-clause-term
returns-clause-term c =
    let old = c.args.stack.now in
    on_ok_weaker c.proceed.result
    (λ d. λ ts. method-follows ts c.args.table.now old c.own.new.self c.in-Some.task c.args.method
    c.in-Some-kept_place.from c.in_ok-part.part c.in-Some-open_node.node c.requires c.in-Some.ensures.some
    (rests-at c.in-Some.task.op c.in-Some.task.mid c.in-Some-kept_place.from c.extra.result old c.extra.ensures
    c.in-Some-kept_place.ensures)
    c.in_ok-part.ensures.before c.in_ok-part.ensures.part c.in-Some-open_node.ensures.0 c.in-Some-open_node.ensures.1
    (c.in_ok-own.ensures
    ∙ ap (owning ops.ObjectRest c.in-Some.task.info c.in-Some-open_node.node.first c.in-Some-open_node.node.mid
    (extras.Rest (c.in-Some-kept_place.from + 1)))
    c.in_ok-push_value.ensures)
    ∙ d ts)
    c.proceed.ensures.term

pub returns-clause-scoped : goal.returns-clause-scoped
returns-clause-scoped c =
    let old = c.args.stack.now in
    on_ok_weaker c.proceed.result
    (λ d. λ s. d c.args.root
    (method-scopes c.args.table.now old c.own.new.self c.in-Some.task c.args.method c.in-Some-kept_place.from
    c.in-Some-open_node.node c.in-Some.ensures.some
    (rests-at c.in-Some.task.op c.in-Some.task.mid c.in-Some-kept_place.from c.extra.result old c.extra.ensures
    c.in-Some-kept_place.ensures)
    (c.in_ok-own.ensures
    ∙ ap (owning ops.ObjectRest c.in-Some.task.info c.in-Some-open_node.node.first c.in-Some-open_node.node.mid
    (extras.Rest (c.in-Some-kept_place.from + 1)))
    c.in_ok-push_value.ensures)
    c.args.root s))
    c.proceed.ensures.scoped
