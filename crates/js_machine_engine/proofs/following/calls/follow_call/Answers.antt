use Rattle.std.proofs.lemmas.Result.{on_ok_weaker}
use Rattle.std.proofs.Common.{◌∙◌, ap}
use Rattle.js_machine_nodes.specs.declared.op.Op.TheVariants as ops
use Rattle.js_machine_engine.specs.Stacks.{with_value, changed}
use Rattle.js_machine_engine.specs.Answers.{this_of_call}
use Rattle.js_machine_engine.proofs.FollowLemmas.{call-follows, call-owns, call-scopes, alone}
use Rattle.js_machine_engine.proofs.following.calls.follow_call.Goals as goal

pub returns-clause-term : goal.returns-clause-term
returns-clause-term c =
    let old = c.args.stack.now in
    on_ok_weaker c.proceed.result
    (λ d. λ ts. call-follows ts c.args.table.now old c.push_value-2.new.self c.in-Some.task c.in-Some-this_of_call.this
    c.args.callee c.in-Some.ensures.some
    (alone old c.in-Some.task c.in-Some.ensures.some c.in-Some.ensures.owned
    (call-owns c.in-Some.task.op c.in-Some.task.info c.in-Some-this_of_call.ensures.0))
    (c.in-Some-this_of_call.ensures.1 ∙ ap (this_of_call c.in-Some.task.op) c.values.ensures)
    (c.in_ok-push_value-2.ensures
    ∙ ap (with_value c.args.callee)
    (c.in_ok-push_value.ensures
    ∙ ap (with_value c.in-Some-this_of_call.this)
    (c.change.ensures
    ∙ ap (changed ops.Call c.in-Some.task.info c.in-Some.task.mid c.in-Some.task.end)
    c.clear_values.ensures)))
    ∙ d ts)
    c.proceed.ensures.term

pub returns-clause-scoped : goal.returns-clause-scoped
returns-clause-scoped c =
    on_ok_weaker c.proceed.result
    (λ d. λ s. d c.args.root
    (call-scopes c.args.table.now c.args.stack.now c.push_value-2.new.self c.in-Some.task c.in-Some-this_of_call.this
    c.args.callee c.in-Some-this_of_call.ensures.0 c.in-Some.ensures.some
    (c.in_ok-push_value-2.ensures
    ∙ ap (with_value c.args.callee)
    (c.in_ok-push_value.ensures
    ∙ ap (with_value c.in-Some-this_of_call.this)
    (c.change.ensures
    ∙ ap (changed ops.Call c.in-Some.task.info c.in-Some.task.mid c.in-Some.task.end)
    c.clear_values.ensures)))
    c.args.root s))
    c.proceed.ensures.scoped
