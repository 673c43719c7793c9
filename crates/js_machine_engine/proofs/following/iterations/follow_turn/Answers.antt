use Rattle.std.proofs.lemmas.Result.{on_ok_weaker}
use Rattle.std.proofs.Common.{◌∙◌, ap, ◌∷◌, None}
use Rattle.js_machine_nodes.specs.declared.op.Op.TheVariants as ops
use Rattle.js_machine_engine.specs.Stacks.{begun, changed, turned}
use Rattle.js_machine_engine.proofs.FollowLemmas.{turn-follows, turn-scopes}
use Rattle.js_machine_engine.proofs.following.iterations.follow_turn.Goals as goal

pub returns-clause-term : goal.returns-clause-term
returns-clause-term c =
    on_ok_weaker c.go.result
    (λ d. λ ts. turn-follows ts c.args.table.now c.args.stack.now c.push.new.self c.in-Some.task c.args.scope
    c.in_ok-body.body c.in-Some.ensures.task.0
    (c.has_turn.ensures c.if-not-has_turn.false) c.in_ok-body.ensures.before c.in_ok-body.ensures.part
    (c.in_ok-push.ensures
    ∙ ap (λ ws. begun ops.Scoped 0 0 0 0 c.args.scope None ∷ ws)
    (c.in_ok-count_turn.ensures
    ∙ ap turned
    (c.change.ensures
    ∙ ap (changed ops.BodyOf c.in-Some.task.info c.in-Some.task.mid c.in-Some.task.mid)
    c.clear_values.ensures)))
    ∙ d ts)
    c.go.ensures.term

pub returns-clause-scoped : goal.returns-clause-scoped
returns-clause-scoped c =
    on_ok_weaker c.go.result
    (λ d. λ s. d
    (turn-scopes c.args.table.now c.args.stack.now c.push.new.self c.in-Some.task c.args.scope c.in-Some.ensures.task.0
    c.in-Some.ensures.task.1
    (c.in_ok-push.ensures
    ∙ ap (λ ws. begun ops.Scoped 0 0 0 0 c.args.scope None ∷ ws)
    (c.in_ok-count_turn.ensures
    ∙ ap turned
    (c.change.ensures
    ∙ ap (changed ops.BodyOf c.in-Some.task.info c.in-Some.task.mid c.in-Some.task.mid)
    c.clear_values.ensures)))
    c.args.root s))
    c.go.ensures.scoped
