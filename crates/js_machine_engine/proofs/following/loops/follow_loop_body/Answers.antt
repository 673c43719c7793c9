use Rattle.std.proofs.lemmas.Result.{on_ok_weaker}
use Rattle.std.proofs.Common.{◌∙◌, None}
use Rattle.js_machine_engine.specs.Settling.{looped}
use Rattle.js_semantics.specs.Terms.{at_body}
use Rattle.js_machine_engine.proofs.DescentLemmas.{can-come, comes-in}
use Rattle.js_machine_engine.proofs.FollowLemmas.{at-body-follows}
use Rattle.js_machine_engine.proofs.following.loops.follow_loop_body.Goals as goal

pub take_up-requires-clause-comes : goal.take_up-requires-clause-comes
take_up-requires-clause-comes c =
    let t = c.args.table.now in
    can-come t c.args.stack.now c.at_body.new.stack (λ ts. looped ts t c.args.stack.now at_body c.in-Some.task)
    c.in_ok-next.next c.in_ok-next.ensures

pub returns-clause-term : goal.returns-clause-term
returns-clause-term c =
    on_ok_weaker c.take_up.result
    (λ d. λ ts. at-body-follows ts c.args.table.now c.args.stack.now c.in-Some.task c.in-Some.ensures.0
    ∙ c.in_ok-next.ensures.term ts
    ∙ d ts)
    c.take_up.ensures.term

pub returns-clause-scoped : goal.returns-clause-scoped
returns-clause-scoped c =
    let t = c.args.table.now in
    let old = c.args.stack.now in
    on_ok_weaker c.take_up.result
    (λ d. λ s. d c.args.root
    (comes-in t old c.at_body.new.stack (λ ts. looped ts t old at_body c.in-Some.task)
    c.in_ok-next.next c.in-Some.task None c.in-Some.ensures.0 c.in_ok-next.ensures c.args.root)
    (c.in_ok-next.ensures.scoped c.args.root s))
    c.take_up.ensures.scoped
