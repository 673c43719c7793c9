use Rattle.std.proofs.lemmas.Result.{on_ok_weaker}
use Rattle.std.proofs.Common.{◌∙◌}
use Rattle.js_machine_engine.specs.Settling.{looped}
use Rattle.js_semantics.specs.Terms.{at_update}
use Rattle.js_machine_engine.proofs.DescentLemmas.{can-come}
use Rattle.js_machine_engine.proofs.FollowLemmas.{at-update-follows, turned-scopes, turned-inner}
use Rattle.js_machine_engine.proofs.following.loops.follow_update.Goals as goal

pub take_up-requires-clause-comes : goal.take_up-requires-clause-comes
take_up-requires-clause-comes c =
    let t = c.args.table.now in
    can-come t c.turn_in-turned.new.stack c.at_update.new.stack
    (λ ts. looped ts t c.turn_in-turned.new.stack at_update c.turn_in-turned.result)
    c.in_ok-next.next c.in_ok-next.ensures

pub returns-clause-term : goal.returns-clause-term
returns-clause-term c =
    on_ok_weaker c.take_up.result
    (λ d. λ ts. at-update-follows ts c.args.table.now c.args.stack.now c.turn_in-turned.new.stack c.in-Some.task
    c.turn_in-turned.result c.args.scope c.in-Some.ensures.0 c.turn_in-turned.ensures.same
    c.turn_in-turned.ensures.outer
    ∙ c.in_ok-next.ensures.term ts
    ∙ d ts)
    c.take_up.ensures.term

pub returns-clause-scoped : goal.returns-clause-scoped
returns-clause-scoped c =
    let t = c.args.table.now in
    let mid = c.turn_in-turned.new.stack in
    on_ok_weaker c.take_up.result
    (λ d. λ s. d c.args.root
    (turned-inner t mid c.at_update.new.stack (λ ts. looped ts t mid at_update c.turn_in-turned.result)
    c.in_ok-next.next c.in-Some.task c.turn_in-turned.result c.args.scope c.turn_in-turned.ensures.task
    c.turn_in-turned.ensures.same c.in_ok-next.ensures c.args.root)
    (c.in_ok-next.ensures.scoped c.args.root
    (turned-scopes t c.args.stack.now mid c.in-Some.task c.turn_in-turned.result c.args.scope c.in-Some.ensures.1
    c.turn_in-turned.ensures.task c.turn_in-turned.ensures.same c.turn_in-turned.ensures.outer c.args.root s)))
    c.take_up.ensures.scoped
