use Rattle.std.proofs.Common.{◌≡◌, ◌∙◌, ap, None}
use Rattle.std.proofs.lemmas.Result.{on_ok_weaker}
use Rattle.js_machine_nodes.specs.declared.op.Op.TheVariants as ops
use Rattle.js_machine_engine.specs.Stacks.{extra_of, has_extra}
use Rattle.js_machine_engine.specs.Settling.{IsInnermost}
use Rattle.js_machine_engine.proofs.ClosingLemmas.{innermost-none}
use Rattle.js_machine_engine.proofs.TravelLemmas.{keeps-op, keep-term, keep-scopes}
use Rattle.js_machine_engine.proofs.travelling.keep.Goals as goal

pub returns-clause-term : goal.returns-clause-term
returns-clause-term c =
    let t = c.args.table.now in
    let old = c.args.stack.now in
    let task = c.in-Some.task in
    let op : task.op ≡ ops.Finishing = keeps-op t old task (extra_of old)
    c.args.completion c.in-Some.ensures.some c.requires.takes in
    let i : IsInnermost task None old = innermost-none old task c.in-Some.ensures.some c.in-Some.ensures.owned
    (ap (λ x. has_extra x task.info) op) in
    on_ok_weaker c.proceed.result
    (λ h. λ ts. keep-term ts t old c.pop.new.self c.push_with.new.self task c.args.completion i c.pop.ensures.outer
    c.in_ok-push_with.ensures
    ∙ h ts)
    c.proceed.ensures.term

pub returns-clause-scoped : goal.returns-clause-scoped
returns-clause-scoped c =
    let t = c.args.table.now in
    let old = c.args.stack.now in
    let task = c.in-Some.task in
    let op : task.op ≡ ops.Finishing = keeps-op t old task (extra_of old)
    c.args.completion c.in-Some.ensures.some c.requires.takes in
    let i : IsInnermost task None old = innermost-none old task c.in-Some.ensures.some c.in-Some.ensures.owned
    (ap (λ x. has_extra x task.info) op) in
    on_ok_weaker c.proceed.result
    (λ h. λ root s. h root
    (keep-scopes t old c.pop.new.self c.push_with.new.self task c.args.completion i op c.pop.ensures.outer
    c.in_ok-push_with.ensures root s))
    c.proceed.ensures.scoped
