use Rattle.std.proofs.Common.{Some, None, ◌∙◌}
use Rattle.std.proofs.lemmas.Result.{on_ok_weaker}
use Rattle.js_machine_engine.specs.Stacks.{extra_of}
use Rattle.js_machine_engine.specs.Parts.{IsNextPart}
use Rattle.js_machine_engine.specs.Settling.{IsTask}
use Rattle.js_machine_engine.proofs.SettleLemmas.{scopes-next}
use Rattle.js_machine_engine.proofs.DescentLemmas.{is-task, proceed-part, proceed-row, proceed-at, proceed-done, proceed-scope}
use Rattle.js_machine_engine.proofs.settling.proceed.Goals as goal

pub returns-in_default-clause-term : goal.returns-in_default-clause-term
returns-in_default-clause-term c =
    λ ts. rw c.set_done.ensures (proceed-done ts c.args.table.now c.args.stack.now c.in_default.ensures.none)

pub returns-in_default-clause-at : goal.returns-in_default-clause-at
returns-in_default-clause-at c = rw c.set_done.ensures c.in_default.ensures.none

pub returns-then-branch-clause-term : goal.returns-then-branch-clause-term
returns-then-branch-clause-term c =
    let t = c.args.table.now in
    let i : IsNextPart t c.args.stack.now c.next_part.new.stack (Some c.next_part.new.next)
    = rw c.if-branch.true at c.in_ok-next_part.ensures in
    let h : IsTask c.args.stack.now = is-task c.args.stack.now c.in-Some.task (extra_of c.args.stack.now)
    c.in-Some.ensures.some in
    on_ok_weaker c.descend.result
    (λ d. λ ts. proceed-part ts t c.args.stack.now c.next_part.new.stack c.next_part.new.next h i ∙ d ts)
    c.descend.ensures.term

pub returns-then-branch-clause-scoped : goal.returns-then-branch-clause-scoped
returns-then-branch-clause-scoped c =
    let t = c.args.table.now in
    let old = c.args.stack.now in
    let i : IsNextPart t old c.next_part.new.stack (Some c.next_part.new.next)
    = rw c.if-branch.true at c.in_ok-next_part.ensures in
    on_ok_weaker c.descend.result
    (λ d. λ root s. d root
    (proceed-scope t root old c.next_part.new.stack (Some c.next_part.new.next) c.in-Some.task (extra_of old)
    c.in-Some.ensures.some i)
    (scopes-next t root old c.next_part.new.stack (Some c.next_part.new.next) i s))
    c.descend.ensures.scoped

pub returns-clause-term : goal.returns-clause-term
returns-clause-term c =
    let t = c.args.table.now in
    let i : IsNextPart t c.args.stack.now c.next_part.new.stack None = rw c.if-branch.false at c.in_ok-next_part.ensures in
    let h : IsTask c.args.stack.now = is-task c.args.stack.now c.in-Some.task (extra_of c.args.stack.now)
    c.in-Some.ensures.some in
    λ ts. rw c.set_row.ensures (proceed-row ts t c.args.stack.now c.next_part.new.stack h i)

pub returns-clause-at : goal.returns-clause-at
returns-clause-at c =
    let t = c.args.table.now in
    let i : IsNextPart t c.args.stack.now c.next_part.new.stack None = rw c.if-branch.false at c.in_ok-next_part.ensures in
    let h : IsTask c.args.stack.now = is-task c.args.stack.now c.in-Some.task (extra_of c.args.stack.now)
    c.in-Some.ensures.some in
    rw c.set_row.ensures (proceed-at t c.args.stack.now c.next_part.new.stack h i)

pub returns-clause-scoped : goal.returns-clause-scoped
returns-clause-scoped c =
    let t = c.args.table.now in
    let old = c.args.stack.now in
    let i : IsNextPart t old c.next_part.new.stack None = rw c.if-branch.false at c.in_ok-next_part.ensures in
    λ root s. scopes-next t root old c.next_part.new.stack None i s
