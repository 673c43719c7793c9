use Rattle.std.proofs.Common.{Some, None, sym, ◌∙◌}
use Rattle.std.proofs.lemmas.Result.{on_ok_weaker}
use Rattle.js_machine_engine.specs.Parts.{IsNextPart}
use Rattle.js_machine_engine.specs.Settling.{Inward}
use Rattle.js_machine_engine.proofs.DescentLemmas.{leaf-at, uncovered-leaf, uncovered-parts, uncovered-scoped}
use Rattle.js_machine_engine.proofs.settling.uncover_form.Goals as goal

pub returns-then-is_waiting-clause-term : goal.returns-then-is_waiting-clause-term
returns-then-is_waiting-clause-term c =
    λ ts. rw c.set_leaf.ensures
    (uncovered-leaf ts c.args.table.now c.args.stack.now c.args.n c.in-Some.node c.args.inner c.requires.table
    (sym c.in-Some.ensures) c.requires.form c.if-node.true (sym c.if-is_waiting.ensures))

pub returns-then-is_waiting-clause-at : goal.returns-then-is_waiting-clause-at
returns-then-is_waiting-clause-at c =
    rw c.set_leaf.ensures
    (leaf-at c.args.table.now c.args.n c.in-Some.node (sym c.in-Some.ensures) c.requires.form c.if-node.true)

pub returns-then-branch-clause-term : goal.returns-then-branch-clause-term
returns-then-branch-clause-term c =
    let t = c.args.table.now in
    let i : IsNextPart t c.push.new.self c.next_part.new.stack (Some c.next_part.new.next)
    = rw c.if-branch.true at c.in_ok-next_part.ensures in
    on_ok_weaker c.descend.result
    (λ d. λ ts. uncovered-parts ts t c.args.stack.now c.push.new.self c.next_part.new.stack c.args.n c.in-Some.node
    c.args.inner
    (Some c.next_part.new.next) c.requires.table (sym c.in-Some.ensures) c.requires.form c.in_ok-push.ensures i
    ∙ d ts)
    c.descend.ensures.term

pub returns-then-branch-clause-scoped : goal.returns-then-branch-clause-scoped
returns-then-branch-clause-scoped c =
    let t = c.args.table.now in
    let i : IsNextPart t c.push.new.self c.next_part.new.stack (Some c.next_part.new.next)
    = rw c.if-branch.true at c.in_ok-next_part.ensures in
    let h : Inward t c.args.stack.now c.next_part.new.stack c.args.inner = uncovered-scoped t c.args.stack.now
    c.push.new.self c.next_part.new.stack c.args.n c.in-Some.node c.args.inner
    (Some c.next_part.new.next) c.requires.table (sym c.in-Some.ensures) c.in_ok-push.ensures i in
    on_ok_weaker c.descend.result (λ d. λ root e s. d root (h.scope root e) (h.scoped root e s))
    c.descend.ensures.scoped

pub returns-clause-term : goal.returns-clause-term
returns-clause-term c =
    let t = c.args.table.now in
    let i : IsNextPart t c.push.new.self c.next_part.new.stack None = rw c.if-branch.false at c.in_ok-next_part.ensures in
    on_ok_weaker c.settle_row.result
    (λ d. λ ts. uncovered-parts ts t c.args.stack.now c.push.new.self c.next_part.new.stack c.args.n c.in-Some.node
    c.args.inner None c.requires.table
    (sym c.in-Some.ensures) c.requires.form c.in_ok-push.ensures i
    ∙ d ts)
    c.settle_row.ensures.term

pub returns-clause-scoped : goal.returns-clause-scoped
returns-clause-scoped c =
    let t = c.args.table.now in
    let i : IsNextPart t c.push.new.self c.next_part.new.stack None = rw c.if-branch.false at c.in_ok-next_part.ensures in
    let h : Inward t c.args.stack.now c.next_part.new.stack c.args.inner = uncovered-scoped t c.args.stack.now
    c.push.new.self c.next_part.new.stack c.args.n c.in-Some.node c.args.inner None c.requires.table
    (sym c.in-Some.ensures) c.in_ok-push.ensures i in
    on_ok_weaker c.settle_row.result (λ d. λ root e s. d root (h.scoped root e s)) c.settle_row.ensures.scoped
