use Rattle.js_machine_engine.specs.Settling.{Enters, Inward}
use Rattle.std.proofs.Common.{true, false}
use Rattle.js_machine_engine.proofs.DescentLemmas.{way-deeper, way-term, way-inward}
use Rattle.js_machine_engine.proofs.settling.descend_into.Goals as goal

pub returns-then-not-branch-clause-term : goal.returns-then-not-branch-clause-term
returns-then-not-branch-clause-term c =
    λ ts. way-term ts c.args.table.now c.args.stack.now c.args.node c.args.inner c.loop.stack c.enter.new.stack
    c.loop.n c.enter.new.n c.enter.new.point c.loop.invariant
    (rw c.if-not-branch.true at c.in_ok-enter.ensures)

pub returns-then-not-branch-clause-at : goal.returns-then-not-branch-clause-at
returns-then-not-branch-clause-at c =
    let e : Enters c.args.table.now c.loop.stack c.enter.new.stack c.args.inner c.loop.n c.enter.new.n
    c.enter.new.point false = rw c.if-not-branch.true at c.in_ok-enter.ensures in
    e.way.at

pub returns-then-not-branch-clause-scoped : goal.returns-then-not-branch-clause-scoped
returns-then-not-branch-clause-scoped c =
    let i : Inward c.args.table.now c.args.stack.now c.enter.new.stack c.args.inner = way-inward c.args.table.now
    c.args.stack.now c.args.node c.args.inner c.loop.stack c.enter.new.stack
    c.loop.n c.enter.new.n c.enter.new.point c.loop.invariant
    (rw c.if-not-branch.true at c.in_ok-enter.ensures) in
    i.scoped

pub loop-smaller : goal.loop-smaller
loop-smaller c =
    let e : Enters c.args.table.now c.loop.stack c.enter.new.stack c.args.inner c.loop.n c.enter.new.n
    c.enter.new.point true = rw c.if-not-branch.false at c.in_ok-enter.ensures in
    e.way.before

pub loop-preserved : goal.loop-preserved
loop-preserved c =
    way-deeper c.args.table.now c.args.stack.now c.args.node c.args.inner c.loop.stack c.enter.new.stack
    c.loop.n c.enter.new.n c.enter.new.point c.loop.invariant
    (rw c.if-not-branch.false at c.in_ok-enter.ensures)
