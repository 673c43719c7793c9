use Rattle.std.proofs.Common.{sym}
use Rattle.js_machine_engine.proofs.DescentLemmas.{leaf-enters, row-enters, part-enters}
use Rattle.js_machine_engine.proofs.settling.enter.Goals as goal

pub returns-then-node : goal.returns-then-node
returns-then-node c =
    rw c.set_leaf-then-node.ensures
    (leaf-enters c.args.table.now c.args.stack.now c.args.inner c.args.n.now c.args.n.now c.in-Some.node
    (sym c.in-Some.ensures) c.requires.form c.if-node.true)

pub returns-then-branch : goal.returns-then-branch
returns-then-branch c =
    part-enters c.args.table.now c.args.stack.now c.push.new.self c.next_part.new.stack c.args.inner c.args.n.now
    c.next_part.new.next c.in-Some.node c.args.point.now c.requires.table
    (sym c.in-Some.ensures) c.requires.form c.in_ok-push.ensures
    (rw c.if-branch.true at c.in_ok-next_part.ensures)

pub returns : goal.returns
returns c =
    rw c.set_row.ensures
    (row-enters c.args.table.now c.args.stack.now c.push.new.self c.next_part.new.stack c.args.inner c.args.n.now
    c.next_part.new.next c.in-Some.node c.requires.table
    (sym c.in-Some.ensures) c.requires.form c.in_ok-push.ensures
    (rw c.if-branch.false at c.in_ok-next_part.ensures))
