use Rattle.std.proofs.Common.{ap, ◌∙◌}
use Rattle.js_machine_engine.specs.Stacks.{without_values}
use Rattle.js_machine_engine.proofs.ClosingLemmas.{finally-row, finally-part}
use Rattle.js_machine_engine.proofs.finish.finish_try.Goals as goal

pub returns-then-branch : goal.returns-then-branch
returns-then-branch c =
    let t = c.args.table.now in
    finally-part t c.args.stack.now c.clear_values.new.self c.next_part.new.stack c.args.task c.next_part.new.next
    c.requires.task c.requires.finishing
    (c.clear_values.ensures ∙ ap without_values c.change.ensures) (rw c.if-branch.true at c.in_ok-next_part.ensures)

pub returns : goal.returns
returns c =
    let t = c.args.table.now in
    finally-row t c.args.stack.now c.clear_values.new.self c.next_part.new.stack c.args.task c.requires.task
    c.requires.finishing
    (c.clear_values.ensures ∙ ap without_values c.change.ensures) (rw c.if-branch.false at c.in_ok-next_part.ensures)
