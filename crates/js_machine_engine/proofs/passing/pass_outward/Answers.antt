use Rattle.std.proofs.Common.{sym, ◌∙◌}
use Rattle.js_machine_engine.proofs.PassLemmas.{passed-task, passed-call}
use Rattle.js_machine_engine.proofs.passing.pass_outward.Goals as goal

pub loop-task-preserved-in-Lets : goal.loop-task-preserved-in-Lets
loop-task-preserved-in-Lets c =
    passed-task c.args.table.now c.args.completion c.args.stack.now c.args.context.now c.loop-task.stack c.pop.new.self
    c.loop-task.context c.in-Some.task c.loop-task.invariant c.in-Some.ensures.some
    (sym c.passing_of.ensures ∙ c.in-Lets.is) c.pop.ensures.outer

pub loop-task-preserved : goal.loop-task-preserved
loop-task-preserved c =
    passed-call c.args.table.now c.args.completion c.args.stack.now c.args.context.now c.loop-task.stack
    c.pop-in-Unframes.new.self c.loop-task.context c.pop_frame.new.self c.in-Some.task c.loop-task.invariant
    c.in-Some.ensures.some
    (sym c.passing_of.ensures ∙ c.in-Unframes.is) c.pop_frame.ensures c.pop-in-Unframes.ensures.outer
