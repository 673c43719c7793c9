use Rattle.std.proofs.Common.{◌∙◌, sym}
use Rattle.js_machine_actions.proofs.ListLemmas.{occurs-step, occurs-end}
use Rattle.js_machine_actions.proofs.lists.first_occurrence.Goals as goal

pub loop-i-preserved : goal.loop-i-preserved
loop-i-preserved c =
    c.loop-i.invariant
    ∙ occurs-step c.args.text.now c.args.of.now c.loop-i.i c.begins_with.result c.loop-i-test.true c.begins_with.ensures
    c.if-begins_with.false

pub returns : goal.returns
returns c =
    sym (c.loop-i.invariant
    ∙ occurs-end c.args.text.now c.args.of.now c.loop-i.i c.is_empty.result c.loop-i-test.false c.is_empty.ensures
    c.if-is_empty.false)
