use Rattle.js_machine_actions.proofs.ListLemmas.{part-fails, part-goes, part-ends}
use Rattle.js_machine_actions.proofs.lists.joined_parts.Goals as goal

pub returns-in_default : goal.returns-in_default
returns-in_default g c =
    part-fails (g.C.Cells.world c.args.cells.now)
    c.loop-element.texts.items c.args.elements.now c.loop-element.element-index c.in_ok-text.field-0 _
    c.loop-element.invariant c.loop-element-test.true c.in_ok-text.ensures c.in_default.not-Some

pub loop-element-preserved : goal.loop-element-preserved
loop-element-preserved g c =
    part-goes (g.C.Cells.world c.args.cells.now)
    c.loop-element.texts.items c.push.new.self.items c.in-Some.text c.args.elements.now c.loop-element.element-index
    c.in_ok-text.field-0 _ c.loop-element.invariant c.loop-element-test.true c.in_ok-text.ensures c.in-Some.is
    c.in_ok-push.ensures.items

pub returns : goal.returns
returns g c =
    part-ends (g.C.Cells.world c.args.cells.now)
    c.loop-element.texts.items c.args.elements.now c.loop-element.element-index _ c.loop-element.invariant
    c.loop-element-test.false
