use Rattle.std.proofs.Common.{◌∙◌}
use Rattle.js_machine_lowering_parts.proofs.SourceLemmas.{declared_step}
use Rattle.js_machine_lowering_parts.proofs.names.add_declared_items.Goals as goal

pub loop-item-preserved : goal.loop-item-preserved
loop-item-preserved c =
    declared_step c.args.constant c.args.items.now c.loop-item.item-index c.item-item.result c.loop-item-test.true
    c.item-item.is c.loop-item.names.items c.push.new.self.items c.in_ok-declared.field-0 c.in_ok-push.ensures.items
    c.in_ok-declared.ensures
    ∙ c.loop-item.invariant
