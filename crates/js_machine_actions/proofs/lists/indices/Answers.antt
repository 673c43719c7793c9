use Rattle.js_machine_actions.proofs.ListLemmas.{indices-step}
use Rattle.js_machine_actions.proofs.lists.indices.Goals as goal

pub loop-i-preserved : goal.loop-i-preserved
loop-i-preserved c =
    indices-step c.loop-i.keys.items c.push.new.self.items c.args.values.now c.loop-i.i c.in_ok-decimal_units.field-0
    c.in_ok-push.ensures.items c.in_ok-decimal_units.ensures c.loop-i-test.true c.loop-i.invariant
