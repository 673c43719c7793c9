use Rattle.std.proofs.Common.{arith}
use Rattle.std.specs.Prelude.{option_copied}
use Rattle.js_machine_actions.proofs.ListLemmas.{keys-step}
use Rattle.js_machine_actions.proofs.lists.enumerable_keys.Goals as goal

pub loop-i-preserved : goal.loop-i-preserved
loop-i-preserved c =
    keys-step c.loop-i.keys.items c.add_key.new.keys.items c.args.properties.now c.loop-i.i (option_copied c.get.result)
    c.in_ok-add_key.ensures c.get.ensures (omega (arith, c.loop-i-test.true, c.len-i-end.ensures))
    c.loop-i.invariant
