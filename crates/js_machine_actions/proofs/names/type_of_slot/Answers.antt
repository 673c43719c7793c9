use Rattle.std.specs.Prelude.{codes}
use Rattle.js_machine_actions.proofs.FlowLemmas.{text-gives}
use Rattle.js_machine_actions.proofs.names.type_of_slot.Goals as goal

pub returns-in_ok-text-in-None : goal.returns-in_ok-text-in-None
returns-in_ok-text-in-None g c =
    rw c.in-None.is
    (text-gives c.in_ok-text-in-None.text (codes "undefined") (g.W.World.world c.args.names.now c.args.world.now)
    (g.W.World.world c.args.names.now c.make_text.new.world)
    c.make_text.result c.in_ok-text-in-None.ensures c.make_text.ensures)
