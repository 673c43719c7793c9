use Rattle.js_machine_actions.proofs.PropertyLemmas.{deleted-property}
use Rattle.js_machine_actions.proofs.properties.remove_property.Goals as goal

pub with_written-requires : goal.with_written-requires
with_written-requires g c =
    deleted-property (g.W.World.world c.args.names.now c.args.world.now)
    c.args.object c.args.key.now c.in_ok-written.written c.in_ok-written.ensures
