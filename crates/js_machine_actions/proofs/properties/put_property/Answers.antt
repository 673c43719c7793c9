use Rattle.js_machine_actions.proofs.PropertyLemmas.{written-property}
use Rattle.js_machine_actions.proofs.properties.put_property.Goals as goal

pub with_written-requires : goal.with_written-requires
with_written-requires g c =
    written-property (g.W.World.world c.args.names.now c.args.world.now)
    c.args.object c.args.key.now c.args.value c.in_ok-written.written c.in_ok-written.ensures
