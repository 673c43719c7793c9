use Rattle.js_machine_rows.proofs.LiteralLemmas.{named-gives}
use Rattle.js_machine_rows.proofs.literals.own_function.Goals as goal

pub returns : goal.returns
returns g c =
    named-gives c.args.names.now c.args.entry.now c.args.scope c.in_ok-count.count
    (g.W.World.world c.args.names.now c.args.world.now) c.named_function.result
    (g.W.World.world c.args.names.now c.named_function.new.world) c.in_ok-count.ensures c.named_function.ensures
