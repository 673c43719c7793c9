use Rattle.js_machine_nodes.specs.Forms.{function_of}
use Rattle.js_machine_rows.proofs.LiteralLemmas.{method-reply}
use Rattle.js_machine_rows.proofs.literals.before_method.Goals as goal

pub returns : goal.returns
returns g c =
    method-reply c.args.names.now (function_of c.args.names.now c.args.entry.now)
    c.args.scope c.args.values.now c.last_of.result (g.W.World.world c.args.names.now c.args.world.now)
    (g.W.World.world c.args.names.now c.made_method.new.world)
    c.made_method.result c.adds_in.result c.last_of.ensures c.made_method.ensures c.adds_in.ensures
