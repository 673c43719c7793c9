use Rattle.js_machine_nodes.specs.Forms.{function_of}
use Rattle.js_machine_rows.proofs.LiteralLemmas.{function-reply}
use Rattle.js_machine_rows.proofs.literals.function_with.Goals as goal

pub returns : goal.returns
returns g c =
    function-reply c.args.names.now (function_of c.args.names.now c.args.entry.now)
    c.args.scope c.this_of-this.result c.args.context.now (g.W.World.world c.args.names.now c.args.world.now)
    c.made_function.result (g.W.World.world c.args.names.now c.made_function.new.world)
    c.replied.result c.this_of-this.ensures c.made_function.ensures c.replied.ensures
