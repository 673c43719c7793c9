use Rattle.js_machine_nodes.specs.Forms.{function_of}
use Rattle.js_machine_rows.proofs.LiteralLemmas.{made-plain}
use Rattle.js_machine_rows.proofs.literals.made_function.Goals as goal

pub returns-else-entry : goal.returns-else-entry
returns-else-entry g c =
    made-plain (function_of c.args.names.now c.args.entry.now) c.args.scope c.args.this c.receiver_of-receiver.result
    (g.W.World.world c.args.names.now c.args.world.now) c.plain_function.result
    (g.W.World.world c.args.names.now c.plain_function.new.world) c.if-entry.false
    (c.receiver_of-receiver.ensures c.args.names.now) c.plain_function.ensures
