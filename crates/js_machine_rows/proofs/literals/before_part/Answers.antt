use Rattle.js_machine_rows.proofs.LiteralLemmas.{node-before, node-none}
use Rattle.js_machine_rows.proofs.literals.before_part.Goals as goal

pub returns-in-Some : goal.returns-in-Some
returns-in-Some g c =
    node-before c.args.code.now.names.now c.args.code.now.table.now c.args.scope c.args.part c.in-Some.node
    c.args.values.now
    (g.W.World.world c.args.code.now.names.now c.args.world.now)
    (g.W.World.world c.args.code.now.names.now c.before_form.new.world)
    c.before_form.result c.in-Some.ensures c.before_form.ensures

pub returns-in-None : goal.returns-in-None
returns-in-None g c =
    node-none c.args.code.now.names.now c.args.code.now.table.now c.args.scope c.args.part c.args.values.now
    (g.W.World.world c.args.code.now.names.now c.args.world.now) c.in-None.ensures
