use Rattle.js_machine_rows.proofs.LiteralLemmas.{method-some, method-none, other-gives}
use Rattle.js_machine_rows.proofs.literals.before_form.Goals as goal

pub returns-in-Some : goal.returns-in-Some
returns-in-Some g c =
    method-some c.args.code.now.names.now c.args.code.now.table.now c.args.scope c.args.op c.args.info
    c.in-Some.entry.now
    c.args.values.now
    (g.W.World.world c.args.code.now.names.now c.args.world.now)
    (g.W.World.world c.args.code.now.names.now c.before_method.new.world)
    c.before_method.result c.in-Method.is c.in-Some.ensures c.before_method.ensures

pub returns-in-None : goal.returns-in-None
returns-in-None g c =
    method-none c.args.code.now.names.now c.args.code.now.table.now c.args.scope c.args.op c.args.info c.args.values.now
    (g.W.World.world c.args.code.now.names.now c.args.world.now) c.in-Method.is c.in-None.ensures

pub returns-in_default : goal.returns-in_default
returns-in_default g c =
    other-gives c.args.code.now.names.now c.args.code.now.table.now c.args.scope c.args.op c.args.info c.args.values.now
    (g.W.World.world c.args.code.now.names.now c.args.world.now) c.in_default.not-Method
