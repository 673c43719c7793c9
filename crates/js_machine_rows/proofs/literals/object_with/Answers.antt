use Rattle.js_machine_nodes.specs.Forms.{members_of}
use Rattle.js_machine_rows.proofs.LiteralLemmas.{literal-part, literal-end}
use Rattle.js_machine_rows.proofs.literals.object_with.Goals as goal

pub returns-in-Some : goal.returns-in-Some
returns-in-Some g c =
    literal-part c.args.code.now.names.now c.args.code.now.table.now c.args.form.inner c.args.from c.args.form.end
    c.in-Some.part
    c.args.values.now
    (g.W.World.world c.args.code.now.names.now c.args.world.now)
    (g.W.World.world c.args.code.now.names.now c.before_part.new.world)
    c.before_part.result c.in-Some.ensures c.before_part.ensures
    (members_of c.args.code.now.names.now c.args.members.now)

pub returns-in-None : goal.returns-in-None
returns-in-None g c =
    literal-end c.args.code.now.names.now c.args.code.now.table.now c.args.form.inner c.args.from c.args.form.end
    (members_of c.args.code.now.names.now c.args.members.now) c.args.values.now
    (g.W.World.world c.args.code.now.names.now c.args.world.now)
    (g.W.World.world c.args.code.now.names.now c.object_of.new.world)
    c.object_of.result c.replied.result c.in-None.ensures c.object_of.ensures c.replied.ensures
