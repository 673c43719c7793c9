use Rattle.std.proofs.Common.{refl}
use Rattle.js_machine_nodes.specs.Forms.{members_at}
use Rattle.js_machine_rows.proofs.TableLemmas.{rest-row}
use Rattle.js_machine_rows.proofs.table.behind_method.Goals as goal

pub returns-in-ObjectRest : goal.returns-in-ObjectRest
returns-in-ObjectRest g c =
    let ts = c.args.code.now.names.now in
    let v = g.W.World.world c.args.code.now.names.now c.args.world.now in
    λ context outer before.
    rest-row ts c.args.code.now.table.now c.args.form c.args.values.now c.args.from outer v
    (g.W.World.world ts c.object.new.world) context before c.object.result
    (members_at c.args.code.now.table.now c.args.form.info) c.in-ObjectRest.is refl c.object.ensures
