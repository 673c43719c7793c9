use Rattle.js_machine_rows.proofs.UpdateLemmas.{second-updated, no-second-updated}
use Rattle.js_machine_rows.proofs.updates.update_index.Goals as goal

pub returns-in-len2-up : goal.returns-in-len2-up
returns-in-len2-up g c =
    let ts = c.args.code.now.names.now in
    let vs = c.args.values.now in
    let v = g.W.World.world c.args.code.now.names.now c.args.world.now in
    second-updated ts c.args.how.operator c.args.how.prefix vs v c.update_index_of.result
    (g.W.World.world c.args.code.now.names.now c.update_index_of.new.world) c.in-len2-up.len_at_least
    c.update_index_of.ensures

pub returns-in_default : goal.returns-in_default
returns-in_default g c =
    let ts = c.args.code.now.names.now in
    let vs = c.args.values.now in
    let v = g.W.World.world c.args.code.now.names.now c.args.world.now in
    no-second-updated ts c.args.how.operator c.args.how.prefix vs v c.not_numbers.result
    (g.W.World.world c.args.code.now.names.now c.not_numbers.new.world) c.stopped.result c.in_default.len_below
    c.not_numbers.ensures c.stopped.ensures
