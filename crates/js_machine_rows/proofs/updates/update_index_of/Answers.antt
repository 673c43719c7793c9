use Rattle.js_machine_rows.specs.Updates.{index_updated}
use Rattle.js_machine_rows.proofs.AnswerLemmas.{replies-by}
use Rattle.js_machine_rows.proofs.UpdateLemmas.{index-updated}
use Rattle.js_machine_rows.proofs.updates.update_index_of.Goals as goal

pub returns-in-Some-stepped : goal.returns-in-Some-stepped
returns-in-Some-stepped g c =
    let ts = c.args.code.now.names.now in
    let v = g.W.World.world c.args.code.now.names.now c.args.world.now in
    index-updated ts c.args.how.operator c.args.object c.args.index c.args.how.prefix c.in-Some.old
    c.in-Some-stepped.new
    c.update_value-given.result v c.put_index_value-written.result
    (g.W.World.world c.args.code.now.names.now c.put_index_value-written.new.world)
    c.replied_with.result c.in-Some.ensures c.in-Some-stepped.ensures c.update_value-given.ensures
    c.put_index_value-written.ensures c.replied_with.ensures

pub returns : goal.returns
returns g c =
    let ts = c.args.code.now.names.now in
    let v = g.W.World.world c.args.code.now.names.now c.args.world.now in
    replies-by ts (index_updated v c.args.how.operator c.args.how.prefix c.args.object c.args.index)
    v c.update_index_slowly.result (g.W.World.world c.args.code.now.names.now c.update_index_slowly.new.world)
    c.replied.result c.update_index_slowly.ensures c.replied.ensures
