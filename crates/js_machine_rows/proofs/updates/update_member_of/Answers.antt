use Rattle.js_heap_memory.specs.Names.{name_of}
use Rattle.js_machine_rows.specs.Updates.{property_updated}
use Rattle.js_machine_rows.proofs.AnswerLemmas.{replies-by}
use Rattle.js_machine_rows.proofs.UpdateLemmas.{member-updated}
use Rattle.js_machine_rows.proofs.updates.update_member_of.Goals as goal

pub returns-in-Some-stepped : goal.returns-in-Some-stepped
returns-in-Some-stepped g c =
    let ts = c.args.code.now.names.now in
    let v = g.W.World.world c.args.code.now.names.now c.args.world.now in
    member-updated ts c.args.how.operator c.args.object (name_of ts c.args.key.number)
    c.args.how.prefix c.in-Some.old c.in-Some-stepped.new c.update_value-given.result v
    c.put_member_value-written.result
    (g.W.World.world c.args.code.now.names.now c.put_member_value-written.new.world)
    c.replied_with.result c.in-Some.ensures c.in-Some-stepped.ensures c.update_value-given.ensures
    c.put_member_value-written.ensures c.replied_with.ensures

pub returns : goal.returns
returns g c =
    let ts = c.args.code.now.names.now in
    let v = g.W.World.world c.args.code.now.names.now c.args.world.now in
    replies-by ts (property_updated v c.args.how.operator c.args.how.prefix c.args.object
    (name_of ts c.args.key.number))
    v c.update_member_slowly.result (g.W.World.world c.args.code.now.names.now c.update_member_slowly.new.world)
    c.replied.result c.update_member_slowly.ensures c.replied.ensures
