use Rattle.js_semantics.specs.BuiltIns.{last_of}
use Rattle.js_semantics.specs.State.{give}
use Rattle.js_heap_memory.specs.Names.{name_of}
use Rattle.js_machine_rows.proofs.PropertyLemmas.{member-assigned, no-member-put}
use Rattle.js_machine_rows.proofs.properties.assign_member.Goals as goal

pub returns-in-len1-up : goal.returns-in-len1-up
returns-in-len1-up g c =
    let ts = c.args.names.now in
    let vs = c.args.values.now in
    let v = g.W.World.world c.args.names.now c.args.world.now in
    member-assigned ts vs c.last_of-value.result (name_of ts c.args.key.number) v c.put_member_value-written.result
    (g.W.World.world c.args.names.now c.put_member_value-written.new.world)
    c.replied_with.result c.in-len1-up.len_at_least c.last_of-value.ensures c.put_member_value-written.ensures
    c.replied_with.ensures

pub returns-in-empty : goal.returns-in-empty
returns-in-empty g c =
    let ts = c.args.names.now in
    let vs = c.args.values.now in
    let v = g.W.World.world c.args.names.now c.args.world.now in
    no-member-put ts vs (name_of ts c.args.key.number) (last_of vs) (give (last_of vs)) v c.in-empty.len_below
