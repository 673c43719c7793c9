use Rattle.js_semantics.specs.BuiltIns.{last_of}
use Rattle.js_semantics.specs.State.{give}
use Rattle.js_machine_rows.proofs.PropertyLemmas.{index-assigned, no-index-put}
use Rattle.js_machine_rows.proofs.properties.assign_index.Goals as goal

pub returns-in-len2-up : goal.returns-in-len2-up
returns-in-len2-up g c =
    let ts = c.args.names.now in
    let vs = c.args.values.now in
    let v = g.W.World.world c.args.names.now c.args.world.now in
    index-assigned ts vs c.last_of-value.result v c.put_index_value-written.result
    (g.W.World.world c.args.names.now c.put_index_value-written.new.world)
    c.replied_with.result c.in-len2-up.len_at_least c.last_of-value.ensures c.put_index_value-written.ensures
    c.replied_with.ensures

pub returns-in_default : goal.returns-in_default
returns-in_default g c =
    let ts = c.args.names.now in
    let vs = c.args.values.now in
    let v = g.W.World.world c.args.names.now c.args.world.now in
    no-index-put ts vs (last_of vs) (give (last_of vs)) v c.in_default.len_below
