use Rattle.std.specs.Prelude.{true}
use Rattle.js_heap.specs.declared.value.Value.TheVariants as values
use Rattle.js_semantics.specs.State.{give}
use Rattle.js_machine_rows.proofs.PropertyLemmas.{index-deleted, no-index-removed}
use Rattle.js_machine_rows.proofs.properties.delete_index.Goals as goal

pub returns-in-len2-up : goal.returns-in-len2-up
returns-in-len2-up g c =
    let ts = c.args.names.now in
    let vs = c.args.values.now in
    let v = g.W.World.world c.args.names.now c.args.world.now in
    index-deleted ts vs (values.Bool true) v c.remove_index-deleted.result
    (g.W.World.world c.args.names.now c.remove_index-deleted.new.world)
    c.replied_with.result c.in-len2-up.len_at_least c.remove_index-deleted.ensures c.replied_with.ensures

pub returns-in_default : goal.returns-in_default
returns-in_default g c =
    let ts = c.args.names.now in
    let vs = c.args.values.now in
    let v = g.W.World.world c.args.names.now c.args.world.now in
    no-index-removed ts vs (give (values.Bool true)) v c.in_default.len_below
