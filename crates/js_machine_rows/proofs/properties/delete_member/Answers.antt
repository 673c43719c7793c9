use Rattle.std.specs.Prelude.{true}
use Rattle.js_heap.specs.declared.value.Value.TheVariants as values
use Rattle.js_semantics.specs.State.{give}
use Rattle.js_heap_memory.specs.Names.{name_of}
use Rattle.js_machine_rows.proofs.PropertyLemmas.{member-deleted, no-member-removed}
use Rattle.js_machine_rows.proofs.properties.delete_member.Goals as goal

pub returns-in-len1-up : goal.returns-in-len1-up
returns-in-len1-up g c =
    let ts = c.args.names.now in
    let vs = c.args.values.now in
    let v = g.W.World.world c.args.names.now c.args.world.now in
    member-deleted ts vs (values.Bool true) (name_of ts c.args.key.number) v c.delete_own-deleted.result
    (g.W.World.world c.args.names.now c.delete_own-deleted.new.world)
    c.replied_with.result c.in-len1-up.len_at_least c.delete_own-deleted.ensures c.replied_with.ensures

pub returns-in-empty : goal.returns-in-empty
returns-in-empty g c =
    let ts = c.args.names.now in
    let vs = c.args.values.now in
    let v = g.W.World.world c.args.names.now c.args.world.now in
    no-member-removed ts vs (name_of ts c.args.key.number) (give (values.Bool true)) v c.in-empty.len_below
