use Rattle.js_heap_memory.specs.Cells.{binding_at}
use Rattle.js_machine_rows.proofs.LoopLemmas.{list-goes, list-fails}
use Rattle.js_machine_rows.proofs.loops.list_with.Goals as goal

pub returns-then-is_array : goal.returns-then-is_array
returns-then-is_array g c =
    list-goes c.args.code.now.names.now c.args.code.now.table.now c.args.form.info c.args.entry c.only-list.result
    c.args.values.now
    (g.W.World.world c.args.code.now.names.now c.args.world.now) c.requires c.only-list.ensures c.if-is_array.ensures

pub returns : goal.returns
returns g c =
    list-fails c.args.code.now.names.now c.args.code.now.table.now c.args.form.info
    (binding_at c.args.code.now.names.now c.args.entry.slot)
    c.only-list.result c.args.values.now (g.W.World.world c.args.code.now.names.now c.args.world.now)
    (g.W.World.world c.args.code.now.names.now c.fail_with.new.world)
    c.fail_with.result c.stopped.result c.only-list.ensures c.if-is_array.ensures c.fail_with.ensures c.stopped.ensures
