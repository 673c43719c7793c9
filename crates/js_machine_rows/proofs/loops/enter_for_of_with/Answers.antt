use Rattle.js_heap_memory.specs.Cells.{binding_at}
use Rattle.js_machine_rows.proofs.LoopLemmas.{for-of-none, for-of-part}
use Rattle.js_machine_rows.proofs.loops.enter_for_of_with.Goals as goal

pub returns-in_default : goal.returns-in_default
returns-in_default g c =
    for-of-none c.args.code.now.names.now c.args.code.now.table.now c.args.form c.args.entry.node
    (binding_at c.args.code.now.names.now c.args.entry.slot) (g.W.World.world c.args.code.now.names.now
    c.args.world.now)
    c.args.context.now c.in_default.ensures

pub returns : goal.returns
returns g c =
    for-of-part c.args.code.now.names.now c.args.code.now.table.now c.args.form c.args.entry c.in-Some.field-0
    (g.W.World.world c.args.code.now.names.now c.args.world.now)
    (g.W.World.world c.args.code.now.names.now c.nameless_scope-own.new.world)
    c.args.context.now c.set_here.new.self c.nameless_scope-own.result c.lists_in.result c.requires c.in-Some.ensures
    c.set_here.ensures c.nameless_scope-own.ensures c.lists_in.ensures
