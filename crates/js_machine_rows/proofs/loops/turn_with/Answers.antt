use Rattle.js_heap_memory.specs.Cells.{binding_at}
use Rattle.js_machine_rows.proofs.LoopLemmas.{turn-none, turn-part}
use Rattle.js_machine_rows.proofs.loops.turn_with.Goals as goal

pub returns-in_default : goal.returns-in_default
returns-in_default g c =
    turn-none c.args.code.now.names.now c.args.code.now.table.now c.args.form
    (binding_at c.args.code.now.names.now c.args.entry.slot)
    c.args.list c.args.index (g.W.World.world c.args.code.now.names.now c.args.world.now) c.in_default.ensures

pub returns : goal.returns
returns g c =
    turn-part c.args.code.now.names.now c.args.code.now.table.now c.args.form c.args.entry c.args.list c.in-Some.value
    c.args.index
    c.turn_slot-slot.result
    (g.W.World.world c.args.code.now.names.now c.args.world.now)
    (g.W.World.world c.args.code.now.names.now c.nameless_scope-own.new.world)
    c.nameless_scope-own.result c.iterated_in.result c.requires c.in-Some.ensures c.turn_slot-slot.ensures
    c.nameless_scope-own.ensures c.iterated_in.ensures
