use Rattle.js_heap_memory.specs.Cells.{bindings}
use Rattle.js_machine_rows.proofs.LoopLemmas.{for-reply}
use Rattle.js_machine_rows.proofs.loops.enter_for_with.Goals as goal

pub returns : goal.returns
returns g c =
    for-reply c.args.names.now c.args.scope c.args.entry.now.node c.args.entry.now.constant
    (bindings c.args.names.now c.args.entry.now.names) (g.W.World.world c.args.names.now c.args.world.now)
    (g.W.World.world c.args.names.now c.nameless_scope-own.new.world)
    c.args.context.now c.set_here.new.self c.nameless_scope-own.result c.initializes_in.result c.set_here.ensures
    (rw (← c.slice-slots.ensures) c.nameless_scope-own.ensures) c.initializes_in.ensures
