use Rattle.js_heap_memory.specs.Names.{name_of}
use Rattle.js_machine_rows.proofs.LiteralLemmas.{cell-yields}
use Rattle.js_machine_rows.proofs.literals.nameless_function.Goals as goal

pub returns : goal.returns
returns g c =
    cell-yields c.args.names.now c.args.entry.now (name_of c.args.names.now c.args.entry.now.name.number)
    c.args.scope c.args.receiver c.in_ok-count.count (g.W.World.world c.args.names.now c.args.world.now)
    c.make_function.result (g.W.World.world c.args.names.now c.make_function.new.world)
    c.in_ok-count.ensures c.make_function.ensures
