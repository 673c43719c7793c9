use Rattle.js_heap_memory.specs.Names.{name_of}
use Rattle.js_machine_rows.proofs.StatementLemmas.{initialize-reply}
use Rattle.js_machine_rows.proofs.statements.initialize.Goals as goal

pub returns : goal.returns
returns g c =
    initialize-reply c.args.names.now c.args.scope (name_of c.args.names.now c.args.name.number)
    c.args.values.now c.only-value.result (g.W.World.world c.args.names.now c.args.world.now) c.bind-bound.result
    (g.W.World.world c.args.names.now c.bind-bound.new.world)
    c.replied_with.result c.only-value.ensures c.bind-bound.ensures c.replied_with.ensures
