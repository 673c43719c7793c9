use Rattle.js_semantics.specs.References.{found, name_written}
use Rattle.js_heap_memory.specs.Names.{name_of}
use Rattle.js_machine_rows.proofs.AnswerLemmas.{written-reply}
use Rattle.js_machine_rows.proofs.names.assign_name_slowly.Goals as goal

pub returns : goal.returns
returns g c =
    let v = g.W.World.world c.args.names.now c.args.world.now in
    let n = name_of c.args.names.now c.args.name.number in
    written-reply c.args.names.now (name_written n (found v c.args.scope n) c.args.value)
    c.args.value v c.put_name.result (g.W.World.world c.args.names.now c.put_name.new.world)
    c.replied_with.result c.put_name.ensures c.replied_with.ensures
