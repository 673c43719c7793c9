use Rattle.js_semantics.specs.References.{found, value_of_found}
use Rattle.js_heap_memory.specs.Names.{name_of}
use Rattle.js_machine_rows.proofs.AnswerLemmas.{result-reply}
use Rattle.js_machine_rows.proofs.names.read_name_slowly.Goals as goal

pub returns : goal.returns
returns g c =
    let v = g.W.World.world c.args.names.now c.args.world.now in
    let n = name_of c.args.names.now c.args.name.number in
    result-reply c.args.names.now (value_of_found n (found v c.args.scope n)) v c.get_name.result
    (g.W.World.world c.args.names.now c.get_name.new.world) c.replied.result c.get_name.ensures c.replied.ensures
