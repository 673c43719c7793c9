use Rattle.js_semantics.specs.References.{found}
use Rattle.js_semantics.specs.Rows.{type_of_found}
use Rattle.js_heap_memory.specs.Names.{name_of}
use Rattle.js_machine_rows.proofs.AnswerLemmas.{replies-by}
use Rattle.js_machine_rows.proofs.names.typeof_name.Goals as goal

pub returns : goal.returns
returns g c =
    let v = g.W.World.world c.args.names.now c.args.world.now in
    let n = name_of c.args.names.now c.args.name.number in
    replies-by c.args.names.now (type_of_found v n (found v c.args.scope n)) v c.type_of_name.result
    (g.W.World.world c.args.names.now c.type_of_name.new.world)
    c.replied.result c.type_of_name.ensures c.replied.ensures
