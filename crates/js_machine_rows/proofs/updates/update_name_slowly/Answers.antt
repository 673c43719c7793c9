use Rattle.js_semantics.specs.References.{found}
use Rattle.js_heap_memory.specs.Names.{name_of}
use Rattle.js_machine_rows.proofs.UpdateLemmas.{read-updated, name-stops}
use Rattle.js_machine_rows.proofs.updates.update_name_slowly.Goals as goal

pub returns-in-Ok : goal.returns-in-Ok
returns-in-Ok g c =
    let ts = c.args.code.now.names.now in
    let v = g.W.World.world c.args.code.now.names.now c.args.world.now in
    let w = g.W.World.world c.args.code.now.names.now c.get_name.new.world in
    let n = name_of ts c.args.name.number in
    read-updated c.args.how.operator c.args.how.prefix n c.args.scope v w c.in-Ok.old c.update_old_name.result
    (g.W.World.world c.args.code.now.names.now c.update_old_name.new.world) c.in-Ok.ensures c.update_old_name.ensures

pub returns-in-Err : goal.returns-in-Err
returns-in-Err g c =
    let ts = c.args.code.now.names.now in
    let v = g.W.World.world c.args.code.now.names.now c.args.world.now in
    let w = g.W.World.world c.args.code.now.names.now c.get_name.new.world in
    let n = name_of ts c.args.name.number in
    name-stops c.args.how.operator c.args.how.prefix n (found v c.args.scope n) v c.in-Err.stop w c.in-Err.ensures
