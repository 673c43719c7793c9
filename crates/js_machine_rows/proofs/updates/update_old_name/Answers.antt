use Rattle.js_semantics.specs.References.{found}
use Rattle.js_heap_memory.specs.Names.{name_of}
use Rattle.js_machine_rows.proofs.UpdateLemmas.{old-fails, old-refused, old-written}
use Rattle.js_machine_rows.proofs.updates.update_old_name.Goals as goal

pub returns-in_err-put_name-in-To : goal.returns-in_err-put_name-in-To
returns-in_err-put_name-in-To g c =
    let ts = c.args.code.now.names.now in
    let v = g.W.World.world c.args.code.now.names.now c.args.world.now in
    let n = name_of ts c.args.name.number in
    let p = found v c.args.scope n in
    let w = g.W.World.world c.args.code.now.names.now c.put_name.new.world in
    old-refused c.args.how.operator c.args.how.prefix n p c.args.old c.in_ok-old.field-0 c.in-To.old c.in-To.new v
    c.put_name.result c.from_residual-in_err-put_name-in-To.result w c.in_err-put_name-in-To.field-0.0
    c.in_ok-old.ensures c.in-To.is c.put_name.ensures c.in_err-put_name-in-To.was
    c.from_residual-in_err-put_name-in-To.ensures.1

pub returns-in_ok-put_name-in-To : goal.returns-in_ok-put_name-in-To
returns-in_ok-put_name-in-To g c =
    let ts = c.args.code.now.names.now in
    let v = g.W.World.world c.args.code.now.names.now c.args.world.now in
    let n = name_of ts c.args.name.number in
    let p = found v c.args.scope n in
    let w = g.W.World.world c.args.code.now.names.now c.put_name.new.world in
    old-written c.args.how.operator c.args.how.prefix n p c.args.old c.in_ok-old.field-0 c.in-To.old c.in-To.new
    c.update_value.result v c.put_name.result w c.in_ok-put_name-in-To.field-0 c.in_ok-old.ensures c.in-To.is
    c.put_name.ensures c.in_ok-put_name-in-To.was c.update_value.ensures

pub returns-in-Fails : goal.returns-in-Fails
returns-in-Fails g c =
    let ts = c.args.code.now.names.now in
    let v = g.W.World.world c.args.code.now.names.now c.args.world.now in
    let n = name_of ts c.args.name.number in
    let p = found v c.args.scope n in
    old-fails c.args.how.operator c.args.how.prefix n p c.args.old c.in_ok-old.field-0 c.in-Fails.class
    c.in-Fails.message v
    c.fail.result
    (g.W.World.world c.args.code.now.names.now c.fail.new.world) c.in_ok-old.ensures c.in-Fails.is c.fail.ensures
