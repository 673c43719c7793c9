use Rattle.js_machine_nodes.specs.Trees.{program_of}
use Rattle.js_machine_rows.proofs.CallLemmas.{call-split, no-call-split}
use Rattle.js_machine_rows.proofs.calls.call.Goals as goal

pub returns-in-len2-up : goal.returns-in-len2-up
returns-in-len2-up g c =
    let ts = c.args.code.now.names.now in
    let t = c.args.code.now.table.now in
    call-split ts t (program_of ts t) c.args.place c.args.values.now
    (g.W.World.world c.args.code.now.names.now c.args.world.now)
    c.args.context.now c.set_here.new.self c.call_value.result
    (g.W.World.world c.args.code.now.names.now c.call_value.new.world)
    c.call_value.new.context c.in-len2-up.len_at_least c.set_here.ensures c.call_value.ensures

pub returns-in_default : goal.returns-in_default
returns-in_default g c =
    let ts = c.args.code.now.names.now in
    let t = c.args.code.now.table.now in
    no-call-split ts t (program_of ts t) c.args.place c.args.values.now
    (g.W.World.world c.args.code.now.names.now c.args.world.now)
    c.args.context.now c.in_default.len_below
