use Rattle.js_machine_nodes.specs.Trees.{program_of}
use Rattle.js_machine_rows.proofs.CallLemmas.{not-called}
use Rattle.js_machine_rows.proofs.calls.call_value.Goals as goal

pub returns-in_default : goal.returns-in_default
returns-in_default g c =
    let ts = c.args.code.now.names.now in
    let t = c.args.code.now.table.now in
    let a = c.args.given.now.arguments.now in
    let v = g.W.World.world c.args.code.now.names.now c.args.world.now in
    let p = program_of ts t in
    not-called ts t p a c.args.callee c.args.given.now.receiver v c.not_a_function.result
    (g.W.World.world c.args.code.now.names.now c.not_a_function.new.world)
    c.args.context.now c.stopped.result c.in_default.not-Object c.not_a_function.ensures c.stopped.ensures
