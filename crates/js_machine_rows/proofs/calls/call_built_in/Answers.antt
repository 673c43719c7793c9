use Rattle.js_semantics.specs.BuiltIns.{built_in_call}
use Rattle.js_machine_rows.proofs.CallLemmas.{log-called, line-called, given-acts}
use Rattle.js_machine_rows.proofs.calls.call_built_in.Goals as goal

pub returns-in-ConsoleLog : goal.returns-in-ConsoleLog
returns-in-ConsoleLog g c =
    let ts = c.args.code.now.names.now in
    let a = c.args.arguments.now in
    let v = g.W.World.world c.args.code.now.names.now c.args.world.now in
    log-called ts a c.args.f c.args.receiver v c.args.context.now c.log.result v c.log.new.context c.in-ConsoleLog.is
    c.log.ensures

pub returns-in-ReadLine : goal.returns-in-ReadLine
returns-in-ReadLine g c =
    let ts = c.args.code.now.names.now in
    let a = c.args.arguments.now in
    let v = g.W.World.world c.args.code.now.names.now c.args.world.now in
    line-called ts a c.args.f c.args.receiver v c.args.context.now c.read_line.result
    (g.W.World.world c.args.code.now.names.now c.read_line.new.world)
    c.read_line.new.context c.in-ReadLine.is c.read_line.ensures

pub returns-in_default : goal.returns-in_default
returns-in_default g c =
    let ts = c.args.code.now.names.now in
    let a = c.args.arguments.now in
    let v = g.W.World.world c.args.code.now.names.now c.args.world.now in
    given-acts ts a (built_in_call v c.args.f c.args.receiver a) v c.built_in_call.result
    (g.W.World.world c.args.code.now.names.now c.built_in_call.new.world)
    c.args.context.now c.replied.result c.built_in_call.ensures c.replied.ensures
