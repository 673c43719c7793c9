use Rattle.js_machine_rows.proofs.CallLemmas.{log-prints, log-stops}
use Rattle.js_machine_rows.proofs.calls.log.Goals as goal

pub returns-in-Ok-print : goal.returns-in-Ok-print
returns-in-Ok-print g c =
    log-prints c.args.names.now c.args.arguments.now c.in-Ok.text (g.W.World.world c.args.names.now c.args.world.now)
    c.args.context.now c.print.new.self c.in-Ok.ensures c.in-Ok-print.ensures

pub returns-in-Err-print : goal.returns-in-Err-print
returns-in-Err-print g c =
    log-stops c.args.names.now c.args.arguments.now c.in-Ok.text (g.W.World.world c.args.names.now c.args.world.now)
    c.args.context.now c.print.new.self c.in-Err-print.stop c.stopped.result c.in-Ok.ensures c.in-Err-print.ensures
    c.stopped.ensures
