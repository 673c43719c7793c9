use Rattle.js_machine_rows.proofs.CallLemmas.{line-read, line-stops}
use Rattle.js_machine_rows.proofs.calls.read_line.Goals as goal

pub returns-in-Ok : goal.returns-in-Ok
returns-in-Ok g c =
    line-read c.args.names.now c.in-Ok.line c.line_value.result (g.W.World.world c.args.names.now c.args.world.now)
    (g.W.World.world c.args.names.now c.line_value.new.world)
    c.args.context.now c.take_line.new.self c.replied.result c.in-Ok.ensures c.line_value.ensures c.replied.ensures

pub returns-in-Err : goal.returns-in-Err
returns-in-Err g c =
    line-stops c.args.names.now c.in-Err.stop (g.W.World.world c.args.names.now c.args.world.now)
    c.args.context.now c.take_line.new.self c.stopped.result c.in-Err.ensures c.stopped.ensures
