use Rattle.std.proofs.Common.{refl}
use Rattle.js_heap_memory.specs.Cells.{name_text}
use Rattle.js_machine_rows.specs.Calls.{entry_code}
use Rattle.js_machine_rows.proofs.CallLemmas.{enters-scope, enters-not}
use Rattle.js_machine_rows.proofs.calls.enter.Goals as goal

pub returns-in-Ok : goal.returns-in-Ok
returns-in-Ok g c =
    let ts = c.args.code.now.names.now in
    let t = c.args.code.now.table.now in
    let v = g.W.World.world c.args.code.now.names.now c.args.world.now in
    let i = c.args.callee in
    let n = name_text ts i.name in
    let x = entry_code ts t c.args.place c.args.compiled.now in
    enters-scope ts t x i.source i.function n i.outer i.receiver i.arguments.now c.in-Ok.own
    c.args.compiled.now.node
    c.args.place.body v
    (g.W.World.world c.args.code.now.names.now c.call_scope.new.world)
    c.args.context.now c.enter_frame.new.context c.enter_frame.result c.in-Ok.ensures
    (c.enter_frame.ensures i.source i.function i.receiver c.new-frame.ensures) refl refl

pub returns-in-Err : goal.returns-in-Err
returns-in-Err g c =
    let ts = c.args.code.now.names.now in
    let t = c.args.code.now.table.now in
    let v = g.W.World.world c.args.code.now.names.now c.args.world.now in
    let i = c.args.callee in
    let n = name_text ts i.name in
    let x = entry_code ts t c.args.place c.args.compiled.now in
    enters-not ts t x i.source i.function n i.outer i.receiver i.arguments.now v
    (g.W.World.world c.args.code.now.names.now c.call_scope.new.world)
    c.args.context.now c.in-Err.stop c.stopped.result c.in-Err.ensures c.stopped.ensures
