use Rattle.std.proofs.Common.{refl, slice_get, None}
use Rattle.js_machine_rows.proofs.ArmLemmas.{break-row, continue-row, ended-row, frame-row, throw-row}
use Rattle.js_machine_rows.proofs.TableLemmas.{block-row, debugger-row, initialize-row, script-row}
use Rattle.js_machine_rows.proofs.table.statement.Goals as goal

pub returns-in-Frame : goal.returns-in-Frame
returns-in-Frame g c =
    let ts = c.args.code.now.names.now in
    let v = g.W.World.world c.args.code.now.names.now c.args.world.now in
    frame-row ts c.args.code.now.table.now c.args.form c.args.values.now v c.args.context.now c.frame.new.context
    c.frame.result
    c.in-Frame.is c.frame.ensures

pub returns-in-Block : goal.returns-in-Block
returns-in-Block g c =
    let ts = c.args.code.now.names.now in
    let v = g.W.World.world c.args.code.now.names.now c.args.world.now in
    λ outer before.
    block-row ts c.args.code.now.table.now c.args.form c.args.values.now outer v (g.W.World.world ts c.block.new.world)
    c.args.context.now before c.block.result _ c.in-Block.is refl c.block.ensures

pub returns-in-Initialize : goal.returns-in-Initialize
returns-in-Initialize g c =
    let ts = c.args.code.now.names.now in
    let v = g.W.World.world c.args.code.now.names.now c.args.world.now in
    λ outer before.
    initialize-row ts c.args.code.now.table.now c.args.form c.args.values.now outer v
    (g.W.World.world ts c.initialize.new.world)
    c.args.context.now before c.initialize.result c.in-Initialize.is c.initialize.ensures

pub returns-in-Break : goal.returns-in-Break
returns-in-Break g c =
    let ts = c.args.code.now.names.now in
    let v = g.W.World.world c.args.code.now.names.now c.args.world.now in
    break-row ts c.args.code.now.table.now c.args.form c.args.values.now v c.args.context.now c.in-Break.is

pub returns-in-Continue : goal.returns-in-Continue
returns-in-Continue g c =
    let ts = c.args.code.now.names.now in
    let v = g.W.World.world c.args.code.now.names.now c.args.world.now in
    continue-row ts c.args.code.now.table.now c.args.form c.args.values.now v c.args.context.now c.in-Continue.is

pub returns-in-Throw : goal.returns-in-Throw
returns-in-Throw g c =
    let ts = c.args.code.now.names.now in
    let v = g.W.World.world c.args.code.now.names.now c.args.world.now in
    throw-row ts c.args.code.now.table.now c.args.form c.args.values.now v c.args.context.now c.throw.new.context
    c.throw.result
    c.in-Throw.is c.throw.ensures

pub returns-in-EnterDebugger : goal.returns-in-EnterDebugger
returns-in-EnterDebugger g c =
    let ts = c.args.code.now.names.now in
    let v = g.W.World.world c.args.code.now.names.now c.args.world.now in
    λ outer before.
    debugger-row ts c.args.code.now.table.now c.args.form c.args.values.now outer v c.args.context.now
    c.enter.new.context before
    c.enter.result c.in-EnterDebugger.is c.enter.ensures

pub returns-in-Script : goal.returns-in-Script
returns-in-Script g c =
    let ts = c.args.code.now.names.now in
    let v = g.W.World.world c.args.code.now.names.now c.args.world.now in
    λ outer before.
    script-row ts c.args.code.now.table.now c.args.form c.args.values.now outer v
    (g.W.World.world ts c.script.new.world)
    c.args.context.now c.script.new.context before c.script.result
    (slice_get c.args.code.now.table.now.scripts.items c.args.form.info) c.in-Script.is refl c.script.ensures

pub returns-in-Ending : goal.returns-in-Ending
returns-in-Ending g c =
    let ts = c.args.code.now.names.now in
    let v = g.W.World.world c.args.code.now.names.now c.args.world.now in
    ended-row ts c.args.code.now.table.now c.args.form c.args.values.now None v c.args.context.now c.in-Ending.is refl
