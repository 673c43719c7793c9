use Rattle.js_machine_rows.proofs.ArmLemmas.{catching-name-row, catching-row, finishing-row, scoped-row, scripts-row, sequence-row}
use Rattle.js_machine_rows.proofs.table.valued.Goals as goal

pub returns-in-Sequence : goal.returns-in-Sequence
returns-in-Sequence g c =
    let ts = c.args.code.now.names.now in
    let v = g.W.World.world c.args.code.now.names.now c.args.world.now in
    sequence-row ts c.args.code.now.table.now c.args.form c.args.values.now v c.args.context.now c.last.result
    c.in-Sequence.is
    c.last.ensures

pub returns-in-Scoped : goal.returns-in-Scoped
returns-in-Scoped g c =
    let ts = c.args.code.now.names.now in
    let v = g.W.World.world c.args.code.now.names.now c.args.world.now in
    scoped-row ts c.args.code.now.table.now c.args.form c.args.values.now v c.args.context.now c.last-in-Scoped.result
    c.in-Scoped.is c.last-in-Scoped.ensures

pub returns-in-Scripts : goal.returns-in-Scripts
returns-in-Scripts g c =
    let ts = c.args.code.now.names.now in
    let v = g.W.World.world c.args.code.now.names.now c.args.world.now in
    scripts-row ts c.args.code.now.table.now c.args.form c.args.values.now v c.args.context.now c.last-in-Scripts.result
    c.in-Scripts.is c.last-in-Scripts.ensures

pub returns-in-Catching : goal.returns-in-Catching
returns-in-Catching g c =
    let ts = c.args.code.now.names.now in
    let v = g.W.World.world c.args.code.now.names.now c.args.world.now in
    catching-row ts c.args.code.now.table.now c.args.form c.args.values.now v c.args.context.now
    c.last-in-Catching.result
    c.in-Catching.is c.last-in-Catching.ensures

pub returns-in-CatchingName : goal.returns-in-CatchingName
returns-in-CatchingName g c =
    let ts = c.args.code.now.names.now in
    let v = g.W.World.world c.args.code.now.names.now c.args.world.now in
    catching-name-row ts c.args.code.now.table.now c.args.form c.args.values.now v c.args.context.now
    c.last-in-CatchingName.result c.in-CatchingName.is c.last-in-CatchingName.ensures

pub returns-in-Finishing : goal.returns-in-Finishing
returns-in-Finishing g c =
    let ts = c.args.code.now.names.now in
    let v = g.W.World.world c.args.code.now.names.now c.args.world.now in
    finishing-row ts c.args.code.now.table.now c.args.form c.args.values.now v c.args.context.now
    c.last-in-Finishing.result
    c.in-Finishing.is c.last-in-Finishing.ensures
