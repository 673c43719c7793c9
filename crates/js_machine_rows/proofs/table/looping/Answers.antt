use Rattle.std.proofs.Common.{refl, slice_get}
use Rattle.js_machine_rows.proofs.TableLemmas.{body-row, doing-row, first-row, for-of-row, for-row, list-row, updating-row}
use Rattle.js_machine_rows.proofs.table.looping.Goals as goal

pub returns-in-LoopBody : goal.returns-in-LoopBody
returns-in-LoopBody g c =
    let ts = c.args.code.now.names.now in
    let v = g.W.World.world c.args.code.now.names.now c.args.world.now in
    λ outer before.
    body-row ts c.args.code.now.table.now c.args.form c.args.values.now outer v
    (g.W.World.world ts c.loop_body.new.world)
    c.args.context.now before c.loop_body.result c.in-LoopBody.is c.loop_body.ensures

pub returns-in-LoopFirst : goal.returns-in-LoopFirst
returns-in-LoopFirst g c =
    let ts = c.args.code.now.names.now in
    let v = g.W.World.world c.args.code.now.names.now c.args.world.now in
    λ outer before.
    first-row ts c.args.code.now.table.now c.args.form c.args.values.now outer v
    (g.W.World.world ts c.loop_first.new.world)
    c.args.context.now before c.loop_first.result c.in-LoopFirst.is c.loop_first.ensures

pub returns-in-LoopDoing : goal.returns-in-LoopDoing
returns-in-LoopDoing g c =
    let ts = c.args.code.now.names.now in
    let v = g.W.World.world c.args.code.now.names.now c.args.world.now in
    λ outer before.
    doing-row ts c.args.code.now.table.now c.args.form c.args.values.now outer v c.args.context.now before
    c.in-LoopDoing.is

pub returns-in-LoopUpdating : goal.returns-in-LoopUpdating
returns-in-LoopUpdating g c =
    let ts = c.args.code.now.names.now in
    let v = g.W.World.world c.args.code.now.names.now c.args.world.now in
    λ outer before.
    updating-row ts c.args.code.now.table.now c.args.form c.args.values.now outer v c.args.context.now before
    c.in-LoopUpdating.is

pub returns-in-EnterFor : goal.returns-in-EnterFor
returns-in-EnterFor g c =
    let ts = c.args.code.now.names.now in
    let v = g.W.World.world c.args.code.now.names.now c.args.world.now in
    λ outer before.
    for-row ts c.args.code.now.table.now c.args.form c.args.values.now outer v
    (g.W.World.world ts c.enter_for.new.world)
    c.args.context.now c.enter_for.new.context before c.enter_for.result
    (slice_get c.args.code.now.table.now.fors.items c.args.form.info) c.in-EnterFor.is refl c.enter_for.ensures

pub returns-in-EnterForOf : goal.returns-in-EnterForOf
returns-in-EnterForOf g c =
    let ts = c.args.code.now.names.now in
    let v = g.W.World.world c.args.code.now.names.now c.args.world.now in
    λ outer before.
    for-of-row ts c.args.code.now.table.now c.args.form c.args.values.now outer v
    (g.W.World.world ts c.enter_for_of.new.world)
    c.args.context.now c.enter_for_of.new.context before c.enter_for_of.result
    (slice_get c.args.code.now.table.now.for_ofs.items c.args.form.info) c.in-EnterForOf.is refl c.enter_for_of.ensures

pub returns-in-ListOf : goal.returns-in-ListOf
returns-in-ListOf g c =
    let ts = c.args.code.now.names.now in
    let v = g.W.World.world c.args.code.now.names.now c.args.world.now in
    λ outer before.
    list-row ts c.args.code.now.table.now c.args.form c.args.values.now outer v (g.W.World.world ts c.list_of.new.world)
    c.args.context.now before c.list_of.result (slice_get c.args.code.now.table.now.for_ofs.items c.args.form.info)
    c.in-ListOf.is refl c.list_of.ensures
