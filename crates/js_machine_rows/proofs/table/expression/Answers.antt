use Rattle.std.proofs.Common.{refl, slice_get}
use Rattle.js_machine_nodes.specs.Forms.{members_at}
use Rattle.js_machine_rows.proofs.ArmLemmas.{comma-row, this-row, typeof-row, unary-row}
use Rattle.js_machine_rows.proofs.TableLemmas.{array-row, both-row, either-row, function-row, object-row}
use Rattle.js_machine_rows.proofs.table.expression.Goals as goal

pub returns-in-Unary : goal.returns-in-Unary
returns-in-Unary g c =
    let ts = c.args.code.now.names.now in
    let v = g.W.World.world c.args.code.now.names.now c.args.world.now in
    unary-row ts c.args.code.now.table.now c.args.form c.args.values.now c.in-Unary.operator v
    (g.W.World.world ts c.unary.new.world) c.args.context.now c.unary.result c.in-Unary.is c.unary.ensures

pub returns-in-This : goal.returns-in-This
returns-in-This g c =
    let ts = c.args.code.now.names.now in
    let v = g.W.World.world c.args.code.now.names.now c.args.world.now in
    this-row ts c.args.code.now.table.now c.args.form c.args.values.now v c.args.context.now c.this.result c.in-This.is
    c.this.ensures

pub returns-in-TypeofName : goal.returns-in-TypeofName
returns-in-TypeofName g c =
    let ts = c.args.code.now.names.now in
    let v = g.W.World.world c.args.code.now.names.now c.args.world.now in
    typeof-row ts c.args.code.now.table.now c.args.form c.args.values.now v (g.W.World.world ts c.typeof_name.new.world)
    c.args.context.now c.typeof_name.result c.in-TypeofName.is c.typeof_name.ensures

pub returns-in-Both : goal.returns-in-Both
returns-in-Both g c =
    let ts = c.args.code.now.names.now in
    let v = g.W.World.world c.args.code.now.names.now c.args.world.now in
    λ outer before.
    both-row ts c.args.code.now.table.now c.args.form c.args.values.now outer v c.args.context.now before c.both.result
    c.in-Both.is c.both.ensures

pub returns-in-Either : goal.returns-in-Either
returns-in-Either g c =
    let ts = c.args.code.now.names.now in
    let v = g.W.World.world c.args.code.now.names.now c.args.world.now in
    λ outer before.
    either-row ts c.args.code.now.table.now c.args.form c.args.values.now outer v c.args.context.now before
    c.either.result
    c.in-Either.is c.either.ensures

pub returns-in-Comma : goal.returns-in-Comma
returns-in-Comma g c =
    let ts = c.args.code.now.names.now in
    let v = g.W.World.world c.args.code.now.names.now c.args.world.now in
    comma-row ts c.args.code.now.table.now c.args.form c.args.values.now v c.args.context.now c.comma.result
    c.in-Comma.is
    c.comma.ensures

pub returns-in-Array : goal.returns-in-Array
returns-in-Array g c =
    let ts = c.args.code.now.names.now in
    let v = g.W.World.world c.args.code.now.names.now c.args.world.now in
    λ outer before.
    array-row ts c.args.code.now.table.now c.args.form c.args.values.now outer v (g.W.World.world ts c.array.new.world)
    c.args.context.now before c.array.result c.in-Array.is c.array.ensures

pub returns-in-Function : goal.returns-in-Function
returns-in-Function g c =
    let ts = c.args.code.now.names.now in
    let v = g.W.World.world c.args.code.now.names.now c.args.world.now in
    λ outer before.
    function-row ts c.args.code.now.table.now c.args.form c.args.values.now outer v
    (g.W.World.world ts c.function.new.world)
    c.args.context.now before c.function.result (slice_get c.args.code.now.table.now.functions.items c.args.form.info)
    c.in-Function.is refl c.function.ensures

pub returns-in-Object : goal.returns-in-Object
returns-in-Object g c =
    let ts = c.args.code.now.names.now in
    let v = g.W.World.world c.args.code.now.names.now c.args.world.now in
    λ outer before.
    object-row ts c.args.code.now.table.now c.args.form c.args.values.now outer v
    (g.W.World.world ts c.object.new.world)
    c.args.context.now before c.object.result (members_at c.args.code.now.table.now c.args.form.info)
    c.in-Object.is refl c.object.ensures
