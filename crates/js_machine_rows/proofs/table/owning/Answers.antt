use Rattle.std.proofs.Common.{ap, Some}
use Rattle.js_machine_engine.specs.declared.task.Extra.TheVariants as extras
use Rattle.js_machine_rows.proofs.ArmLemmas.{same-extra}
use Rattle.js_machine_rows.proofs.table.owning.Goals as goal

pub returns-in-Kept : goal.returns-in-Kept
returns-in-Kept g c =
    let ts = c.args.code.now.names.now in
    let v = g.W.World.world ts c.args.world.now in
    same-extra ts c.args.code.now.table.now c.args.form c.args.values.now (Some c.args.extra)
    (Some (extras.Kept c.in-Kept.completion)) v v c.args.context.now c.args.context.now c.resumed.result
    (ap (λ x. Some x) c.in-Kept.is) (c.resumed.ensures ts c.args.code.now.table.now c.args.values.now v
    c.args.context.now)

pub returns-in-Turn : goal.returns-in-Turn
returns-in-Turn g c =
    let ts = c.args.code.now.names.now in
    same-extra ts c.args.code.now.table.now c.args.form c.args.values.now (Some c.args.extra)
    (Some (extras.Turn c.in-Turn.list c.in-Turn.index)) (g.W.World.world ts c.args.world.now)
    (g.W.World.world ts c.turning.new.world) c.args.context.now c.args.context.now c.turning.result
    (ap (λ x. Some x) c.in-Turn.is) (c.turning.ensures c.args.context.now)

pub returns-in-Rest : goal.returns-in-Rest
returns-in-Rest g c =
    let ts = c.args.code.now.names.now in
    same-extra ts c.args.code.now.table.now c.args.form c.args.values.now (Some c.args.extra)
    (Some (extras.Rest c.in-Rest.from))
    (g.W.World.world ts c.args.world.now) (g.W.World.world ts c.behind_method.new.world)
    c.args.context.now c.args.context.now c.behind_method.result (ap (λ x. Some x) c.in-Rest.is)
    (c.behind_method.ensures c.args.context.now)
