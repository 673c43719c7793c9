use Rattle.js_machine_rows.proofs.OpLemmas.{no-other-catch}
use Rattle.js_machine_rows.proofs.TableLemmas.{named-catch, nameless-catch}
use Rattle.js_machine_rows.proofs.table.StepTableRows.catch.Goals as goal

pub returns-in-Catching : goal.returns-in-Catching
returns-in-Catching g c =
    λ outer place vs before. nameless-catch c.args.code.now.names.now c.args.code.now.table.now c.args.form vs outer
    c.args.thrown place
    (g.W.World.world c.args.code.now.names.now c.args.world.now)
    c.args.context.now before c.catch_nameless.result c.in-Catching.is c.catch_nameless.ensures

pub returns-in-CatchingName : goal.returns-in-CatchingName
returns-in-CatchingName g c =
    λ outer place vs before. named-catch c.args.code.now.names.now c.args.code.now.table.now c.args.form vs outer
    c.args.thrown place
    (g.W.World.world c.args.code.now.names.now c.args.world.now)
    (g.W.World.world c.args.code.now.names.now c.catch_named.new.world)
    c.args.context.now before c.catch_named.result c.in-CatchingName.is c.catch_named.ensures

pub unreachable-requires : goal.unreachable-requires
unreachable-requires g c =
    no-other-catch c.args.form.op c.requires c.in_default.not-Catching c.in_default.not-CatchingName
