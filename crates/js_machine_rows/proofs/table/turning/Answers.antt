use Rattle.std.proofs.Common.{refl, slice_get, Some}
use Rattle.js_machine_engine.specs.declared.task.Extra.TheVariants as extras
use Rattle.js_machine_rows.proofs.TableLemmas.{turn-row}
use Rattle.js_machine_rows.proofs.table.turning.Goals as goal

pub returns-in-TurnOf : goal.returns-in-TurnOf
returns-in-TurnOf g c =
    let ts = c.args.code.now.names.now in
    let v = g.W.World.world c.args.code.now.names.now c.args.world.now in
    λ context outer before.
    turn-row ts c.args.code.now.table.now c.args.form c.args.values.now c.args.list c.args.index outer v
    (g.W.World.world ts c.turn_of.new.world) context before c.turn_of.result
    (slice_get c.args.code.now.table.now.for_ofs.items c.args.form.info) c.in-TurnOf.is refl c.turn_of.ensures

pub returns-in-BodyOf : goal.returns-in-BodyOf
returns-in-BodyOf g c = λ context.
    c.turn_done.ensures c.args.code.now.names.now (Some (extras.Turn c.args.list c.args.index))
    (g.W.World.world c.args.code.now.names.now c.args.world.now) context c.in-BodyOf.is
