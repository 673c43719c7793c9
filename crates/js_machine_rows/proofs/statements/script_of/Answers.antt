use Rattle.js_heap_memory.specs.Cells.{bindings}
use Rattle.js_machine_rows.proofs.StatementLemmas.{script-none, script-part}
use Rattle.js_machine_rows.proofs.statements.script_of.Goals as goal

pub returns-in_default : goal.returns-in_default
returns-in_default g c =
    script-none c.args.code.now.names.now c.args.code.now.table.now c.args.entry.now.number
    (bindings c.args.code.now.names.now c.args.entry.now.names) c.args.form.mid c.args.form.end
    (g.W.World.world c.args.code.now.names.now c.args.world.now) c.args.context.now c.in_default.ensures

pub returns-in-Ok : goal.returns-in-Ok
returns-in-Ok g c =
    script-part c.args.code.now.names.now c.args.code.now.table.now c.args.entry.now.number
    (bindings c.args.code.now.names.now c.args.entry.now.names) c.args.form.mid c.args.form.end c.in-Some.statements
    (g.W.World.world c.args.code.now.names.now c.args.world.now)
    (g.W.World.world c.args.code.now.names.now c.declare_script-declared.new.world)
    c.args.context.now c.enter_script.new.context c.declare_script-declared.result c.uncovered_after.result
    c.in-Some.ensures c.in-Ok.ensures
    (rw (← c.slice-slots.ensures) c.declare_script-declared.ensures) c.uncovered_after.ensures
