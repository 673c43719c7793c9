use Rattle.js_heap_memory.specs.Names.{name_of}
use Rattle.js_machine_rows.proofs.StatementLemmas.{catch-none, catch-part}
use Rattle.js_machine_rows.proofs.statements.catch_named.Goals as goal

pub returns-in_default : goal.returns-in_default
returns-in_default g c =
    catch-none c.args.code.now.names.now c.args.code.now.table.now c.args.form.inner
    (name_of c.args.code.now.names.now c.args.form.info)
    c.args.thrown c.args.form.mid c.args.form.end (g.W.World.world c.args.code.now.names.now c.args.world.now)
    c.in_default.ensures

pub returns : goal.returns
returns g c =
    catch-part c.args.code.now.names.now c.args.code.now.table.now c.args.form.inner
    (name_of c.args.code.now.names.now c.args.form.info)
    c.args.thrown c.args.form.mid c.args.form.end c.in-Some.handler
    (g.W.World.world c.args.code.now.names.now c.args.world.now)
    (g.W.World.world c.args.code.now.names.now c.nameless_scope-own.new.world)
    c.nameless_scope-own.result c.scoped.result c.in-Some.ensures c.nameless_scope-own.ensures c.scoped.ensures
