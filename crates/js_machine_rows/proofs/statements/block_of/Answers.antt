use Rattle.std.proofs.Common.{sym, ◌∙◌}
use Rattle.js_heap_memory.specs.Cells.{bindings}
use Rattle.js_machine_rows.proofs.StatementLemmas.{block-none, block-plain, block-part}
use Rattle.js_machine_rows.proofs.statements.block_of.Goals as goal

pub returns-in_default : goal.returns-in_default
returns-in_default g c =
    block-none c.args.code.now.names.now c.args.code.now.table.now c.args.form.inner
    (bindings c.args.code.now.names.now c.args.slots.now)
    c.args.form.mid c.args.form.end (g.W.World.world c.args.code.now.names.now c.args.world.now) c.in_default.ensures

pub returns-then-is_empty : goal.returns-then-is_empty
returns-then-is_empty g c =
    block-plain c.args.code.now.names.now c.args.code.now.table.now c.args.form.inner c.args.slots.now c.args.form.mid
    c.args.form.end
    c.in-Some.statements
    (g.W.World.world c.args.code.now.names.now c.args.world.now) c.in-Some.ensures
    (sym c.is_empty.ensures ∙ c.if-is_empty.true)

pub returns : goal.returns
returns g c =
    block-part c.args.code.now.names.now c.args.code.now.table.now c.args.form.inner c.args.slots.now c.args.form.mid
    c.args.form.end
    c.in-Some.statements
    (g.W.World.world c.args.code.now.names.now c.args.world.now)
    (g.W.World.world c.args.code.now.names.now c.block_scope-own.new.world)
    c.block_scope-own.result c.scoped.result c.in-Some.ensures (sym c.is_empty.ensures ∙ c.if-is_empty.false)
    c.block_scope-own.ensures c.scoped.ensures
