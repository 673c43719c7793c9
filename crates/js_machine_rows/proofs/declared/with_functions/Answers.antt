use Rattle.std.proofs.Common.{◌∙◌, sym, arith}
use Rattle.js_machine_nodes.specs.Trees.{kids_between}
use Rattle.js_machine_rows.proofs.DeclaredLemmas.{functions-done, functions-end, functions-next, none-behind, parts-within}
use Rattle.js_machine_rows.proofs.declared.with_functions.Goals as goal

pub returns-in_err-with_function-in-Some : goal.returns-in_err-with_function-in-Some
returns-in_err-with_function-in-Some g c =
    functions-end c.args.code.now.names.now c.args.code.now.table.now c.args.scope
    (kids_between c.args.code.now.table.now c.args.from c.args.to) c.loop-index.index c.in-Some.part
    (g.W.World.world c.args.code.now.names.now c.args.world.now)
    (g.W.World.world c.args.code.now.names.now c.loop-index.world)
    (g.W.World.world c.args.code.now.names.now c.with_function.new.world)
    c.from_residual.result c.in_err-with_function-in-Some.field-0.0 (sym c.part_at.ensures ∙ c.in-Some.is)
    c.loop-index.invariant c.in_err-with_function-in-Some.ensures c.from_residual.ensures.1

pub loop-index-preserved : goal.loop-index-preserved
loop-index-preserved g c =
    functions-next c.args.code.now.names.now c.args.code.now.table.now c.args.scope
    (kids_between c.args.code.now.table.now c.args.from c.args.to) c.loop-index.index c.in-Some.part
    (g.W.World.world c.args.code.now.names.now c.args.world.now)
    (g.W.World.world c.args.code.now.names.now c.loop-index.world)
    (g.W.World.world c.args.code.now.names.now c.with_function.new.world)
    (sym c.part_at.ensures ∙ c.in-Some.is) c.loop-index.invariant c.in_ok-with_function-in-Some.ensures

pub returns-in-None : goal.returns-in-None
returns-in-None g c =
    functions-done c.args.code.now.names.now c.args.code.now.table.now c.args.scope
    (kids_between c.args.code.now.table.now c.args.from c.args.to) c.loop-index.index
    (g.W.World.world c.args.code.now.names.now c.args.world.now)
    (g.W.World.world c.args.code.now.names.now c.loop-index.world)
    (none-behind (kids_between c.args.code.now.table.now c.args.from c.args.to) c.loop-index.index
    (sym c.part_at.ensures ∙ c.in-None.is))
    c.loop-index.invariant

pub returns : goal.returns
returns g c =
    functions-done c.args.code.now.names.now c.args.code.now.table.now c.args.scope
    (kids_between c.args.code.now.table.now c.args.from c.args.to) c.loop-index.index
    (g.W.World.world c.args.code.now.names.now c.args.world.now)
    (g.W.World.world c.args.code.now.names.now c.loop-index.world)
    (omega (arith, parts-within c.args.code.now.table.now c.args.from c.args.to))
    c.loop-index.invariant
