use Rattle.js_machine_nodes.specs.Trees.{kids_between}
use Rattle.js_machine_rows.proofs.DeclaredLemmas.{FunctionsLeft}
use Rattle.js_machine_rows.proofs.declared.with_functions.Given as goal

abbrev pub invariant-loop-index : goal.invariant-loop-index
invariant-loop-index g l =
    FunctionsLeft l.code.names.now l.code.table.now l.scope (kids_between l.code.table.now l.from l.to)
    (g.W.World.world l.code.names.now l.initial.world) l.index
    (g.W.World.world l.code.names.now l.world)
