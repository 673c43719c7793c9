use Rattle.std.proofs.Common.{sym}
use Rattle.js_machine_nodes.proofs.TreeLemmas.{literal-tree, no-tree}
use Rattle.js_machine_engine.proofs.parts.value_at.Goals as goal

pub returns-then-is_literal-clause-value : goal.returns-then-is_literal-clause-value
returns-then-is_literal-clause-value c =
    literal-tree c.args.table.now c.args.n c.in-Some.node c.constant.result (sym c.in-Some.ensures)
    (sym c.if-is_literal.ensures) c.constant.ensures

pub returns-in-None-clause-value : goal.returns-in-None-clause-value
returns-in-None-clause-value c = no-tree c.args.table.now c.args.n (sym c.in-None.ensures)
