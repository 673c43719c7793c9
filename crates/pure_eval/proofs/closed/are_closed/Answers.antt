use Rattle.std.proofs.Common.{◌≡◌, true, sym, ◌∙◌, arith}
use Rattle.js_machine_nodes.specs.declared.node.Node.{Node}
use Rattle.pure_eval.specs.Whole.{names_entry}
use Rattle.pure_eval.proofs.WholeLemmas.{HoldsAt, up-one, holds-here, holds-all}
use Rattle.pure_eval.proofs.closed.are_closed.Goals as goal

pub loop-i-preserved : goal.loop-i-preserved
loop-i-preserved c =
    let P : Node → Type 0 = λ node. names_entry c.args.table.now node.op node.info ≡ true in
    up-one (HoldsAt P c.args.table.now.nodes.items) c.args.from c.loop-i.i c.loop-i.invariant
    (holds-here P c.args.table.now.nodes.items c.loop-i.i c.at-node.result.now (grind arith) c.at-node.ensures
    (sym c.names_entry.ensures ∙ c.if-not-names_entry.false))

pub returns : goal.returns
returns c = λ e n node h g.
    let P : Node → Type 0 = λ node. names_entry c.args.table.now node.op node.info ≡ true in
    holds-all P c.args.table.now.nodes.items c.args.from c.loop-i.i (grind arith) c.loop-i.invariant n node h g
