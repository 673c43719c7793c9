use Rattle.js_machine_engine.proofs.DescentLemmas.{leaf-term}
use Rattle.js_machine_engine.proofs.settling.descend.Goals as goal

pub returns-then-is_leaf-clause-term : goal.returns-then-is_leaf-clause-term
returns-then-is_leaf-clause-term c =
    λ ts. rw c.set_leaf.ensures (leaf-term ts c.args.table.now c.args.stack.now c.args.node)

pub returns-then-is_leaf-clause-at : goal.returns-then-is_leaf-clause-at
returns-then-is_leaf-clause-at c = rw c.set_leaf.ensures (c.is_leaf.ensures c.if-is_leaf.true)

pub returns-then-is_leaf-clause-scoped : goal.returns-then-is_leaf-clause-scoped
returns-then-is_leaf-clause-scoped c = λ root e s. s
