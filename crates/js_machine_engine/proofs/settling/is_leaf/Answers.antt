use Rattle.std.proofs.Common.{sym, rules}
use Rattle.js_machine_engine.proofs.DescentLemmas.{leaf-at}
use Rattle.js_machine_engine.proofs.settling.is_leaf.Goals as goal

pub returns-in-Some : goal.returns-in-Some
returns-in-Some c = λ e. leaf-at c.args.table.now c.args.n c.in-Some.node (sym c.in-Some.ensures) c.requires (search rules)
