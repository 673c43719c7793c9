use Rattle.std.proofs.Common.{◌≡◌, ◌≤◌, ◌<◌, ℕ, true}
use Rattle.pure_eval.specs.Whole.{names_entry}
use Rattle.pure_eval.proofs.WholeLemmas.{HoldsAt}
use Rattle.pure_eval.proofs.closed.are_closed.Given as goal

abbrev pub invariant-loop-i : goal.invariant-loop-i
invariant-loop-i l =
    (n : ℕ)
    → l.from ≤ n
    → n < l.i
    → HoldsAt (λ node. names_entry l.table node.op node.info ≡ true) l.table.nodes.items n
