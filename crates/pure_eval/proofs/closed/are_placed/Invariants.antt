use Rattle.std.proofs.Common.{◌≤◌, ◌<◌, ℕ, length}
use Rattle.pure_eval.proofs.WholeLemmas.{HoldsAt}
use Rattle.pure_eval.proofs.closed.are_placed.Given as goal

abbrev pub invariant-loop-i : goal.invariant-loop-i
invariant-loop-i l =
    (n : ℕ) → l.from ≤ n → n < l.i → HoldsAt (λ f. f.at < length l.table.nodes.items) l.table.functions.items n
