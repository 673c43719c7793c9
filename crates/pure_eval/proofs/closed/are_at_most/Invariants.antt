use Rattle.std.proofs.Common.{◌≤◌, ◌<◌, ℕ}
use Rattle.pure_eval.proofs.WholeLemmas.{HoldsAt}
use Rattle.pure_eval.proofs.closed.are_at_most.Given as goal

abbrev pub invariant-loop-number : goal.invariant-loop-number
invariant-loop-number l = (n : ℕ) → 0 ≤ n → n < l.number-index → HoldsAt (λ m. m ≤ l.most) l.numbers n
