use Rattle.std.proofs.Common.{◌≤◌, ◌<◌, ℕ}
use Rattle.pure_eval.specs.Whole.{IsWithin}
use Rattle.pure_eval.proofs.WholeLemmas.{HoldsAt}
use Rattle.pure_eval.proofs.closed.are_within.Given as goal

abbrev pub invariant-loop-i : goal.invariant-loop-i
invariant-loop-i l = (n : ℕ) → 0 ≤ n → n < l.i → HoldsAt (λ e. IsWithin l.table e) l.table.sources.items n
