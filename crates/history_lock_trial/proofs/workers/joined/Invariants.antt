use Rattle.std.proofs.Common.{length}
use Rattle.history_lock_trial.proofs.PassLemmas.{Joined}
use Rattle.history_lock_trial.proofs.workers.joined.Given as goal

abbrev pub invariant-loop-other : goal.invariant-loop-other
invariant-loop-other l = Joined l.lock l.all l.fn.passes.items l.passes.items

abbrev pub decreases-loop-other : goal.decreases-loop-other
decreases-loop-other l = length l.passes.items
