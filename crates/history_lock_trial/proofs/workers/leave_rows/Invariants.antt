use Rattle.history_lock_trial.specs.Rows.{IsReady}
use Rattle.history_lock_trial.proofs.workers.leave_rows.Given as goal

abbrev pub invariant-loop-count : goal.invariant-loop-count
invariant-loop-count g l = IsReady l.lock l.pass
