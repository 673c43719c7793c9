use Rattle.std.proofs.Common.{ap, ◌∙◌}
use Rattle.history_lock_trial.specs.declared.log.Log.{Log}
use Rattle.history_lock_trial.proofs.RowLemmas.{rows_added}
use Rattle.history_lock_trial.proofs.workers.leave_row.Goals as goal

pub leave-requires-clause-stands : goal.leave-requires-clause-stands
leave-requires-clause-stands g c =
    let old = c.state.result.now.rows.items in
    let new = c.add-entry.new.self.rows.items in
    rows_added old new c.enter.new.p.seen c.enter.new.p.number c.add-entry.result c.add-entry.ensures
    (ap (λ (log : Log). log.rows.items) c.state.ensures.state ∙ c.in-Ok.ensures.state)
