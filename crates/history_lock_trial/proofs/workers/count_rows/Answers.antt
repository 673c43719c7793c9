use Rattle.std.proofs.Common.{◌≡◌, List, IfSome, length, ap, sym, ◌∙◌, subst}
use Rattle.history_lock_trial.specs.declared.log.Log.{Log}
use Rattle.history_lock_trial.specs.declared.log.Row.{Row}
use Rattle.history_lock_trial.specs.Rows.{rows_of}
use Rattle.history_lock_trial.proofs.RowLemmas.{rows_same}
use Rattle.history_lock_trial.proofs.workers.count_rows.Goals as goal

pub leave-requires-clause-stands : goal.leave-requires-clause-stands
leave-requires-clause-stands g c =
    let log = c.state.result.now in
    rows_same log.rows.items c.enter.new.p.seen c.enter.new.p.number
    (ap (λ (log : Log). log.rows.items) c.state.ensures.state ∙ c.in-Ok.ensures.state)

pub returns : goal.returns
returns g c =
    let log = c.state.result.now in
    let stands = rows_same log.rows.items c.enter.new.p.seen c.enter.new.p.number
    (ap (λ (log : Log). log.rows.items) c.state.ensures.state ∙ c.in-Ok.ensures.state) in
    let rows = c.rows.ensures ∙ stands ∙ sym (ap rows_of c.leave.ensures.seen) in
    subst (λ (rows : List Row). IfSome c.in_order-found.result (λ count. count ≡ length rows)) rows c.in_order-found.ensures
