use Rattle.std.proofs.Common.{◌≡◌, ◌∙◌, rules}
use Rattle.std.proofs.lemmas.List.Elements.{All-same}
use Rattle.history_lock.specs.Passes.{initial_passes}
use Rattle.history_lock_trial.specs.Rows.{IsReady}
use Rattle.history_lock_trial.proofs.PassLemmas.{initial_ready}
use Rattle.history_lock_trial.proofs.workers.rows_in_order.Goals as goal

pub all_leave_rows-requires-after_bounds : goal.all_leave_rows-requires-after_bounds
all_leave_rows-requires-after_bounds g c κs within =
    let lock = c.in-Ok.lock in
    let count = c.args.threads in
    let is : c.in-Ok.passes.items ≡ initial_passes lock count count = search rules in
    All-same (IsReady lock) c.as_mut_slice.result.now (initial_passes lock count count)
    (c.as_mut_slice.ensures.value ∙ is) (initial_ready lock count count)
