use Rattle.std.proofs.Common.{◌≡◌}
use Rattle.history_lock.specs.Steps.{Looked}
use Rattle.history_lock.proofs.lock.HistoryLock.wait.Given as goal

abbrev pub invariant-loop : goal.invariant-loop
invariant-loop g l = (l.seat.table_id ≡ l.fn.seat.table_id) × (l.seat.id ≡ l.fn.seat.id) × Looked g.S.Standing.stands l.fn.seat.me l.served l.seat.me
