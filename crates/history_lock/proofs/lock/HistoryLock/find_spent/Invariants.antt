use Rattle.std.proofs.Common.{◌≡◌}
use Rattle.history_lock.proofs.lock.HistoryLock.find_spent.Given as goal

abbrev pub invariant-loop : goal.invariant-loop
invariant-loop g l = (l.initial.seat.table_id ≡ l.seat.table_id) × (l.initial.seat.id ≡ l.seat.id) × (l.initial.seat.me ≡ l.seat.me)
