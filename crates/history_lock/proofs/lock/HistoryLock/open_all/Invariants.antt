use Rattle.std.proofs.Common.{◌≡◌, ◌≤◌, ◌+◌, ◌-◌, length}
use Rattle.history_lock.specs.Passes.{initial_passes}
use Rattle.history_lock.specs.Views.{IsOpening}
use Rattle.history_lock.proofs.lock.HistoryLock.open_all.Given as goal

abbrev pub invariant-loop-all : goal.invariant-loop-all
invariant-loop-all g l =
    (l.seat.table_id ≡ l.self) × (length l.all.items + 1 ≤ l.passes) × IsOpening l.passes (length l.all.items) l.self l.seat.me
    × (l.all.items ≡ initial_passes l.self l.passes (length l.all.items))

abbrev pub decreases-loop-all : goal.decreases-loop-all
decreases-loop-all g l = l.passes - length l.all.items
