use Rattle.std.proofs.Common.{[], ◌∷◌}
use Rattle.history_lock.proofs.lock.HistoryLock.leave_twice.Given as goal

abbrev pub ghosts-advance_twice : goal.ghosts-advance_twice
ghosts-advance_twice g a = record { entries = a.first.now ∷ a.second.now ∷ [] }
