use Rattle.std.proofs.Common.{[], ◌∷◌}
use Rattle.history_lock.proofs.lock.HistoryLock.leave_with.Given as goal

abbrev pub ghosts-advance : goal.ghosts-advance
ghosts-advance g a = record { entries = a.entry.now ∷ [] }
