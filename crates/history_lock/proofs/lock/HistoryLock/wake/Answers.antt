use Rattle.std.proofs.Common.{rules}
use Rattle.history_lock.proofs.Berths.{unmarks}
use Rattle.history_lock.proofs.lock.HistoryLock.wake.Goals as goal

pub compare_exchange-found-requires : goal.compare_exchange-found-requires
compare_exchange-found-requires g c = (search rules, search rules, unmarks g.S.Standing.stands _ _ _ _ _ _ _ (search rules))
