use Rattle.std.proofs.Common.{rules}
use Rattle.history_lock.proofs.Passes.{refuses}
use Rattle.history_lock.proofs.lock.HistoryLock.find_spent.Goals as goal

pub load-ticket-requires : goal.load-ticket-requires
load-ticket-requires g c = (search rules, search rules, refuses g.S.Standing.stands _ _ _ _ (search rules) (search rules) (search rules))
