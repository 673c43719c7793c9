use Rattle.std.proofs.Common.{rules}
use Rattle.history_lock.proofs.Turns.{looks}
use Rattle.history_lock.proofs.lock.HistoryLock.look.Goals as goal

pub load-requires : goal.load-requires
load-requires g c = (search rules, search rules, looks g.S.Standing.stands _ _ _ _ (search rules) (search rules) (search rules))
