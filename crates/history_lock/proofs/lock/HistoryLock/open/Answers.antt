use Rattle.std.proofs.Common.{rules, ap}
use Rattle.history_lock.proofs.Passes.{opens}
use Rattle.history_lock.proofs.lock.HistoryLock.open.Goals as goal

pub split_seat-requires : goal.split_seat-requires
split_seat-requires g c = (search rules, search rules, opens g.S.Standing.stands _ _ _ (ap (λ p. p.tickets) c.requires.opens.last) (search rules) (search rules) c.requires.opens.reserve c.requires.more)
