use Rattle.std.proofs.Common.{Some, ◌∷◌, ap, ◌∙◌}
use Rattle.atomic_table.specs.Table.{rest}
use Rattle.history_lock.proofs.lock.HistoryLock.put_back.Goals as goal

pub returns-clause-back : goal.returns-clause-back
returns-clause-back g c = c.exchange.ensures.3 ∙ ap (λ l. (c.args.seat.now.me.0, (0, Some c.args.turn.state) ∷ rest l)) c.requires.empty
