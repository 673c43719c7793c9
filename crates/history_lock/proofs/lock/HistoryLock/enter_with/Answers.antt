use Rattle.std.proofs.Common.{rules, Some, sym, ◌∷◌, ap, ◌∙◌}
use Rattle.atomic_table.specs.Table.{rest}
use Rattle.history_lock.proofs.lock.HistoryLock.enter_with.Goals as goal

pub exchange-requires : goal.exchange-requires
exchange-requires g c =
    let t = c.wait.ensures.turn.4 in
    (search rules, (Some t.0, t.1 ∙ ap (λ l. (0, Some t.0) ∷ rest l) (sym t.1)))
