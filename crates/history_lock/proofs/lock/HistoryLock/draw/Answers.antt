use Rattle.std.proofs.Common.{◌≡◌, ◌+◌, ◌-◌, ◌≤◌, rules, IfSome, sym, ap, ◌∙◌, subst}
use Rattle.history_lock.specs.Histories.{limit}
use Rattle.history_lock.specs.Views.{drawn}
use Rattle.history_lock.proofs.Turns.{draws}
use Rattle.history_lock.proofs.lock.HistoryLock.draw.Goals as goal
use Rattle.history_lock.proofs.lock.HistoryLock.draw.Goals.{then-found-tickets, else-found-tickets}

pub compare_exchange-found-requires : goal.compare_exchange-found-requires
compare_exchange-found-requires g c = (search rules, search rules, draws g.S.Standing.stands _ _ _ _ _ _ c.args.tickets (search rules) (search rules) (search rules) (search rules) (search rules) (search rules) (search rules))

pub returns-then-found-old-clause-some : goal.returns-then-found-old-clause-some
returns-then-found-old-clause-some g c =
    let k = c.args.tickets in
    let found = c.compare_exchange-found.result in
    let grew : c.loop.old ≤ limit - k → c.if-old-tickets.new ≡ c.loop.old + k = search rules in
    let hit : found ≡ c.loop.old = c.if-found-old.true in
    elim c.if-found-tickets.branch [
      | then-found-tickets w ↦
          let more : c.if-old-tickets.new ≡ found + k = grew (subst (λ i. i ≤ limit - k) hit w.if-found-tickets.true) ∙ ap (λ i. i + k) (sym hit) in
          subst (λ r. IfSome r (λ ticket. c.compare_exchange-found.new.seat.me.0 ≡ drawn c.args.seat.now.me.0 ticket k)) (sym w.result-is)
          (c.compare_exchange-found.ensures.2.2 k hit c.requires.tickets.0 more ∙ ap (λ m. drawn m.0 found k) (sym c.loop.invariant.2))
      | else-found-tickets w ↦
          subst (λ r. IfSome r (λ ticket. c.compare_exchange-found.new.seat.me.0 ≡ drawn c.args.seat.now.me.0 ticket k)) (sym w.result-is) tt
    ]
