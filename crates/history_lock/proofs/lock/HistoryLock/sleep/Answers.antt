use Rattle.std.proofs.Common.{◌≡◌, ◌≢◌, rules, ap, ◌∙◌, subst}
use Rattle.history_lock.specs.Steps.{Looked}
use Rattle.history_lock.proofs.Berths.{marks}
use Rattle.history_lock.proofs.Waits.{looks_again}
use Rattle.history_lock.proofs.lock.HistoryLock.sleep.Goals as goal

pub fetch_or-marked-requires : goal.fetch_or-marked-requires
fetch_or-marked-requires g c = (search rules, search rules, marks g.S.Standing.stands _ _ _ _ _ _ (search rules))

pub returns-then-served-ticket-clause-looked : goal.returns-then-served-ticket-clause-looked
returns-then-served-ticket-clause-looked g c =
    let marked = c.fetch_or-marked in
    let first = c.look-served in
    let same : marked.new.seat.me ≡ c.args.seat.now.me = marked.ensures.2 in
    let miss : first.result ≢ c.args.seat.now.me.0.ticket = search rules in
    subst (λ m. Looked g.S.Standing.stands m c.look.result c.look.new.seat.me) same
    (looks_again g.S.Standing.stands marked.new.seat.me first.new.seat.me c.look.new.seat.me first.result c.look.result (λ e. miss (e ∙ ap (λ m. m.0.ticket) same)) first.ensures.looked c.look.ensures.looked)
