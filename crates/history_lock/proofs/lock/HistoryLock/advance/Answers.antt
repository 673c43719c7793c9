use Rattle.std.proofs.Common.{[], ◌∷◌, ◌∙◌, rules}
use Rattle.history_lock.proofs.Turns.{advances}
use Rattle.history_lock.proofs.lock.HistoryLock.advance.Goals as goal

pub fetch_add-served-requires : goal.fetch_add-served-requires
fetch_add-served-requires g c = (search rules, search rules, advances g.S.Standing.stands _ _ _ _ _ c.requires.stands.0 (c.args.entry.now ∷ []) _ c.requires.turn.0 c.requires.turn.3 c.requires.stands.1 c.requires.ending (search rules) c.requires.turn.2 c.requires.stands.2)

pub returns-clause-after : goal.returns-clause-after
returns-clause-after g c =
    let step = c.fetch_add-served.ensures.2 in
    c.wake.ensures.same.2 ∙ (λ i. (step.2 (c.args.entry.now ∷ []) c.requires.ending i, step.1 i))
