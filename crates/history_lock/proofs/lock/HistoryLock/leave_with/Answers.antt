use Rattle.std.proofs.Common.{[], ◌∷◌, ◌++◌, ap, sym, subst}
use Rattle.history_lock.specs.declared.view.View.{View}
use Rattle.history_lock.specs.Passes.{PassState}
use Rattle.history_lock.proofs.lock.HistoryLock.leave_with.Goals as goal

pub advance-requires-clause-stands : goal.advance-requires-clause-stands
advance-requires-clause-stands g c =
    let back = c.put_back.ensures.back in
    let stood : g.S.Standing.stands c.args.turn.state (c.p.inside.seat.me.0.seen ++ (c.p.inside.seat.me.0.number, c.args.entry.now) ∷ []) =
    subst (λ (k : PassState g.row.E.Denot). g.S.Standing.stands c.args.turn.state (k.seen ++ (k.number, c.args.entry.now) ∷ [])) (sym c.p.view_is) c.requires.stands in (
      c.args.turn.state,
      ap (λ m. m.1) back,
      subst (λ (v : View g.row.E.Denot). g.S.Standing.stands c.args.turn.state (v.seen ++ (v.number, c.args.entry.now) ∷ [])) (sym (ap (λ m. m.0) back)) stood,
    )
