use Rattle.std.proofs.Common.{[], ◌∷◌, ◌++◌, ap, sym, subst}
use Rattle.history_lock.specs.declared.view.View.{View}
use Rattle.history_lock.specs.Passes.{PassState}
use Rattle.history_lock.proofs.Facts.{append_assoc}
use Rattle.history_lock.proofs.lock.HistoryLock.leave_twice.Goals as goal

pub advance_twice-requires-clause-stands : goal.advance_twice-requires-clause-stands
advance_twice-requires-clause-stands g c =
    let back = c.put_back.ensures.back in
    let v = c.p.inside.seat.me.0 in
    let first = c.args.first.now in
    let second = c.args.second.now in
    let stood : g.S.Standing.stands c.args.turn.state ((v.seen ++ (v.number, first) ∷ []) ++ (v.number, second) ∷ []) =
    subst (λ (k : PassState g.row.E.Denot). g.S.Standing.stands c.args.turn.state ((k.seen ++ (k.number, first) ∷ []) ++ (k.number, second) ∷ [])) (sym c.p.view_is) c.requires.stands in
    let both : g.S.Standing.stands c.args.turn.state (v.seen ++ (v.number, first) ∷ (v.number, second) ∷ []) =
    subst (g.S.Standing.stands c.args.turn.state) (append_assoc v.seen ((v.number, first) ∷ []) ((v.number, second) ∷ [])) stood in (
      c.args.turn.state,
      ap (λ m. m.1) back,
      subst (λ (w : View g.row.E.Denot). g.S.Standing.stands c.args.turn.state (w.seen ++ (w.number, first) ∷ (w.number, second) ∷ [])) (sym (ap (λ m. m.0) back)) both,
    )
