use Rattle.std.proofs.Common.{◌≡◌, ◌<◌, false, true, rules, ap, sym, ◌∙◌, subst}
use Rattle.history_lock.specs.declared.view.View.{View}
use Rattle.history_lock.specs.Histories.{has}
use Rattle.history_lock.proofs.Passes.{recalls, splits_off}
use Rattle.history_lock.proofs.lock.HistoryLock.split.Goals as goal

pub load-requires : goal.load-requires
load-requires g c = (search rules, search rules, recalls g.S.Standing.stands _ _ _ _ (search rules) (search rules))

pub split_seat-requires : goal.split_seat-requires
split_seat-requires g c =
    let v = c.p.inside.seat.me.0 in
    let is = c.load.ensures.2.0 in
    let none : v.tickets ≡ 0 = search rules in
    let turn : v.in_turn ≡ false = search rules in
    let own : has v.number v.numbers ≡ true = search rules in
    let reserve : 0 < v.stride = search rules in (
      search rules,
      search rules,
      splits_off g.S.Standing.stands _ _ _
          (ap (λ (z : View g.row.E.Denot). z.tickets) is ∙ none)
          (ap (λ (z : View g.row.E.Denot). z.in_turn) is ∙ turn)
          (ap (λ (z : View g.row.E.Denot). has z.number z.numbers) is ∙ own)
          (subst (λ (z : View g.row.E.Denot). 0 < z.stride) (sym is) reserve),
    )
