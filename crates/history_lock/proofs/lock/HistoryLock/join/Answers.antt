use Rattle.std.proofs.Common.{◌≡◌, true, rules, ap, ◌∙◌}
use Rattle.history_lock.specs.declared.view.View.{View}
use Rattle.history_lock.specs.Histories.{has}
use Rattle.history_lock.proofs.Facts.{has_front}
use Rattle.history_lock.proofs.Passes.{joins, recalls, seated_after}
use Rattle.history_lock.proofs.lock.HistoryLock.join.Goals as goal

pub join_seat-requires : goal.join_seat-requires
join_seat-requires g c = (search rules, search rules, search rules, search rules, joins g.S.Standing.stands _ _ _ _ _ (search rules) (search rules) (search rules) (search rules) (search rules))

pub load-requires : goal.load-requires
load-requires g c =
    let v = c.p.inside.seat.me.0 in let w = c.other.inside.seat.me.0 in
    let is = ap (λ m. m.0) c.join_seat.ensures.2 in
    let own : has v.number v.numbers ≡ true = search rules in
    let off : v.tickets ≡ 0 = search rules in (
      search rules,
      search rules,
      recalls g.S.Standing.stands _ _ _ _
          (ap (λ (z : View g.row.E.Denot). has z.number z.numbers) is ∙ has_front v.number v.numbers w.numbers own)
          (ap (λ (z : View g.row.E.Denot). z.tickets) is ∙ off),
    )

pub invariant_of-p : goal.invariant_of-p
invariant_of-p g c =
    let v = c.p.inside.seat.me.0 in let w = c.other.inside.seat.me.0 in
    let j = c.join_seat.ensures.2 in let l = c.load.ensures.2 in
    seated_after v w c.join_seat.new.seat.me c.load.new.seat.me (ap (λ m. m.0) j) l.0 (l.1 ∙ (ap (λ m. m.1) j ∙ search rules)) (search rules) (search rules) (search rules) (search rules)
