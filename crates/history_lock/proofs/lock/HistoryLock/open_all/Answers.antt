use Rattle.std.proofs.Common.{◌≡◌, ◌<◌, ◌+◌, ◌++◌, [], ◌∷◌, ℕ, length, arith, rules, sym, ap, ◌∙◌, subst, length-append}
use Rattle.history_lock.specs.Passes.{initial_passes}
use Rattle.history_lock.specs.Views.{IsOpening}
use Rattle.history_lock.proofs.Passes.{opening_now, opening_more, opening_next, opened_so_far}
use Rattle.history_lock.proofs.lock.HistoryLock.open_all.Goals as goal

pub open-requires-clause-lock : goal.open-requires-clause-lock
open-requires-clause-lock g c = c.loop-all.invariant.0

pub open-requires-clause-more : goal.open-requires-clause-more
open-requires-clause-more g c =
    let more : length c.loop-all.all.items + 1 < c.args.passes = search rules in
    opening_more _ _ _ _ c.loop-all.invariant.2 more

pub open-requires-clause-opens : goal.open-requires-clause-opens
open-requires-clause-opens g c = opening_now _ _ _ _ c.loop-all.invariant.2

pub loop-all-preserved : goal.loop-all-preserved
loop-all-preserved g c =
    let opens = c.loop-all.invariant.2 in
    let items : c.push.new.self.items ≡ c.loop-all.all.items ++ c.open.result ∷ [] = c.in_ok-push.ensures.items in
    let count : length c.push.new.self.items ≡ length c.loop-all.all.items + 1 = ap length items ∙ length-append c.loop-all.all.items (c.open.result ∷ []) in
    let more : length c.loop-all.all.items + 1 < c.args.passes = search rules in (
      c.open.ensures.lock,
      omega (arith, count, more),
      subst (λ (k : ℕ). IsOpening c.args.passes k c.args.self.now c.open.new.seat.me) (sym count) (opening_next _ _ _ _ _ opens c.open.ensures.opens),
      items ∙ (opened_so_far _ _ _ _ _ _ opens c.loop-all.invariant.3 c.open.ensures.opened ∙ ap (initial_passes c.args.self.now c.args.passes) (sym count)),
    )
