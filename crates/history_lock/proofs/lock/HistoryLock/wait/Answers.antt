use Rattle.std.proofs.Common.{◌≢◌, rules}
use Rattle.history_lock.proofs.Waits.{looks_again}
use Rattle.history_lock.proofs.lock.HistoryLock.wait.Goals as goal

pub loop-preserved : goal.loop-preserved
loop-preserved g c =
    let miss : c.loop.served ≢ c.args.seat.now.me.0.ticket = search rules in
    let looks = c.look_again-served in
    (search rules, search rules, looks_again g.S.Standing.stands c.args.seat.now.me c.loop.seat.me looks.new.seat.me c.loop.served looks.result miss c.loop.invariant.2 looks.ensures.looked)
