use Rattle.std.proofs.Common.{rules, replicate}
use Rattle.history_lock.proofs.Passes.{begins_as}
use Rattle.history_lock.proofs.lock.HistoryLock.build.Goals as goal

pub new-requires : goal.new-requires
new-requires g c = begins_as g.S.Standing.stands _ c.args.state _ (replicate 64 0) _ (search rules) (search rules) c.requires.passes c.requires.stands
