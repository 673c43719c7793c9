use Rattle.std.proofs.Common.{◌≡◌, length, rules}
use Rattle.history_lock_trial.proofs.PassLemmas.{joined_all, joined_first, joined_next}
use Rattle.history_lock_trial.proofs.workers.joined.Goals as goal

pub loop-other-init : goal.loop-other-init
loop-other-init c = joined_first c.args.lock.now c.in_ok-all.all c.args.passes.items c.pop.new.self.items c.in_ok-all.ensures.items c.requires

pub loop-other-preserved : goal.loop-other-preserved
loop-other-preserved c =
    let join = c.join.ensures in
    joined_next c.args.lock.now c.loop-other.all c.in-Some.other c.join.new.p c.args.passes.items c.loop-other.passes.items
    c.pop-in-loop-other.new.self.items c.loop-other.invariant c.in-Some.ensures.items join.joined join.both join.own join.others

pub returns-clause-whole : goal.returns-clause-whole
returns-clause-whole c =
    let none : length c.loop-other.passes.items ≡ 0 = search rules in
    joined_all c.args.lock.now c.loop-other.all c.args.passes.items c.loop-other.passes.items c.loop-other.invariant none
