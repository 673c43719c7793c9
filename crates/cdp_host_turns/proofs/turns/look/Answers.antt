use Rattle.std.proofs.Common.{sym, subst}
use Rattle.cdp_host_isolation.specs.Histories.{Take}
use Rattle.cdp_host_turns.specs.States.{HasState}
use Rattle.cdp_host_turns.proofs.TurnLemmas.{finds, seen-with, turn}
use Rattle.cdp_host_turns.proofs.turns.look.Goals as goal

pub returns-clause-finds : goal.returns-clause-finds
returns-clause-finds g c =
    let d = g.H.Hosted.debugs in
    let p = c.args.p.now in
    let m = c.enter.new.p in
    let q = c.leave-2.new.p in
    let opened = c.in_ok-turn.ensures in
    let stood = subst (λ host. g.H.Standing.stands host m.seen) (sym c.state.ensures.state) opened.state in
    let after = c.state-state.ensures.idle m.number m.seen stood in
    let t = turn d p m q (Take 0) opened.seen c.enter.ensures.same c.enter.ensures.named
    (seen-with m q c.take.result (Take 0) c.take.ensures c.leave-2.ensures.seen) c.leave-2.ensures.free c.leave-2.ensures.same (c.state-state.ensures.history _ after) in
    finds d (HasState d c.state-state.result) p m q (Take 0) t (c.state-state.ensures.state m.seen stood)
