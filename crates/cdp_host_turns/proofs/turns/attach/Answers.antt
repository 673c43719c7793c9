use Rattle.std.proofs.Common.{sym, subst}
use Rattle.cdp_host_turns.proofs.TurnLemmas.{attaches, turn}
use Rattle.cdp_host_turns.proofs.turns.attach.Goals as goal

pub leave-requires-clause-stands : goal.leave-requires-clause-stands
leave-requires-clause-stands g c =
    let p = c.args.p.now in
    let m = c.enter.new.p in
    let opened = c.in_ok-turn.ensures in
    let stood = subst (λ host. g.H.Standing.stands host m.seen) (sym c.state-host.ensures.state) opened.state in
    c.attach-answer.ensures.stands m.number m.seen stood

pub returns-clause-attaches : goal.returns-clause-attaches
returns-clause-attaches g c =
    let d = g.H.Hosted.debugs in
    let p = c.args.p.now in
    let m = c.enter.new.p in
    let opened = c.in_ok-turn.ensures in
    let stood = subst (λ host. g.H.Standing.stands host m.seen) (sym c.state-host.ensures.state) opened.state in
    let q = c.leave.new.p in
    let r = c.attach-answer.result in
    let after = c.attach-answer.ensures.stands m.number m.seen stood in
    let t = turn d p m q r.entry opened.seen c.enter.ensures.same c.enter.ensures.named c.leave.ensures.seen
    c.leave.ensures.free c.leave.ensures.same (c.state.ensures.history _ after) in
    attaches d p m q r.answer r.entry t (c.attach-answer.ensures.attaches m.seen stood)
