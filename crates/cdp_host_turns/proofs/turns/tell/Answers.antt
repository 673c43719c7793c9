use Rattle.std.proofs.Common.{string_bytes, sym, subst}
use Rattle.cdp_host_turns.proofs.TurnLemmas.{still-owns, tells, turn}
use Rattle.cdp_host_turns.proofs.turns.tell.Goals as goal

pub leave-requires-clause-stands : goal.leave-requires-clause-stands
leave-requires-clause-stands g c =
    let p = c.args.p.now in
    let m = c.enter.new.p in
    let opened = c.in_ok-turn.ensures in
    let stood = subst (λ host. g.H.Standing.stands host m.seen) (sym c.state-host.ensures.state) opened.state in
    let owns = still-owns p m c.args.session opened.seen c.enter.ensures.same c.requires.session in
    c.tell-answer.ensures.stands m.number m.seen stood owns

pub returns-clause-tells : goal.returns-clause-tells
returns-clause-tells g c =
    let d = g.H.Hosted.debugs in
    let p = c.args.p.now in
    let m = c.enter.new.p in
    let opened = c.in_ok-turn.ensures in
    let stood = subst (λ host. g.H.Standing.stands host m.seen) (sym c.state-host.ensures.state) opened.state in
    let owns = still-owns p m c.args.session opened.seen c.enter.ensures.same c.requires.session in
    let q = c.leave.new.p in
    let r = c.tell-answer.result in
    let after = c.tell-answer.ensures.stands m.number m.seen stood owns in
    let t = turn d p m q r.entry opened.seen c.enter.ensures.same c.enter.ensures.named c.leave.ensures.seen
    c.leave.ensures.free c.leave.ensures.same (c.state-after.ensures.history _ after) in
    tells d c.args.session (string_bytes c.args.text) p m q r.answer r.entry t c.tell-answer.ensures.entry
    (c.tell-answer.ensures.finds m.seen stood) (c.tell-answer.ensures.fits m.seen stood)
