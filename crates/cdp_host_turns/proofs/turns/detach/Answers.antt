use Rattle.std.proofs.Common.{[], ◌∷◌, ◌++◌, sym, subst}
use Rattle.cdp_host_isolation.specs.Histories.{Entry, Detach}
use Rattle.cdp_host_turns.proofs.TurnLemmas.{acts, seen-with, still-owns, turn}
use Rattle.cdp_host_turns.proofs.turns.detach.Goals as goal

pub leave-requires-clause-stands : goal.leave-requires-clause-stands
leave-requires-clause-stands g c =
    let p = c.args.p.now in
    let m = c.enter.new.p in
    let opened = c.in_ok-turn.ensures in
    let stood = subst (λ host. g.H.Standing.stands host m.seen) (sym c.state-host.ensures.state) opened.state in
    let owns = still-owns p m c.args.session opened.seen c.enter.ensures.same c.requires.session in
    subst (λ (e : Entry). g.H.Standing.stands c.detach.new.self (m.seen ++ (m.number, e) ∷ [])) (sym c.detach-2.ensures)
    (c.detach.ensures.stands m.number m.seen stood owns)

pub returns-clause-acts : goal.returns-clause-acts
returns-clause-acts g c =
    let d = g.H.Hosted.debugs in
    let p = c.args.p.now in
    let m = c.enter.new.p in
    let opened = c.in_ok-turn.ensures in
    let stood = subst (λ host. g.H.Standing.stands host m.seen) (sym c.state-host.ensures.state) opened.state in
    let owns = still-owns p m c.args.session opened.seen c.enter.ensures.same c.requires.session in
    let q = c.leave-2.new.p in
    let after = c.detach.ensures.stands m.number m.seen stood owns in
    acts d p m q (Detach c.args.session)
    (turn d p m q (Detach c.args.session) opened.seen c.enter.ensures.same c.enter.ensures.named
    (seen-with m q c.detach-2.result (Detach c.args.session) c.detach-2.ensures c.leave-2.ensures.seen)
    c.leave-2.ensures.free c.leave-2.ensures.same (c.state-after.ensures.history _ after))
