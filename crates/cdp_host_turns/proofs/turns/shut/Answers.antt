use Rattle.std.proofs.Common.{[], ◌∷◌, ◌++◌, sym, subst}
use Rattle.cdp_host_isolation.specs.Histories.{Entry, Shut}
use Rattle.cdp_host_turns.proofs.TurnLemmas.{acts, seen-with, turn}
use Rattle.cdp_host_turns.proofs.turns.shut.Goals as goal

pub leave-requires-clause-stands : goal.leave-requires-clause-stands
leave-requires-clause-stands g c =
    let p = c.args.p.now in
    let m = c.enter.new.p in
    let opened = c.in_ok-turn.ensures in
    let stood = subst (λ host. g.H.Standing.stands host m.seen) (sym c.state-host.ensures.state) opened.state in
    subst (λ (e : Entry). g.H.Standing.stands c.shut.new.self (m.seen ++ (m.number, e) ∷ [])) (sym c.shut-2.ensures)
    (c.shut.ensures m.number m.seen stood)

pub returns-clause-acts : goal.returns-clause-acts
returns-clause-acts g c =
    let d = g.H.Hosted.debugs in
    let p = c.args.p.now in
    let m = c.enter.new.p in
    let opened = c.in_ok-turn.ensures in
    let stood = subst (λ host. g.H.Standing.stands host m.seen) (sym c.state-host.ensures.state) opened.state in
    let q = c.leave-2.new.p in
    let after = c.shut.ensures m.number m.seen stood in
    acts d p m q Shut
    (turn d p m q Shut opened.seen c.enter.ensures.same c.enter.ensures.named
    (seen-with m q c.shut-2.result Shut c.shut-2.ensures c.leave-2.ensures.seen)
    c.leave-2.ensures.free c.leave-2.ensures.same (c.state.ensures.history _ after))
