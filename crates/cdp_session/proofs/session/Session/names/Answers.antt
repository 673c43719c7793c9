use Rattle.std.proofs.Common.{false, true, subst, sym, ◌∙◌}
use Rattle.cdp_session.specs.Sessions.{is_silent}
use Rattle.cdp_session.specs.Situations.{seen}
use Rattle.cdp_session.specs.Stops.{AreHits}
use Rattle.cdp_session.proofs.StopLemmas.{found-hits, silent-hits}
use Rattle.cdp_session.proofs.session.Session.names.Goals as goal

pub returns-then-is_silent-clause-hits : goal.returns-then-is_silent-clause-hits
returns-then-is_silent-clause-hits g c =
    let s = (seen g.P.Program.standing c.args.situation.now).standing in
    let x = c.args.self.now in
    subst (λ ids. AreHits s c.args.arrival.now x ids) (sym c.new.ensures.items)
    (silent-hits s c.args.arrival.now x (sym c.is_silent.ensures ∙ c.if-is_silent.true))

pub returns-clause-hits : goal.returns-clause-hits
returns-clause-hits g c =
    let s = (seen g.P.Program.standing c.args.situation.now).standing in
    let x = c.args.self.now in
    found-hits s c.args.arrival.now x c.in_ok-hits.hits.items (sym c.is_silent.ensures ∙ c.if-is_silent.false)
    c.in_ok-hits.ensures.ids
