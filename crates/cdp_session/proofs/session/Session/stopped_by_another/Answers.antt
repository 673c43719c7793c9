use Rattle.std.proofs.Common.{subst, sym}
use Rattle.cdp_session.specs.Situations.{seen}
use Rattle.cdp_session.specs.Stops.{AreHits}
use Rattle.cdp_session.proofs.StopLemmas.{unnamed-hits}
use Rattle.cdp_session.proofs.session.Session.stopped_by_another.Goals as goal

pub stopped-requires : goal.stopped-requires
stopped-requires g c =
    let s = (seen g.P.Program.standing c.args.situation.now).standing in
    let x = c.args.self.now in
    subst (λ ids. AreHits s c.args.arrival.now x ids) (sym c.new-none.ensures.items)
    (unnamed-hits s c.args.arrival.now x c.requires)
