use Rattle.std.proofs.Common.{inl, refl}
use Rattle.cdp_host_isolation.specs.Histories.{Detach}
use Rattle.ws_service.proofs.PassingLemmas.{serves}
use Rattle.ws_service.proofs.session.leave.Goals as goal

pub returns-in-Ok : goal.returns-in-Ok
returns-in-Ok g c =
    inl (
      refl,
      serves g.H.Hosted.debugs c.args.session c.args.p.now c.detach.new.p (Detach c.args.session) c.in-Ok.ensures.acts tt
          c.requires.session tt,
    )
