use Rattle.std.proofs.Common.{◌≡◌, true, Err, ap, subst, sym}
use Rattle.cdp_host_isolation.specs.Passes.{HearsOn}
use Rattle.cdp_host_isolation.specs.Texts.{Fits}
use Rattle.cdp_host_isolation.specs.declared.seat.Seat.TheVariants.{Attached}
use Rattle.cdp_session_messages.specs.Outboxes.{fits}
use Rattle.cdp_host.specs.Protocols.{protocol}
use Rattle.cdp_host.proofs.SeatLemmas.{hears-lost, hears-told}
use Rattle.cdp_host.proofs.seats.resume_seat.Goals as goal

pub returns-in_default-resumed : goal.returns-in_default-resumed
returns-in_default-resumed c = λ scripts.
    let fit : fits c.in-Attached.session.outbox ≡ true = subst (Fits (protocol scripts)) c.in-Attached.is
    (c.requires scripts) in
    subst (λ seat. HearsOn (protocol scripts) seat (Attached c.resumed.new.self)) (sym c.in-Attached.is)
    (hears-told scripts c.in-Attached.session c.resumed.new.self c.in_default-resumed.ensures.session
    (c.in_default-resumed.ensures.fits fit))

pub returns-in-Err : goal.returns-in-Err
returns-in-Err c = λ scripts.
    subst (λ seat. HearsOn (protocol scripts) seat c.lost_by.result) (sym c.in-Attached.is)
    (subst (λ seat. HearsOn (protocol scripts) (Attached c.in-Attached.session) seat) (sym c.lost_by.ensures)
    (hears-lost scripts c.in-Attached.session c.in-Err.end
    (λ is. c.in-Err.ensures.over (ap (λ end. Err end) is))
    (λ is. c.in-Err.ensures.memory (ap (λ end. Err end) is))))
