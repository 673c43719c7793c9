use Rattle.ws_service.proofs.DoorLemmas.{received}
use Rattle.ws_service.proofs.door.receive.Goals as goal

pub returns-clause-receives : goal.returns-clause-receives
returns-clause-receives g c =
    received g.H.Hosted.debugs c.args.p.now c.serve_session.new.p _ _ c.serve_session.result
    (g.O.Door.served c.args.door.now) (g.O.Door.served c.back.new.self) c.requires.free
    c.requires.unused c.serve_session.ensures.serves c.serve_session.ensures.closes c.serve_session.ensures.fault
    c.back.ensures.served
