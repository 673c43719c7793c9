use Rattle.std.proofs.Common.{refl}
use Rattle.ws_service.proofs.DoorLemmas.{tends-fault, tends-link, tends-quiet}
use Rattle.ws_service.proofs.door.tend.Goals as goal

pub returns-in-Arrived : goal.returns-in-Arrived
returns-in-Arrived g c =
    let mid = c.next.new.self in
    let new = c.receive.new.door in
    tends-link g.H.Hosted.debugs c.args.p.now c.receive.new.p c.end_if_over.new.p _
    (record {
      faults = g.O.Door.faults mid;
      asked = g.O.Door.asked mid;
      served = g.O.Door.served mid;
      is_out = g.O.Door.is_out mid;
    })
    (record {
      faults = g.O.Door.faults new;
      asked = g.O.Door.asked new;
      served = g.O.Door.served new;
      is_out = g.O.Door.is_out new;
    })
    c.end_if_over.result c.receive.ensures.receives c.end_if_over.ensures c.in-Arrived.ensures.served
    c.receive.ensures.home c.in-Arrived.ensures.asked c.receive.ensures.asked (c.in-Arrived.ensures.quiet (λ is. cc))
    c.receive.ensures.quiet

pub returns-in-Quiet : goal.returns-in-Quiet
returns-in-Quiet g c =
    tends-quiet g.H.Hosted.debugs c.args.p.now c.end_if_over-in-Quiet.new.p _ _ c.next.result
    c.end_if_over-in-Quiet.result c.requires.free c.in-Quiet.is c.end_if_over-in-Quiet.ensures
    c.next.ensures.served c.requires.none_out c.next.ensures.out c.next.ensures.asked c.next.ensures.quiet

pub returns-in-Failed : goal.returns-in-Failed
returns-in-Failed g c =
    tends-fault g.H.Hosted.debugs c.args.p.now c.shut_all-unshut.new.p _ _
    c.shut_all-unshut.result c.shut_all-unshut.ensures c.in-Failed.ensures.served c.requires.none_out c.in-Failed.ensures.out
    c.in-Failed.ensures.asked (c.in-Failed.ensures.failed refl)
