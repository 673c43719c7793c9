use Rattle.ws_service.specs.Doors.{IsTendedOn}
use Rattle.ws_service.proofs.door.serve_door.Given as goal

abbrev pub invariant-loop : goal.invariant-loop
invariant-loop g l =
    IsTendedOn g.H.Hosted.debugs l.fn.p l.p
    (record {
      faults = g.O.Door.faults l.fn.door;
      asked = g.O.Door.asked l.fn.door;
      served = g.O.Door.served l.fn.door;
      is_out = g.O.Door.is_out l.fn.door;
    })
    (record {
      faults = g.O.Door.faults l.door;
      asked = g.O.Door.asked l.door;
      served = g.O.Door.served l.door;
      is_out = g.O.Door.is_out l.door;
    })
