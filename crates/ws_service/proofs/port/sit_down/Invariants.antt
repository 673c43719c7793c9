use Rattle.std.proofs.Common.{◌≡◌, ◌+◌, All, length, map, vec_capacity, vec_len}
use Rattle.cdp_edge_server.specs.Contents.{IsNew}
use Rattle.ws_service.specs.Joins.{IsAtFirst}
use Rattle.ws_service.proofs.port.sit_down.Given as goal

abbrev pub invariant-loop-pass : goal.invariant-loop-pass
invariant-loop-pass g l =
    (map (λ desk. desk.pass) l.desks.items ≡ l.yielded)
    × (length l.doors.items + length l.yielded ≡ length l.fn.doors.items)
    × All (λ door. IsNew (record {
      faults = g.I.Door.faults door;
      asked = g.I.Door.asked door;
      served = g.I.Door.served door;
      is_out = g.I.Door.is_out door;
    })) l.doors.items
    × All (λ desk. desk.lock.now ≡ l.fn.lock) l.desks.items
    × All (λ desk. IsAtFirst l.fn.lock desk.pass (record {
      faults = g.O.Door.faults desk.door;
      asked = g.O.Door.asked desk.door;
      served = g.O.Door.served desk.door;
      is_out = g.O.Door.is_out desk.door;
    })) l.desks.items
    × (vec_len l.desks ≡ length l.yielded)
    × (vec_capacity l.desks ≡ vec_capacity l.fn.desks)
