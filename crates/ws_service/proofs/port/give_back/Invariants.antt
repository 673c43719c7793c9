use Rattle.std.proofs.Common.{◌≡◌, length, map, vec_capacity, vec_len}
use Rattle.ws_service.proofs.port.give_back.Given as goal

abbrev pub invariant-loop-door : goal.invariant-loop-door
invariant-loop-door g l =
    (map g.O.OverDoor.seen (map (λ door. record {
      faults = g.I.Door.faults door;
      asked = g.I.Door.asked door;
      served = g.I.Door.served door;
      is_out = g.I.Door.is_out door;
    }) l.below.items) ≡ map (λ door. record {
      faults = g.O.Door.faults door;
      asked = g.O.Door.asked door;
      served = g.O.Door.served door;
      is_out = g.O.Door.is_out door;
    }) l.yielded)
    × (map (λ door. g.I.Door.faults door) l.below.items ≡ map (λ door. g.O.Door.faults door) l.yielded)
    × (vec_len l.below ≡ length l.yielded)
    × (vec_capacity l.below ≡ vec_capacity l.fn.below)
