use Rattle.std.proofs.Common.{◌≡◌, ◌+◌, ◌<◌, ◌++◌, length, map, vec_capacity, vec_len}
use Rattle.history_lock.specs.Passes.{HasInitialOnly, SeesSpent}
use Rattle.ws_service.specs.Serving.{IsEndOfDoors}
use Rattle.ws_service.proofs.JoinLemmas.{Joining}
use Rattle.ws_service.proofs.join.join_all.Given as goal

abbrev pub invariant-loop-desk : goal.invariant-loop-desk
invariant-loop-desk g l =
    Joining g.H.Hosted.debugs (λ desk. desk.pass)
    (λ desk. record {
      faults = g.O.Door.faults desk.door;
      asked = g.O.Door.asked desk.door;
      served = g.O.Door.served desk.door;
      is_out = g.O.Door.is_out desk.door;
    })
    (λ desk. desk.end) l.fn.p l.p l.yielded
    × (l.doors.items ≡ l.fn.doors.items ++ map (λ desk. desk.door) l.yielded)
    × (vec_len l.doors ≡ vec_len l.fn.doors + length l.yielded)
    × (vec_capacity l.doors ≡ vec_capacity l.fn.doors)
    × (0 < length l.yielded → HasInitialOnly l.p)
    × IsEndOfDoors l.ends (map (λ desk. desk.end) l.yielded)
    × (0 < length l.yielded → SeesSpent l.p)
