use Rattle.std.proofs.Common.{All, subst, sym}
use Rattle.std.proofs.lemmas.List.Elements.{All-push}
use Rattle.cdp_edge_server.specs.MemDoor.{IsNewDoor}
use Rattle.debug_host_cases.proofs.harbor.doors_of.Goals as goal

pub loop-entrance-preserved : goal.loop-entrance-preserved
loop-entrance-preserved c =
    subst (λ doors. All IsNewDoor doors) (sym c.in_ok-push.ensures.items)
    (All-push IsNewDoor c.loop-entrance.doors.items c.in_ok-door_of.field-0 c.loop-entrance.invariant
    c.in_ok-door_of.ensures)
