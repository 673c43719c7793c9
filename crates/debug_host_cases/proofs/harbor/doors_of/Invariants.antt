use Rattle.std.proofs.Common.{All}
use Rattle.cdp_edge_server.specs.MemDoor.{IsNewDoor}
use Rattle.debug_host_cases.proofs.harbor.doors_of.Given as goal

abbrev pub invariant-loop-entrance : goal.invariant-loop-entrance
invariant-loop-entrance l = All IsNewDoor l.doors.items
