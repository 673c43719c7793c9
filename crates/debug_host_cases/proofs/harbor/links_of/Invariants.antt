use Rattle.std.proofs.Common.{All}
use Rattle.cdp_edge_server.specs.MemDoor.{IsUnusedLink}
use Rattle.debug_host_cases.proofs.harbor.links_of.Given as goal

abbrev pub invariant-loop-client : goal.invariant-loop-client
invariant-loop-client l = All IsUnusedLink l.links.items
