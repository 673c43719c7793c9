use Rattle.std.proofs.Common.{rules}
use Rattle.std.proofs.lemmas.List.Elements.{All-drop}
use Rattle.cdp_edge_server.specs.MemDoor.{IsUnusedLink}
use Rattle.cdp_edge_server.proofs.mem_door.MemDoorDoor.next.Goals as goal

pub invariant_of-self-in-Some : goal.invariant_of-self-in-Some
invariant_of-self-in-Some c = (
  search rules,
  rw c.pop_front.ensures.rest (All-drop IsUnusedLink 1 c.self.inside.links.items c.self.invariant.1),
)
