use Rattle.std.proofs.Common.{rules}
use Rattle.std.proofs.lemmas.List.Elements.{All-drop}
use Rattle.cdp_edge_server.specs.MemDoor.{IsUnusedLink}
use Rattle.cdp_edge_server.proofs.mem_harbor.MemHarborHarbor.dial.Goals as goal

pub invariant_of-self-2 : goal.invariant_of-self-2
invariant_of-self-2 c = (
  c.self.invariant.0,
  search rules,
  c.self.invariant.2,
  rw c.pop_front.ensures.rest (All-drop IsUnusedLink 1 c.self.inside.dialled.items c.self.invariant.3),
)
