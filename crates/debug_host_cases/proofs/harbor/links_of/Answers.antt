use Rattle.std.proofs.Common.{All, subst, sym}
use Rattle.std.proofs.lemmas.List.Elements.{All-push}
use Rattle.cdp_edge_server.specs.MemDoor.{IsUnusedLink}
use Rattle.debug_host_cases.proofs.harbor.links_of.Goals as goal

pub loop-client-preserved : goal.loop-client-preserved
loop-client-preserved c =
    subst (λ links. All IsUnusedLink links) (sym c.in_ok-push.ensures.items)
    (All-push IsUnusedLink c.loop-client.links.items c.in_ok-link_of.field-0 c.loop-client.invariant
    c.in_ok-link_of.ensures)
