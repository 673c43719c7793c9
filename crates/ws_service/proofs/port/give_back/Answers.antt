use Rattle.std.proofs.Common.{◌++◌, ◌∷◌, [], ℕ, map, sym, ap, ◌∙◌, arith}
use Rattle.std.proofs.lemmas.List.{length_push}
use Rattle.cdp_edge_server.specs.Contents.{Tended}
use Rattle.ws_service.proofs.JoinLemmas.{map-push}
use Rattle.ws_service.proofs.port.give_back.Goals as goal

pub loop-door-preserved : goal.loop-door-preserved
loop-door-preserved g c =
    let i = c.loop-door.invariant in
    let seen : Tended → Tended = g.O.OverDoor.seen in
    let below = c.loop-door.below.items in
    let inner : g.row.I.Denot → Tended = λ door. record {
      faults = g.I.Door.faults door;
      asked = g.I.Door.asked door;
      served = g.I.Door.served door;
      is_out = g.I.Door.is_out door;
    } in
    let outer : g.row.O.Denot → Tended = λ door. record {
      faults = g.O.Door.faults door;
      asked = g.O.Door.asked door;
      served = g.O.Door.served door;
      is_out = g.O.Door.is_out door;
    } in
    let yielded = c.loop-door.yielded in
    let door = c.in-Some.door in
    let given = c.into_door.result in (
      ap (λ l. map seen (map inner l)) c.push_reserved.ensures.items
          ∙ ap (map seen) (map-push inner below given)
          ∙ map-push seen (map inner below) (inner given)
          ∙ ap (λ l. l ++ seen (inner given) ∷ []) i.0
          ∙ ap (λ (t : Tended). map outer yielded ++ t ∷ []) (sym c.into_door.ensures.seen)
          ∙ sym (map-push outer yielded door),
      ap (map (λ d. g.I.Door.faults d)) c.push_reserved.ensures.items
          ∙ map-push (λ d. g.I.Door.faults d) below given
          ∙ ap (λ l. l ++ g.I.Door.faults given ∷ []) i.1
          ∙ ap (λ (n : ℕ). map (λ d. g.O.Door.faults d) yielded ++ n ∷ []) (sym c.into_door.ensures.faults)
          ∙ sym (map-push (λ d. g.O.Door.faults d) yielded door),
      omega (arith, i.2, c.push_reserved.ensures.len, length_push yielded door),
      c.push_reserved.ensures.capacity ∙ i.3,
    )
