use Rattle.std.proofs.Common.{◌∷◌, [], ◌++◌, ap, sym, ◌∙◌}
use Rattle.cdp_json.proofs.OrderLemmas.{range-next}
use Rattle.cdp_json.proofs.key_order.places_to.Goals as goal

pub loop-place-preserved : goal.loop-place-preserved
loop-place-preserved c =
    c.in_ok-push.ensures.items
    ∙ ap (λ ps. ps ++ c.loop-place.place ∷ []) c.loop-place.invariant
    ∙ sym (range-next c.loop-place.place)
