use Rattle.std.proofs.Common.{◌∷◌, ◌+◌, sym, ap, ◌∙◌}
use Rattle.js_heap_parts.specs.Left.{properties_left}
use Rattle.js_heap_parts.proofs.LeftLemmas.{property-first}
use Rattle.js_heap_parts.proofs.left.split_properties.Goals as goal

pub returns : goal.returns
returns c =
    let ps = c.args.properties.now in
    property-first ps c.args.place c.in_ok-property.property.now c.in_ok-property.ensures
    ∙ ap (λ p. p ∷ properties_left ps (c.args.place + 1)) (sym c.property_part.ensures)
