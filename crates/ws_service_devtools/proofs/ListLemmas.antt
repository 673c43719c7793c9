-- Lists without items.
use Rattle.std.proofs.Common.{◌≡◌, List, [], ◌∷◌, length, nat_eq, Some, refl, arith}
use Rattle.serde_json.specs.View.{items_view}
use Rattle.serde_json.specs.declared.value.Value.{Value}
use Rattle.ws_service_devtools.specs.Texts.{lists_nothing}

-- a list of values lists nothing where it has no length
pub lists_nothing_items : (values : List Value) → lists_nothing (Some (items_view values)) ≡ nat_eq (length values) 0
lists_nothing_items [] = refl
lists_nothing_items (value ∷ values) = grind arith
