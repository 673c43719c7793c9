-- What an update of a value comes to.
use Rattle.std.specs.Prelude.{ℕ, Bool, List, [], ◌∷◌, Option, Some, None}
use Rattle.js_tree_operators.specs.declared.operator.UpdateOperator.{UpdateOperator}
use Rattle.js_heap.specs.declared.value.Value.{Value}
use Rattle.js_heap.specs.declared.value.Value.TheVariants as values
use Rattle.js_heap.specs.declared.computed.Computed.TheVariants.{Value as a_value}
use Rattle.js_heap.specs.Properties.{bad_key, property_of, property_written}
use Rattle.js_heap.specs.Values.{key_of}
use Rattle.js_heap.specs.World.{World}
use Rattle.js_semantics.specs.State.{Action, give, fail}
use Rattle.js_semantics.specs.References.{Found, value_of_found, name_written, with_result, with_written}
use Rattle.js_heap.specs.Operators.{update_result}
use Rattle.js_semantics.specs.Rows.{updated_by, update_value}
use Rattle.js_machine_rows.specs.declared.updates.Update.{Update}
use Rattle.js_machine_rows.specs.declared.updates.Update.TheVariants.{To, Fails}

-- goes on with the old value and the new one, or raises the error
abbrev pub on_update : Update → (Value → Value → Action) → Action
on_update (To old new) k = k old new
on_update (Fails class message) k = fail class message

-- a property is updated
abbrev pub property_updated : World → UpdateOperator → Bool → Value → List ℕ → Action
property_updated w o prefix v key =
    updated_by o (property_of w v key)
    (λ old new. with_written (property_written w v key new) (give (update_value prefix old new)))

-- a property is updated, where its key is one
abbrev pub keyed_updated : World → UpdateOperator → Bool → Value → Option (List ℕ) → Action
keyed_updated w o prefix v None = with_result bad_key give
keyed_updated w o prefix v (Some key) = property_updated w o prefix v key

-- a property is updated, its key being a value
abbrev pub index_updated : World → UpdateOperator → Bool → Value → Value → Action
index_updated w o prefix v i = keyed_updated w o prefix v (key_of w i)

-- a property with this key of the first value is updated
abbrev pub member_updated : World → UpdateOperator → Bool → List Value → List ℕ → Action
member_updated w o prefix (v ∷ vs) key = property_updated w o prefix v key
member_updated w o prefix [] key = updated_by o (a_value values.Undefined) (λ old new. give values.Undefined)

-- a property of the first value whose key is the second is updated
abbrev pub element_updated : World → UpdateOperator → Bool → List Value → Action
element_updated w o prefix (v ∷ i ∷ vs) = index_updated w o prefix v i
element_updated w o prefix _ = updated_by o (a_value values.Undefined) (λ old new. give values.Undefined)

-- ---- names

-- a name with this value is updated
abbrev pub old_updated : UpdateOperator → Bool → List ℕ → Option Found → Value → Action
old_updated o prefix name f old =
    with_result (update_result o old)
    (λ new. with_written (name_written name f new) (give (update_value prefix old new)))

-- a name is updated, or the error of one without a value is raised
abbrev pub name_updated : UpdateOperator → Bool → List ℕ → Option Found → Action
name_updated o prefix name f =
    updated_by o (value_of_found name f)
    (λ old new. with_written (name_written name f new) (give (update_value prefix old new)))
