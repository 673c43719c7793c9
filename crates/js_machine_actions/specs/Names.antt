-- Names that were found in their scopes, as far as code keeps them.
use Rattle.std.specs.Prelude.{ℕ, List, ◌++◌, Option, Some, None, codes}
use Rattle.js_heap.specs.declared.value.Value.{Value}
use Rattle.js_heap.specs.declared.built_in.ErrorClass.TheVariants as classes
use Rattle.js_heap.specs.declared.computed.Computed.{Computed}
use Rattle.js_heap.specs.declared.computed.Written.{Written}
use Rattle.js_heap.specs.declared.computed.Written.TheVariants.{Refused as refused}
use Rattle.js_heap.specs.World.{World, read_cell}
use Rattle.js_heap.specs.Values.{type_text}
use Rattle.js_semantics.specs.References.{not_defined, value_or_uninitialized, bound_unless, with_result}
use Rattle.js_semantics.specs.State.{Action, make_text, give}
use Rattle.js_heap_memory.specs.declared.stored.FoundSlot.{FoundSlot}
use Rattle.js_heap_memory.specs.Calls.{HasPlace}

-- the value of a name that was found or not, as `value_of_found`
abbrev pub value_of_slot : List ℕ → Option FoundSlot → Computed
value_of_slot name None = not_defined name
value_of_slot name (Some f) = value_or_uninitialized name f.value

-- what a write to a name that was found or not changes, as `name_written`
abbrev pub slot_written : List ℕ → Option FoundSlot → Value → Written
slot_written name None v = refused classes.ReferenceError (name ++ codes " is not defined")
slot_written name (Some f) v = bound_unless name f.constant f.value f.scope v

-- the type of a name's value, or the error of a name without one
abbrev pub type_of_bound : World → List ℕ → Option Value → Action
type_of_bound w name v = with_result (value_or_uninitialized name v) (λ u. make_text (type_text w u) give)

-- the type of a name that was found or not, as `type_of_found`
abbrev pub type_of_slot : World → List ℕ → Option FoundSlot → Action
type_of_slot w name None = make_text (codes "undefined") give
type_of_slot w name (Some f) = type_of_bound w name f.value

-- the name stands where it was found
abbrev pub StandsWhereFound : World → Option FoundSlot → List ℕ → Type 0
StandsWhereFound w None name = Unit {0}
StandsWhereFound w (Some f) name = HasPlace (read_cell w f.scope) f.place name
