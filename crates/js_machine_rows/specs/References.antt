-- Names, and properties that the values of a row name.
use Rattle.std.specs.Prelude.{ℕ, List, [], ◌∷◌, length, Bool, true, false, Option, Some, nat_le}
use Rattle.js_heap.specs.declared.value.Addr.{Addr}
use Rattle.js_heap.specs.declared.value.Value.{Value}
use Rattle.js_heap.specs.declared.value.Value.TheVariants as values
use Rattle.js_heap.specs.declared.cell.Cell.{Cell}
use Rattle.js_heap.specs.declared.cell.Cell.TheVariants as cells
use Rattle.js_heap.specs.declared.computed.Computed.{Computed}
use Rattle.js_heap.specs.declared.computed.Computed.TheVariants.{Value as a_value}
use Rattle.js_heap.specs.World.{World}
use Rattle.js_heap.specs.Values.{key_of}
use Rattle.js_heap.specs.Properties.{property_of, property_written, property_deleted}
use Rattle.js_semantics.specs.State.{Action, give}
use Rattle.js_semantics.specs.References.{found, value_of_found, with_written, keyed_result}
use Rattle.js_machine_actions.specs.References.{index_written, index_deleted}

-- ---- reading

-- the value of a name that is looked up from a scope outward
abbrev pub name_result : World → Addr → List ℕ → Computed
name_result w scope name = value_of_found name (found w scope name)

-- a property of the first value with a fixed key
abbrev pub member_result : World → List Value → List ℕ → Computed
member_result w (o ∷ vs) key = property_of w o key
member_result w [] key = a_value values.Undefined

-- a property of the first value with the second value as its key
abbrev pub index_result : World → List Value → Computed
index_result w (o ∷ i ∷ vs) = keyed_result (key_of w i) (property_of w o)
index_result w _ = a_value values.Undefined

-- ---- writing

-- a property of the first value with a fixed key is written
abbrev pub member_put : World → List Value → List ℕ → Value → Action → Action
member_put w (o ∷ vs) key v k = with_written (property_written w o key v) k
member_put w [] key v k = give values.Undefined

-- a property of the first value with the second one as its key is written
abbrev pub index_put : World → List Value → Value → Action → Action
index_put w (o ∷ i ∷ vs) v k = index_written w o i v k
index_put w _ v k = give values.Undefined

-- ---- deleting

-- a property of the first value with a fixed key is deleted
abbrev pub member_removed : World → List Value → List ℕ → Action → Action
member_removed w (o ∷ vs) key k = with_written (property_deleted w o key) k
member_removed w [] key k = give values.Undefined

-- a property of the first value with the second one as its key is deleted
abbrev pub index_removed : World → List Value → Action → Action
index_removed w (o ∷ i ∷ vs) k = index_deleted w o i k
index_removed w _ k = give values.Undefined

-- ---- cells

-- a cell is that of an object which is no error, array or function
abbrev pub is_object_cell : Option Cell → Bool
is_object_cell (Some (cells.Object ps)) = true
is_object_cell _ = false

-- an array with an element at this place, or of this length
abbrev pub has_place : Option Cell → ℕ → Bool
has_place (Some (cells.Array vs)) i = nat_le i (length vs)
has_place _ i = false
