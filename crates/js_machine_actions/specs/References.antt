-- The cases of reading, writing and deleting.
use Rattle.js_heap.specs.declared.value.Value.{Value}
use Rattle.js_heap.specs.declared.change.Change.TheVariants as changes
use Rattle.js_heap.specs.World.{World}
use Rattle.js_heap.specs.Values.{key_of}
use Rattle.js_heap.specs.Properties.{property_of, property_written, property_deleted}
use Rattle.js_heap.specs.declared.computed.Written.{Written}
use Rattle.js_heap.specs.declared.computed.Written.TheVariants.{Change as a_change}
use Rattle.js_semantics.specs.State.{Action}
use Rattle.js_semantics.specs.References.{with_result, with_written, with_key, keyed_result}

-- no change of a scope
abbrev pub IsOfProperty : Written → Type 0
IsOfProperty (a_change a (changes.Declare n constant)) = ⊥
IsOfProperty (a_change a (changes.Bind n v)) = ⊥
IsOfProperty _ = Unit {0}

-- a property with a computed key is read
abbrev pub indexed : World → Value → Value → (Value → Action) → Action
indexed w o i k = with_result (keyed_result (key_of w i) (property_of w o)) k

-- a property with a computed key is written
abbrev pub index_written : World → Value → Value → Value → Action → Action
index_written w o i v k = with_key (key_of w i) (λ key. with_written (property_written w o key v) k)

-- a property with a computed key is deleted
abbrev pub index_deleted : World → Value → Value → Action → Action
index_deleted w o i k = with_key (key_of w i) (λ key. with_written (property_deleted w o key) k)
