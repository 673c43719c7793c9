-- The values of names, and reading and writing what a reference refers to.
use Rattle.std.specs.Prelude.{ℕ, Bool, true, false, List, ◌∷◌, ◌++◌, Option, Some, None, codes}
use Rattle.js_heap.specs.declared.value.Addr.{Addr}
use Rattle.js_heap.specs.declared.value.Value.{Value}
use Rattle.js_heap.specs.declared.value.Value.TheVariants as values
use Rattle.js_heap.specs.declared.built_in.ErrorClass.TheVariants as classes
use Rattle.js_heap.specs.declared.change.Change.TheVariants as changes
use Rattle.js_heap.specs.World.{World}
use Rattle.js_semantics.specs.Terms.{Reference, to_name, to_member, to_index}
use Rattle.js_heap.specs.Values.{key_of}
use Rattle.js_heap.specs.declared.computed.Computed.{Computed as Result}
use Rattle.js_heap.specs.declared.computed.Computed.TheVariants.{Value as a_value, Text as a_text, Error as an_error}
use Rattle.js_semantics.specs.State.{Action, write, give, make_text, fail}
use Rattle.js_heap.specs.Properties.{bad_key, property_of, property_written, property_deleted}
use Rattle.js_heap.specs.declared.computed.Written.{Written}
use Rattle.js_heap.specs.declared.computed.Written.TheVariants.{Change as a_change, Refused as refused}
pub use Rattle.js_heap.specs.Scopes.{Found, found_here, found_outward, found_in, found_within, found}

-- ---- names (9.1.2.1)

-- the error of a name that no scope has
abbrev pub not_defined : List ℕ → Result
not_defined name = an_error classes.ReferenceError (name ++ codes " is not defined")

-- the error of a name that has no value yet
abbrev pub not_initialized : List ℕ → Result
not_initialized name =
    an_error classes.ReferenceError (codes "Cannot access '" ++ name ++ codes "' before initialization")

-- a name's value, or the error where it has none yet
abbrev pub value_or_uninitialized : List ℕ → Option Value → Result
value_or_uninitialized name (Some v) = a_value v
value_or_uninitialized name None = not_initialized name

-- the value of a name (9.1.1.1.6)
abbrev pub value_of_found : List ℕ → Option Found → Result
value_of_found name None = not_defined name
value_of_found name (Some f) = value_or_uninitialized name f.binding.value

-- what assigning to a name changes (9.1.1.1.5): an uninitialised name is refused before a constant one
abbrev pub bound_unless : List ℕ → Bool → Option Value → Addr → Value → Written
bound_unless name constant None scope v =
    refused classes.ReferenceError (codes "Cannot access '" ++ name ++ codes "' before initialization")
bound_unless name true (Some u) scope v = refused classes.TypeError (codes "Assignment to constant variable.")
bound_unless name false (Some u) scope v = a_change scope (changes.Bind name v)

-- what assigning to a name changes; a name that no scope has is refused (9.1.1.1.5)
abbrev pub name_written : List ℕ → Option Found → Value → Written
name_written name None v = refused classes.ReferenceError (name ++ codes " is not defined")
name_written name (Some f) v = bound_unless name f.binding.constant f.binding.value f.scope v

-- ---- references

-- goes on with a result: a text is a new cell, an error is raised
abbrev pub with_result : Result → (Value → Action) → Action
with_result (a_value v) k = k v
with_result (a_text us) k = make_text us k
with_result (an_error class message) k = fail class message

-- makes the change and goes on; what is refused is raised as an error
abbrev pub with_written : Written → Action → Action
with_written (a_change a c) k = write a c k
with_written (refused class message) k = fail class message

-- a key's check comes before the object's
abbrev pub with_key : Option (List ℕ) → (List ℕ → Action) → Action
with_key None k = with_result bad_key give
with_key (Some key) k = k key

-- goes on with a key, or gives the error of what is none
abbrev pub keyed_result : Option (List ℕ) → (List ℕ → Result) → Result
keyed_result None k = bad_key
keyed_result (Some key) k = k key

-- what a reference has, from its parts (6.2.5.5)
abbrev pub read_result : World → Addr → Reference → List Value → Result
read_result w scope (to_name n) vs = value_of_found n (found w scope n)
read_result w scope (to_member key) (o ∷ vs) = property_of w o key
read_result w scope to_index (o ∷ i ∷ vs) = keyed_result (key_of w i) (property_of w o)
read_result w scope _ vs = a_value values.Undefined

-- goes on with the value of a reference, from its parts (6.2.5.5)
abbrev pub get : World → Addr → Reference → List Value → (Value → Action) → Action
get w scope r vs k = with_result (read_result w scope r vs) k

-- writes a value, from the reference's parts (6.2.5.6)
abbrev pub put : World → Addr → Reference → List Value → Value → Action → Action
put w scope (to_name n) vs v k = with_written (name_written n (found w scope n) v) k
put w scope (to_member key) (o ∷ vs) v k = with_written (property_written w o key v) k
put w scope to_index (o ∷ i ∷ vs) v k = with_key (key_of w i) (λ key. with_written (property_written w o key v) k)
put w scope _ vs v k = give values.Undefined

-- deletes a property (13.5.1.2)
abbrev pub remove : World → Reference → List Value → Action → Action
remove w (to_member key) (o ∷ vs) k = with_written (property_deleted w o key) k
remove w to_index (o ∷ i ∷ vs) k = with_key (key_of w i) (λ key. with_written (property_deleted w o key) k)
remove w _ vs k = give values.Undefined
