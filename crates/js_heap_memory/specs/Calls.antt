-- What calls on a world answer.
use Rattle.std.specs.Prelude.{◌≡◌, ◌<◌, ◌-◌, ℕ, Bool, List, Option, Some, None, Result, Ok, Err, length}
use Rattle.js_heap.specs.declared.value.Addr.{Addr}
use Rattle.js_heap.specs.declared.value.Value.{Value}
use Rattle.js_heap.specs.declared.cell.Cell.{Cell}
use Rattle.js_heap.specs.declared.cell.Cell.TheVariants as cells
use Rattle.js_heap.specs.declared.change.Change.{Change}
use Rattle.js_heap.specs.declared.change.Change.TheVariants as changes
use Rattle.js_heap.specs.Places.{name_place}
use Rattle.js_heap.specs.World.{World, Room, Tried, fine, effect, full, base_room, scratch_room}
use Rattle.js_heap.specs.Scopes.{Found}
use Rattle.js_heap_memory.specs.declared.world.Refused.{Refused}
use Rattle.js_heap_memory.specs.declared.world.Refused.TheVariants.{Effect, Full, Memory}
use Rattle.js_heap_memory.specs.declared.stored.FoundSlot.{FoundSlot}

-- ---- trying

-- what is tried comes to the answer and the world after it; want of memory says nothing of what would have been
abbrev pub Tries : {A : Type 0} → Tried A → Result A Refused → World → Type 0
Tries t (Ok a) w = t ≡ fine a w
Tries t (Err Effect) w = t ≡ effect
Tries t (Err (Full what)) w = t ≡ full what
Tries t (Err Memory) w = Unit {0}

-- ---- counts

-- the room of a run's or of a session's cells before the first is made
abbrev pub whole_room : Option ℕ → Room
whole_room None = base_room
whole_room (Some start) = scratch_room

-- the cells that are counted: the limit less what is left
abbrev pub cells_counted : World → ℕ
cells_counted w = (whole_room w.start).cells - w.room.cells

-- the units that are counted: the limit less what is left
abbrev pub units_counted : World → ℕ
units_counted w = (whole_room w.start).units - w.room.units

-- ---- changes, with the names that code has for them

-- the property of a key has this value
abbrev pub put_change : List ℕ → Value → Change
put_change key v = changes.Put key v

-- no property of this key
abbrev pub remove_change : List ℕ → Change
remove_change key = changes.Remove key

-- the element of an index is this value
abbrev pub element_change : ℕ → Value → Change
element_change i v = changes.Element i v

-- an array has this length
abbrev pub length_change : ℕ → Change
length_change l = changes.Length l

-- a scope has this name, without a value yet
abbrev pub declare_change : List ℕ → Bool → Change
declare_change name constant = changes.Declare name constant

-- a declared name has this value
abbrev pub bind_change : List ℕ → Value → Change
bind_change name v = changes.Bind name v

-- ---- names that are found

-- a scope's name stands at a place
abbrev pub HasPlace : Option Cell → ℕ → List ℕ → Type 0
HasPlace (Some (cells.Bindings k n o ns)) place name = (place ≡ name_place ns name) × (place < length ns)
HasPlace _ place name = ⊥

-- what code keeps of a name that was found
pub record KeptBinding : Type 0 where
  pub scope : Addr
  pub constant : Bool
  pub value : Option Value

-- what code keeps of a binding that was found
abbrev pub kept_of : Found → KeptBinding
kept_of f = record { scope = f.scope; constant = f.binding.constant; value = f.binding.value }

-- what code keeps of a name that the definition finds, where it finds it
abbrev pub kept_found : Option Found → Option KeptBinding
kept_found None = None
kept_found (Some f) = Some (kept_of f)

-- what code keeps of a name that it found by its number, where it found it
abbrev pub kept_slot : Option FoundSlot → Option KeptBinding
kept_slot None = None
kept_slot (Some f) = Some (record { scope = f.scope; constant = f.constant; value = f.value })
