-- What rows look for first, as it is found most often.
use Rattle.std.specs.Prelude.{not, ◌&&◌, Option, Some, None, is_some, if◌then◌else◌}
use Rattle.js_heap.specs.declared.value.Value.{Value}
use Rattle.js_heap_memory.specs.declared.stored.FoundSlot.{FoundSlot}

-- the value of a name that was found and has one
abbrev pub slot_value : Option FoundSlot → Option Value
slot_value None = None
slot_value (Some f) = f.value

-- a name that was found, isn't constant and has a value
abbrev pub open_slot : Option FoundSlot → Option FoundSlot
open_slot None = None
open_slot (Some f) = if is_some f.value && not f.constant then Some f else None
