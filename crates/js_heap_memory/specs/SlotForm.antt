-- The list that each form of a scope's names holds.
use Rattle.std.specs.Prelude.{List}
use Rattle.js_heap_memory.specs.declared.stored.Slot.{Slot}
use Rattle.js_heap_memory.specs.declared.stored.Form.{Form}
use Rattle.js_heap_memory.specs.declared.stored.Form.TheVariants.{Few, Many}

-- the names in their order
abbrev pub listed : Form → List Slot
listed (Few items) = items.items
listed (Many wide) = wide.value
