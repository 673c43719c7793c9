-- The list that each form of a property map holds.
use Rattle.std.specs.Prelude.{List}
use Rattle.js_heap.specs.declared.cell.Property.{Property}
use Rattle.js_heap_memory.specs.declared.properties.Form.{Form}
use Rattle.js_heap_memory.specs.declared.properties.Form.TheVariants.{Few, Many}

-- the properties in their order
abbrev pub listed : Form → List Property
listed (Few few) = few
listed (Many many) = many.value
