use Rattle.std.proofs.Common.{take}
use Rattle.js_heap_memory.specs.PropertyOrder.{AreIndicesOf}
use Rattle.js_heap_memory.proofs.properties.elements.leading_indices.Given as goal

abbrev pub invariant-loop-property : goal.invariant-loop-property
invariant-loop-property l = AreIndicesOf l.indices.items (take l.property-index l.properties)
