use Rattle.std.proofs.Common.{take}
use Rattle.js_heap_memory.specs.PropertyOrder.{AreKeysOf}
use Rattle.js_heap_memory.proofs.properties.named.names_of.Given as goal

abbrev pub invariant-loop-property : goal.invariant-loop-property
invariant-loop-property l = AreKeysOf l.keys.keys (take l.property-index l.properties)
