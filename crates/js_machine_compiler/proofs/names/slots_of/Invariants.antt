use Rattle.std.proofs.Common.{take}
use Rattle.js_heap_memory.specs.Names.{GoesOn}
use Rattle.js_machine_compiler.specs.Grown.{AreBindings}
use Rattle.js_machine_compiler.proofs.names.slots_of.Given as goal

abbrev pub invariant-loop-binding : goal.invariant-loop-binding
invariant-loop-binding l = record {
  goes_on : GoesOn l.fn.names l.names;
  are : AreBindings l.names l.slots.items (take l.binding-index l.binding-items);
}
