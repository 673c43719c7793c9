use Rattle.std.proofs.Common.{take}
use Rattle.js_heap_memory.specs.Names.{GoesOn}
use Rattle.js_machine_compiler.specs.Grown.{AreTexts}
use Rattle.js_machine_compiler.proofs.names.parameters_of.Given as goal

abbrev pub invariant-loop-text : goal.invariant-loop-text
invariant-loop-text l = record {
  goes_on : GoesOn l.fn.names l.names;
  are : AreTexts l.names l.parameters.items (take l.text-index l.text-items);
}
