use Rattle.std.proofs.Common.{take}
use Rattle.js_heap_memory.specs.Names.{GoesOn}
use Rattle.js_machine_compiler.specs.Grown.{AreMembers}
use Rattle.js_machine_compiler.proofs.names.members_of.Given as goal

abbrev pub invariant-loop-member : goal.invariant-loop-member
invariant-loop-member l = record {
  goes_on : GoesOn l.fn.names l.names;
  are : AreMembers l.names l.entries.items (take l.member-index l.member-items);
}
