use Rattle.js_heap_memory.specs.Names.{GoesOn}
use Rattle.js_heap_memory.proofs.start.add_names.Given as goal

abbrev pub invariant-loop-i : goal.invariant-loop-i
invariant-loop-i l = GoesOn l.initial.names l.names
