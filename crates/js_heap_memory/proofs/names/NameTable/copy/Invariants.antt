use Rattle.std.proofs.Common.{◌≡◌, take}
use Rattle.js_heap_memory.proofs.names.NameTable.copy.Given as goal

abbrev pub invariant-loop-i : goal.invariant-loop-i
invariant-loop-i l = l.names ≡ take l.i l.self-inside.texts
