use Rattle.std.proofs.Common.{◌≡◌, length, take}
use Rattle.js_heap_memory.proofs.names.NameTable.cut.Given as goal

abbrev pub invariant-loop-self : goal.invariant-loop-self
invariant-loop-self l = take l.len l.self ≡ take l.len l.initial.self

abbrev pub decreases-loop-self : goal.decreases-loop-self
decreases-loop-self l = length l.self
