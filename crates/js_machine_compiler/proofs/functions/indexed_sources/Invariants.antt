use Rattle.std.proofs.Common.{take}
use Rattle.js_machine_compiler.specs.Index.{AreIndexed}
use Rattle.js_machine_compiler.proofs.functions.indexed_sources.Given as goal

abbrev pub invariant-loop-i : goal.invariant-loop-i
invariant-loop-i l = AreIndexed l.table (take l.i l.table.sources.items) l.sources.items
