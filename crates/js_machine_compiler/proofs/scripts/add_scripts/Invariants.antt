use Rattle.std.proofs.Common.{take}
use Rattle.js_semantics.specs.Run.{program_from}
use Rattle.js_machine_terms.specs.Views.{listed_view}
use Rattle.js_machine_compiler.specs.Grown.{HaveTrees}
use Rattle.js_machine_compiler.specs.Scripts.{Continues, IsProgram}
use Rattle.js_machine_compiler.proofs.scripts.add_scripts.Given as goal

abbrev pub invariant-loop-i : goal.invariant-loop-i
invariant-loop-i l = record {
  continues : Continues l.fn.names l.fn.table l.names l.table;
  trees : HaveTrees l.names l.table l.roots.items (listed_view (take l.i l.scripts));
  program : IsProgram l.names l.table (program_from 1 (listed_view (take l.i l.scripts)));
}
