use Rattle.std.proofs.Common.{take}
use Rattle.js_machine_terms.specs.Views.{listed_view}
use Rattle.js_machine_compiler.specs.Grown.{Grows, HaveTrees}
use Rattle.js_machine_compiler.proofs.terms.+add_term.Given as goal

abbrev pub invariant-add_items-loop-item : goal.invariant-add_items-loop-item
invariant-add_items-loop-item l = record {
  grows : Grows l.fn.names l.fn.table l.names l.table;
  trees : HaveTrees l.names l.table l.nodes.items (listed_view (take l.item-index l.item-items));
}
