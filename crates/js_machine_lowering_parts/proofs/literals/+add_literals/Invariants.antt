use Rattle.std.proofs.Common.{◌≡◌, ◌++◌, drop}
use Rattle.js_semantics.specs.Run as run
use Rattle.js_machine_terms.specs.Views.{listed_view}
use Rattle.js_machine_lowering_parts.proofs.literals.+add_literals.Given as goal

abbrev pub invariant-add_item_literals-loop-item : goal.invariant-add_item_literals-loop-item
invariant-add_item_literals-loop-item l =
    l.found.items ++ run.literals_of (listed_view (drop l.item-index l.item-items))
    ≡ l.fn.found.items ++ run.literals_of (listed_view l.item-items)
