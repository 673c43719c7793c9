use Rattle.std.proofs.Common.{◌≡◌, ◌+◌, length, drop}
use Rattle.js_semantics.specs.Terms as semantics
use Rattle.js_semantics.specs.Run as run
use Rattle.js_machine_terms.specs.Views.{listed_view}
use Rattle.js_machine_lowering_parts.specs.Spaces.{address}
use Rattle.js_machine_lowering_parts.proofs.literals.+placed.Given as goal

abbrev pub invariant-items_placed-loop-item : goal.invariant-items_placed-loop-item
invariant-items_placed-loop-item l = record {
  placed : semantics.joined (listed_view l.placed.items)
      (run.all_with_literals (address l.fn.space) l.next (listed_view (drop l.item-index l.item-items)))
      ≡ run.all_with_literals (address l.fn.space) l.fn.next (listed_view l.item-items);
  counted : l.next + length (run.literals_of (listed_view (drop l.item-index l.item-items))) ≡ l.fn.next + length
      (run.literals_of (listed_view l.item-items));
}
