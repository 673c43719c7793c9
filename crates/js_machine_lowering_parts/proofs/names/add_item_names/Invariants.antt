use Rattle.std.proofs.Common.{◌≡◌, ◌++◌, drop, map}
use Rattle.js_semantics.specs.Makers as makers
use Rattle.js_semantics.specs.Sources.{statement_source}
use Rattle.js_machine_lowering_parts.proofs.names.add_item_names.Given as goal

abbrev pub invariant-loop-item : goal.invariant-loop-item
invariant-loop-item l =
    l.names.items ++ (makers.items_of (map statement_source (drop l.item-index l.items))).names ≡ l.fn.names.items ++
    (makers.items_of (map statement_source l.items)).names
