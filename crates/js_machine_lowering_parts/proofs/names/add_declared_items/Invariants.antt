use Rattle.std.proofs.Common.{◌≡◌, ◌++◌, drop, map}
use Rattle.js_semantics.specs.Makers as makers
use Rattle.js_semantics.specs.Sources.{declarator_source}
use Rattle.js_machine_lowering_parts.proofs.names.add_declared_items.Given as goal

abbrev pub invariant-loop-item : goal.invariant-loop-item
invariant-loop-item l =
    l.names.items ++ makers.declarators_names l.constant (map declarator_source (drop l.item-index l.items))
    ≡ l.fn.names.items ++ makers.declarators_names l.constant (map declarator_source l.items)
