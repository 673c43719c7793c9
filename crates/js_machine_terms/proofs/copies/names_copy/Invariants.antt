use Rattle.std.proofs.Common.{◌≡◌, take}
use Rattle.js_machine_terms.proofs.copies.names_copy.Given as goal

abbrev pub invariant-loop-name : goal.invariant-loop-name
invariant-loop-name l = l.items.items ≡ take l.name-index l.name-items
