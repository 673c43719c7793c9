use Rattle.std.proofs.Common.{◌≡◌, take}
use Rattle.js_machine_terms.proofs.copies.scope_names_copy.Given as goal

abbrev pub invariant-loop-binding : goal.invariant-loop-binding
invariant-loop-binding l = l.items.items ≡ take l.binding-index l.binding-items
