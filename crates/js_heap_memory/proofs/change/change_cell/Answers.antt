use Rattle.std.proofs.Common.{subst}
use Rattle.js_heap_memory.specs.declared.stored.Stored.{Stored}
use Rattle.js_heap_memory.specs.Cells.{Within}
use Rattle.js_heap_memory.proofs.change.change_cell.Goals as goal

pub returns-in-Scope-clause-within : goal.returns-in-Scope-clause-within
returns-in-Scope-clause-within c = λ end h k.
    let P : Stored → Type 0 = λ x. Within end x in
    let p = subst P c.in-Scope.is k in
    (p.0, c.change_slots.ensures.within end h p.1)
