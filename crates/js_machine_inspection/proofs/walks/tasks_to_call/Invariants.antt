use Rattle.std.proofs.Common.{◌≡◌, drop}
use Rattle.js_heap.specs.declared.value.Addr.{Addr}
use Rattle.js_machine_inspection.specs.Scopes.{call_scopes}
use Rattle.js_machine_inspection.proofs.walks.tasks_to_call.Given as goal

-- none of the tasks passed is the body of a call
abbrev pub invariant-loop-i : goal.invariant-loop-i
invariant-loop-i l =
    (root : Addr) → call_scopes root (drop l.fn.tasks l.stack) ≡ call_scopes root (drop l.i l.stack)
