use Rattle.std.proofs.Common.{◌≡◌, ◌-◌, drop, slice_get}
use Rattle.js_machine_inspection.specs.Scopes.{call_scopes}
use Rattle.js_machine_inspection.proofs.scopes.frame_scope.Given as goal

-- so many more calls are left behind these tasks
abbrev pub invariant-loop-i : goal.invariant-loop-i
invariant-loop-i l =
    slice_get (call_scopes l.fn.root l.stack) (l.fn.d - 1) ≡ slice_get (call_scopes l.fn.root (drop l.i l.stack)) l.left
