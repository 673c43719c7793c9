use Rattle.std.proofs.Common.{◌≡◌, ◌++◌, drop}
use Rattle.js_heap.specs.Values.{between}
use Rattle.js_machine_actions.proofs.Joining.{behind_each}
use Rattle.js_machine_actions.proofs.shown.between.Given as goal

abbrev pub invariant-loop-i : goal.invariant-loop-i
invariant-loop-i l = l.all.items ++ behind_each l.separator (drop l.i l.texts) ≡ between l.separator l.texts
