use Rattle.std.proofs.Common.{◌≡◌, ◌++◌, drop}
use Rattle.js_semantics.specs.BuiltIns.{indices_from}
use Rattle.js_machine_actions.proofs.lists.indices.Given as goal

abbrev pub invariant-loop-i : goal.invariant-loop-i
invariant-loop-i l = l.keys.items ++ indices_from l.i (drop l.i l.values) ≡ indices_from 0 l.values
