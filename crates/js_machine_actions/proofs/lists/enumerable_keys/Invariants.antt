use Rattle.std.proofs.Common.{◌≡◌, ◌++◌, drop}
use Rattle.js_semantics.specs.BuiltIns.{enumerable_keys}
use Rattle.js_machine_actions.proofs.lists.enumerable_keys.Given as goal

abbrev pub invariant-loop-i : goal.invariant-loop-i
invariant-loop-i l = l.keys.items ++ enumerable_keys (drop l.i l.properties) ≡ enumerable_keys l.properties
