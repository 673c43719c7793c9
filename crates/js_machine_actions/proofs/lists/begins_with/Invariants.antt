use Rattle.std.proofs.Common.{◌≡◌, drop}
use Rattle.js_semantics.specs.BuiltIns.{begins_with}
use Rattle.js_machine_actions.proofs.lists.begins_with.Given as goal

abbrev pub invariant-loop-i : goal.invariant-loop-i
invariant-loop-i l = begins_with l.text l.start ≡ begins_with (drop l.i l.text) (drop l.i l.start)
