use Rattle.std.proofs.Common.{◌≡◌, drop}
use Rattle.js_semantics.specs.BuiltIns.{first_occurrence}
use Rattle.js_machine_actions.proofs.lists.first_occurrence.Given as goal

abbrev pub invariant-loop-i : goal.invariant-loop-i
invariant-loop-i l = first_occurrence 0 l.text l.of ≡ first_occurrence l.i (drop l.i l.text) l.of
