use Rattle.std.proofs.Common.{◌≡◌, drop}
use Rattle.js_semantics.specs.BuiltIns.{first_same}
use Rattle.js_machine_actions.proofs.lists.first_same.Given as goal

abbrev pub invariant-loop-i : goal.invariant-loop-i
invariant-loop-i g l =
    first_same (g.C.Cells.world l.cells) 0 l.elements l.value ≡ first_same (g.C.Cells.world l.cells) l.i
    (drop l.i l.elements) l.value
