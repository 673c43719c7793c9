use Rattle.std.proofs.Common.{◌≡◌, drop}
use Rattle.js_semantics.specs.BuiltIns.{joined_parts}
use Rattle.js_machine_actions.proofs.Joining.{with_parts}
use Rattle.js_machine_actions.proofs.lists.joined_parts.Given as goal

abbrev pub invariant-loop-element : goal.invariant-loop-element
invariant-loop-element g l =
    with_parts l.texts.items (joined_parts (g.C.Cells.world l.cells) (drop l.element-index l.elements)) ≡ joined_parts
    (g.C.Cells.world l.cells) l.elements
