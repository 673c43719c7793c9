use Rattle.std.proofs.Common.{◌≡◌, ◌++◌, drop}
use Rattle.std.specs.Prelude.{map}
use Rattle.js_heap.specs.Values.{shown}
use Rattle.js_machine_actions.proofs.shown.all_shown.Given as goal

abbrev pub invariant-loop-value : goal.invariant-loop-value
invariant-loop-value g l =
    l.texts.items ++ map (shown (g.W.World.world l.names l.world)) (drop l.value-index l.values) ≡ map
    (shown (g.W.World.world l.names l.world)) l.values
