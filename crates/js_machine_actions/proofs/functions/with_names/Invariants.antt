use Rattle.js_machine_actions.proofs.LoopLemmas.{NamesLeft}
use Rattle.js_machine_actions.proofs.functions.with_names.Given as goal

abbrev pub invariant-loop-slot : goal.invariant-loop-slot
invariant-loop-slot g l =
    NamesLeft l.scope l.names l.slots (g.W.World.world l.names l.initial.world) l.slot-index
    (g.W.World.world l.names l.world)
