use Rattle.js_machine_actions.proofs.LoopLemmas.{ElementsLeft}
use Rattle.js_machine_actions.proofs.arrays.push_all.Given as goal

abbrev pub invariant-loop-value : goal.invariant-loop-value
invariant-loop-value g l =
    ElementsLeft l.a l.len l.values (g.W.World.world l.names l.initial.world) l.value-index l.index
    (g.W.World.world l.names l.world)
