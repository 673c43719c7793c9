use Rattle.js_machine_actions.proofs.LoopLemmas.{TextsLeft}
use Rattle.js_machine_actions.proofs.built_ins.make_texts.Given as goal

abbrev pub invariant-loop-i : goal.invariant-loop-i
invariant-loop-i g l =
    TextsLeft l.texts (g.W.World.world l.names l.initial.world) l.i l.values.items (g.W.World.world l.names l.world)
