use Rattle.std.proofs.Common.{ℕ, List}
use Rattle.pure_eval.proofs.ArgumentLemmas.{ArgumentsMade}
use Rattle.pure_eval.proofs.arguments.make_arguments.Given as goal

abbrev pub invariant-loop-argument : goal.invariant-loop-argument
invariant-loop-argument g l =
    (names : List (List ℕ))
    → ArgumentsMade (g.W.World.world names l.fn.world) l.arguments l.argument-index l.values.items
    (g.W.World.world names l.world)
