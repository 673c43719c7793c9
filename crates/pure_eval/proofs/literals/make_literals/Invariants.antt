use Rattle.std.proofs.Common.{ℕ, List}
use Rattle.pure_eval.proofs.LiteralLemmas.{MakesOn}
use Rattle.pure_eval.proofs.literals.make_literals.Given as goal

abbrev pub invariant-loop-i : goal.invariant-loop-i
invariant-loop-i g l =
    (names : List (List ℕ)) → MakesOn (g.W.World.world names l.fn.world) l.literals l.i (g.W.World.world names l.world)
