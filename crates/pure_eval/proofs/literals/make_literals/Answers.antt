use Rattle.std.proofs.Common.{arith}
use Rattle.pure_eval.proofs.LiteralLemmas.{makes-next}
use Rattle.pure_eval.proofs.literals.make_literals.Goals as goal

pub loop-i-preserved : goal.loop-i-preserved
loop-i-preserved g c = λ names.
    makes-next c.args.literals.now c.loop-i.i c.index-literals-i.result c.in_ok-make_text.field-0
    (g.W.World.world names c.args.world.now) (g.W.World.world names c.loop-i.world)
    (g.W.World.world names c.make_text.new.world) (c.loop-i.invariant names) (grind arith) c.index-literals-i.is
    (c.in_ok-make_text.ensures.made names)
