use Rattle.std.proofs.Common.{ap, sym, ◌∙◌, arith}
use Rattle.js_heap.specs.World.{fine}
use Rattle.pure_eval.proofs.ArgumentLemmas.{arguments-next, arguments-all}
use Rattle.pure_eval.proofs.arguments.make_arguments.Goals as goal

pub loop-argument-preserved : goal.loop-argument-preserved
loop-argument-preserved g c = λ names.
    arguments-next (g.W.World.world names c.args.world.now) (g.W.World.world names c.loop-argument.world)
    (g.W.World.world names c.make_argument.new.world)
    c.args.arguments.now c.loop-argument.argument-index c.argument-item.result c.in_ok-value.value
    c.loop-argument.values.items _
    (c.loop-argument.invariant names) (omega arith) c.argument-item.is (c.in_ok-value.ensures.made names)
    (c.in_ok-value.ensures.keeps names) c.in_ok-push.ensures.items

pub returns-clause-made : goal.returns-clause-made
returns-clause-made g c = λ names.
    arguments-all (g.W.World.world names c.args.world.now) (g.W.World.world names c.loop-argument.world)
    c.args.arguments.now c.loop-argument.argument-index c.loop-argument.values.items
    (c.loop-argument.invariant names) (omega arith)
    ∙ ap (λ vs. fine vs (g.W.World.world names c.loop-argument.world)) (sym c.from_vec.ensures)
