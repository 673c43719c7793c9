use Rattle.js_heap_memory.specs.Cells.{cell_of}
use Rattle.pure_eval.proofs.LiteralLemmas.{made_keeps}
use Rattle.pure_eval.proofs.arguments.make_object_of.Goals as goal

pub returns-clause-keeps : goal.returns-clause-keeps
returns-clause-keeps g c = λ names.
    made_keeps (g.W.World.world names c.args.world.now) (g.W.World.world names c.make.new.self)
    (cell_of names c.args.cell) c.in_ok-at.at (c.in_ok-at.ensures.made names)
