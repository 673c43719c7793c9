use Rattle.js_heap.specs.declared.cell.Cell.TheVariants as cells
use Rattle.pure_eval.proofs.LiteralLemmas.{made_keeps}
use Rattle.pure_eval.proofs.arguments.make_text_of.Goals as goal

pub returns-clause-keeps : goal.returns-clause-keeps
returns-clause-keeps g c = λ names.
    made_keeps (g.W.World.world names c.args.world.now) (g.W.World.world names c.make_text.new.world)
    (cells.Text c.args.units.now) c.in_ok-at.at (c.in_ok-at.ensures.made names)
