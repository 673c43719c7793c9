use Rattle.js_heap_memory.specs.Cells.{cell_of}
use Rattle.js_machine_actions.proofs.FlowLemmas.{made-by}
use Rattle.js_machine_actions.proofs.cells.make.Goals as goal

pub returns : goal.returns
returns g c =
    made-by (λ x. g.W.World.world c.args.names.now x) c.args.world.now c.make-made.new.self
    (cell_of c.args.names.now c.args.cell) c.make-made.result c.answered.result
    (c.make-made.ensures.made c.args.names.now) c.make-made.ensures.kept (c.answered.ensures c.args.names.now)
