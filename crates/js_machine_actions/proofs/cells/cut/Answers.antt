use Rattle.js_heap.specs.declared.change.Change.TheVariants as changes
use Rattle.js_machine_actions.proofs.FlowLemmas.{written-by}
use Rattle.js_machine_actions.proofs.cells.cut.Goals as goal

pub returns : goal.returns
returns g c =
    written-by (λ x. g.W.World.world c.args.names.now x) c.args.world.now c.cut-written.new.self c.args.a
    (changes.Length c.args.length) c.cut-written.result c.answered.result
    (c.cut-written.ensures.written c.args.names.now) c.cut-written.ensures.kept
    (c.answered.ensures c.args.names.now)
