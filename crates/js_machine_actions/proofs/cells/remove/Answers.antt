use Rattle.js_heap.specs.declared.change.Change.TheVariants as changes
use Rattle.js_machine_actions.proofs.FlowLemmas.{written-by}
use Rattle.js_machine_actions.proofs.cells.remove.Goals as goal

pub returns : goal.returns
returns g c =
    written-by (λ x. g.W.World.world c.args.names.now x) c.args.world.now c.remove-written.new.self c.args.a
    (changes.Remove c.args.key.now) c.remove-written.result c.answered.result
    (c.remove-written.ensures.written c.args.names.now) c.remove-written.ensures.kept
    (c.answered.ensures c.args.names.now)
