use Rattle.js_heap.specs.declared.change.Change.TheVariants as changes
use Rattle.js_machine_actions.proofs.FlowLemmas.{written-by}
use Rattle.js_machine_actions.proofs.cells.put.Goals as goal

pub returns : goal.returns
returns g c =
    written-by (λ x. g.W.World.world c.args.names.now x) c.args.world.now c.put-written.new.self c.args.a
    (changes.Put c.args.key.now c.args.value) c.put-written.result c.answered.result
    (c.put-written.ensures.written c.args.names.now) c.put-written.ensures.kept
    (c.answered.ensures c.args.names.now)
