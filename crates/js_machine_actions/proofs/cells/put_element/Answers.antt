use Rattle.js_heap.specs.declared.change.Change.TheVariants as changes
use Rattle.js_machine_actions.proofs.FlowLemmas.{written-by}
use Rattle.js_machine_actions.proofs.cells.put_element.Goals as goal

pub returns : goal.returns
returns g c =
    written-by (λ x. g.W.World.world c.args.names.now x) c.args.world.now c.put_element-written.new.self c.args.a
    (changes.Element c.args.index c.args.value) c.put_element-written.result c.answered.result
    (c.put_element-written.ensures.written c.args.names.now) c.put_element-written.ensures.kept
    (c.answered.ensures c.args.names.now)
