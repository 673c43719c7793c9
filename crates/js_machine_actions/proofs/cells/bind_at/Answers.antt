use Rattle.js_heap.specs.declared.change.Change.TheVariants as changes
use Rattle.js_heap_memory.specs.Names.{name_of}
use Rattle.js_machine_actions.proofs.FlowLemmas.{written-by}
use Rattle.js_machine_actions.proofs.cells.bind_at.Goals as goal

pub returns : goal.returns
returns g c =
    written-by (λ x. g.W.World.world c.args.names.now x) c.args.world.now c.bind_at-written.new.self c.args.scope
    (changes.Bind (name_of c.args.names.now c.args.name.number) c.args.value)
    c.bind_at-written.result c.answered.result c.bind_at-written.ensures.written c.bind_at-written.ensures.kept
    (c.answered.ensures c.args.names.now)
