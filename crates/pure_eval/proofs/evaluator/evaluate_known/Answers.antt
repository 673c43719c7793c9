use Rattle.js_semantics.specs.Terms.{settle}
use Rattle.js_heap_memory.specs.Overlays.{space_of}
use Rattle.js_machine_nodes.specs.Trees.{tree, program_of}
use Rattle.pure_eval.specs.Calling.{worked}
use Rattle.pure_eval.proofs.EvaluatorLemmas.{known-leaves, world-further, space-further}
use Rattle.pure_eval.proofs.evaluator.evaluate_known.Goals as goal

pub returns : goal.returns
returns g c = λ before on l m same.
    let ts = c.args.names.now in
    let t = c.args.table.now in
    known-leaves before ts c.args.base.now c.args.scratch c.know.new.self
    (space_of ts c.evaluate_in_order.result.scratch) c.args.source.now c.args.order.now c.args.literals.now
    (settle (tree ts t c.args.node)) (worked (program_of ts t) c.args.work) c.evaluate_in_order.result.end
    (world-further before ts c.args.base.now on c.goes_on.ensures l)
    (space-further before ts c.args.scratch on c.goes_on-2.ensures m) (c.know.ensures.space ts)
    (c.evaluate_in_order.ensures same)
