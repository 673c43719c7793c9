use Rattle.std.proofs.Common.{◌∙◌, sym}
use Rattle.js_semantics.specs.Terms.{settle}
use Rattle.js_heap_memory.specs.Heaps.{heap_world}
use Rattle.js_heap_memory.specs.Overlays.{space_of}
use Rattle.js_machine_nodes.specs.Trees.{tree, program_of}
use Rattle.pure_eval.specs.Calling.{worked}
use Rattle.pure_eval.proofs.OrderLemmas.{order-other, order-full}
use Rattle.pure_eval.proofs.orders.evaluate_in_order.Goals as goal

pub returns-then-is_full : goal.returns-then-is_full
returns-then-is_full g c =
    let ts = c.args.names.now in
    let t = c.args.table.now in
    order-full (heap_world ts c.args.base.now) (space_of ts c.args.scratch)
    (space_of ts c.evaluate_source-outcome.result.scratch) (space_of ts c.end_in_order.result.scratch)
    c.args.source.now c.in-Ok.kept c.args.order.now c.args.literals.now (settle (tree ts t c.args.node))
    (worked (program_of ts t) c.args.work) c.evaluate_source-outcome.result.end c.end_in_order.result.end
    (c.in-Ok.ensures ∙ c.as_slice.ensures) (sym c.if-is_full.ensures) c.evaluate_source-outcome.ensures
    (c.end_in_order.ensures.end ts) (c.end_in_order.ensures.space ts)

pub returns-else-is_full : goal.returns-else-is_full
returns-else-is_full g c =
    let ts = c.args.names.now in
    let t = c.args.table.now in
    order-other (heap_world ts c.args.base.now) (space_of ts c.args.scratch)
    (space_of ts c.evaluate_source-outcome.result.scratch)
    c.args.source.now c.in-Ok.kept c.args.order.now c.args.literals.now (settle (tree ts t c.args.node))
    (worked (program_of ts t) c.args.work) c.evaluate_source-outcome.result.end
    (c.in-Ok.ensures ∙ c.as_slice.ensures) (sym c.if-is_full.ensures) c.evaluate_source-outcome.ensures
