use Rattle.std.proofs.Common.{◌∙◌}
use Rattle.js_heap_memory.specs.Heaps.{heap_world}
use Rattle.js_heap_memory.specs.Overlays.{over_world, space_of}
use Rattle.pure_eval.proofs.OrderLemmas.{order-ends, order-space}
use Rattle.pure_eval.proofs.orders.end_in_order.Goals as goal

pub returns-clause-end : goal.returns-clause-end
returns-clause-end c = λ names.
    order-ends (heap_world names c.args.base.now) (over_world names c.over-overlay.result)
    (over_world names c.prepare-tried.new.overlay)
    names c.args.scratch c.args.source.now c.in-Ok.kept c.args.order.now c.prepare-tried.result c.args.end
    c.end_behind-end.result
    (c.in-Ok.ensures ∙ c.as_slice.ensures) (c.over-overlay.ensures.world names)
    (c.prepare-tried.ensures.placed names) c.end_behind-end.ensures

pub returns-clause-space : goal.returns-clause-space
returns-clause-space c = λ names.
    order-space (heap_world names c.args.base.now) (over_world names c.over-overlay.result)
    (over_world names c.prepare-tried.new.overlay) names c.args.scratch c.mark-mark.result
    (space_of names c.scratch_after-scratch.result) (c.over-overlay.ensures.world names) c.mark-mark.ensures
    (c.prepare-tried.ensures.keeps names) (c.scratch_after-scratch.ensures names)
