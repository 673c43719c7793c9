use Rattle.js_semantics.specs.Terms.{settle}
use Rattle.js_heap_memory.specs.Heaps.{heap_world}
use Rattle.js_heap_memory.specs.Overlays.{over_world, space_of}
use Rattle.js_machine_nodes.specs.Trees.{tree, program_of}
use Rattle.pure_eval.specs.Calling.{worked}
use Rattle.pure_eval.proofs.PlacedLemmas.{all-ready, all-refused}
use Rattle.pure_eval.proofs.session.evaluate_source.Goals as goal

pub returns-in-Ok : goal.returns-in-Ok
returns-in-Ok g c =
    let ts = c.args.names.now in
    let t = c.args.table.now in
    all-ready (worked (program_of ts t) c.args.work) (heap_world ts c.args.base.now)
    (over_world ts c.over-overlay.result) (over_world ts c.prepare.new.overlay)
    ts c.args.scratch c.mark-mark.result (space_of ts c.evaluate_prepared.result.scratch)
    c.args.source c.args.literals.now (settle (tree ts t c.args.node)) c.evaluate_prepared.result.end
    (c.over-overlay.ensures.world ts) c.mark-mark.ensures (c.in-Ok.ensures.placed ts) (c.prepare.ensures.keeps ts)
    c.evaluate_prepared.ensures

pub returns-in-Err : goal.returns-in-Err
returns-in-Err g c =
    let ts = c.args.names.now in
    let t = c.args.table.now in
    all-refused (worked (program_of ts t) c.args.work) (heap_world ts c.args.base.now)
    (over_world ts c.over-overlay.result) (over_world ts c.prepare.new.overlay)
    ts c.args.scratch c.mark-mark.result (space_of ts c.scratch_after-scratch.result)
    c.args.source c.args.literals.now (settle (tree ts t c.args.node)) c.in-Err.refused c.refused_end-end.result
    (c.over-overlay.ensures.world ts) c.mark-mark.ensures (c.in-Err.ensures.placed ts) (c.prepare.ensures.keeps ts)
    c.refused_end-end.ensures (c.scratch_after-scratch.ensures ts)
