use Rattle.js_semantics.specs.Terms.{settle}
use Rattle.js_heap_memory.specs.Overlays.{over_world, space_of}
use Rattle.js_machine_nodes.specs.Trees.{tree, program_of}
use Rattle.pure_eval.specs.Calling.{worked}
use Rattle.pure_eval.proofs.LeavingLemmas.{leaves}
use Rattle.pure_eval.proofs.session.evaluate_prepared.Goals as goal

pub returns : goal.returns
returns g c = λ x from.
    let ts = c.args.names.now in
    let t = c.args.table.now in
    leaves (worked (program_of ts t) c.args.work (over_world ts c.args.overlay) (settle (tree ts t c.args.node)))
    (over_world ts c.args.overlay) (over_world ts c.end_of_work-end.new.world) x
    (space_of ts c.scratch_after-scratch.result)
    c.args.mark c.end_of_work-end.result from c.end_of_work-end.ensures.answer c.end_of_work-end.ensures.keeps
    (c.scratch_after-scratch.ensures ts)
