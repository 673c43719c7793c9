use Rattle.std.proofs.Common.{refl}
use Rattle.js_semantics.specs.Terms.{behind_first}
use Rattle.js_machine_nodes.specs.declared.op.Op.TheVariants as ops
use Rattle.js_machine_engine.specs.Settling.{kept_trees}
use Rattle.js_machine_engine.proofs.StageLemmas.{looped-row, first-with}
use Rattle.js_machine_engine.proofs.stages.behind_first.Goals as goal

pub returns : goal.returns
returns c =
    let t = c.args.table.now in
    let task = c.args.task in
    looped-row t c.args.stack.now c.restage.new.stack behind_first task ops.LoopFirst c.requires.task c.requires.loops
    refl c.restage.ensures
    (λ ts. first-with task.info task.inner (kept_trees ts t task) c.if-task-eq0.false)
