use Rattle.std.proofs.lemmas.Result.{IfOk-weaker}
use Rattle.std.proofs.Common.{refl}
use Rattle.js_semantics.specs.Terms.{at_test, at_update}
use Rattle.js_machine_nodes.specs.declared.op.Op.TheVariants as ops
use Rattle.js_machine_engine.specs.Tasks.{turn_scope}
use Rattle.js_machine_engine.specs.Settling.{Comes, looped}
use Rattle.js_machine_engine.proofs.StageLemmas.{looped-same, looped-part, update-value, update-open}
use Rattle.js_machine_engine.proofs.stages.at_update.Goals as goal

pub returns-in-Value : goal.returns-in-Value
returns-in-Value c =
    let t = c.args.table.now in
    let task = c.args.task in
    let old = c.args.stack.now in
    IfOk-weaker c.at_test.result
    (Comes t old c.at_test.new.stack (λ ts. looped ts t old at_test task))
    (Comes t old c.at_test.new.stack (λ ts. looped ts t old at_update task))
    (λ next. looped-same t old c.at_test.new.stack at_update at_test task next
    (λ ts. update-value ts t task c.in-Value.field-0 (turn_scope task.info task.inner) (c.in-Value.ensures ts)))
    c.at_test.ensures

pub returns-in-Open : goal.returns-in-Open
returns-in-Open c =
    let t = c.args.table.now in
    let task = c.args.task in
    looped-part t c.args.stack.now c.restage.new.stack at_update task ops.LoopUpdating c.in-Open.part c.requires.task
    c.requires.loops refl c.restage.ensures c.in-Open.ensures.form
    (λ ts. update-open ts t task c.in-Open.part (turn_scope task.info task.inner) c.in-Open.ensures)
