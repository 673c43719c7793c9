use Rattle.std.proofs.lemmas.Result.{IfOk-weaker}
use Rattle.js_semantics.specs.Terms.{test_of, at_test}
use Rattle.js_machine_nodes.specs.Trees.{trees}
use Rattle.js_machine_engine.specs.Settling.{Comes, staged, looped}
use Rattle.js_machine_engine.proofs.StageLemmas.{test-comes}
use Rattle.js_machine_engine.proofs.stages.at_test.Goals as goal

pub returns : goal.returns
returns c =
    let t = c.args.table.now in
    let task = c.args.task in
    IfOk-weaker c.enter_kept.result
    (Comes t c.restage.new.stack c.enter_kept.new.stack
    (λ ts. staged ts t c.restage.new.stack (test_of (trees ts t task.mid task.end))))
    (Comes t c.args.stack.now c.enter_kept.new.stack (λ ts. looped ts t c.args.stack.now at_test task))
    (λ next. test-comes t c.args.stack.now c.restage.new.stack c.enter_kept.new.stack task next c.requires.task
    c.requires.loops c.restage.ensures)
    c.enter_kept.ensures
