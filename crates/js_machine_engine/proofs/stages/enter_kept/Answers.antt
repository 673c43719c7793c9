use Rattle.js_semantics.specs.Terms.{test_of}
use Rattle.js_machine_nodes.specs.Trees.{trees}
use Rattle.js_machine_engine.proofs.StageLemmas.{enter-value}
use Rattle.js_machine_engine.proofs.stages.enter_kept.Goals as goal

pub returns-in_ok-push_value-in-Value : goal.returns-in_ok-push_value-in-Value
returns-in_ok-push_value-in-Value c =
    enter-value c.args.table.now c.args.stack.now c.push_value.new.self
    (λ ts. test_of (trees ts c.args.table.now c.args.place c.args.end))
    c.in-Value.value c.requires.row c.requires.empty c.in-Value.ensures c.in_ok-push_value-in-Value.ensures
