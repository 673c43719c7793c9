use Rattle.pure_eval.proofs.CallLemmas.{begun-term, begun-stands}
use Rattle.pure_eval.proofs.calling.begin_call.Goals as goal

pub returns-clause-term : goal.returns-clause-term
returns-clause-term c =
    begun-term c.args.code.now.table.now c.args.call c.args.code.now.root c.args.receiver c.args.callee
    c.args.arguments.now
    c.new-stack.result c.push.new.self c.push_value.new.self c.push_value-2.new.self c.push_values.new.stack
    c.requires c.new-stack.ensures c.in_ok-push.ensures c.in_ok-push_value.ensures c.in_ok-push_value-2.ensures
    c.in_ok-push_values.ensures

pub returns-clause-stands : goal.returns-clause-stands
returns-clause-stands c =
    begun-stands c.args.code.now.table.now c.args.call c.args.code.now.root c.args.receiver c.args.callee
    c.args.arguments.now
    c.new-stack.result c.push.new.self c.push_value.new.self c.push_value-2.new.self c.push_values.new.stack
    c.requires c.new-stack.ensures c.in_ok-push.ensures c.in_ok-push_value.ensures c.in_ok-push_value-2.ensures
    c.in_ok-push_values.ensures
