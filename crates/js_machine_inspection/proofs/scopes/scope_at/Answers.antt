use Rattle.js_machine_engine.specs.Stacks.{wide, values_of, extra_of}
use Rattle.std.proofs.Common.{drop}
use Rattle.js_machine_inspection.proofs.FrameLemmas.{scope-some, scope-none}
use Rattle.js_machine_inspection.proofs.scopes.scope_at.Goals as goal

pub returns-in-Some : goal.returns-in-Some
returns-in-Some c =
    let ws = c.args.stack.now in
    scope-some c.args.root ws c.args.i
    (wide c.in-Some.task (values_of (drop c.args.i ws)) (extra_of (drop c.args.i ws))) c.in-Some.ensures.some

pub returns-in-None : goal.returns-in-None
returns-in-None c = scope-none c.args.root c.args.stack.now c.args.i c.in-None.ensures.none
