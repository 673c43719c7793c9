use Rattle.std.proofs.lemmas.Result.{on_ok_weaker}
use Rattle.js_machine_nodes.specs.declared.op.Op.TheVariants as ops
use Rattle.std.proofs.Common.{None, refl}
use Rattle.js_machine_engine.specs.Stacks.{begun}
use Rattle.js_machine_engine.proofs.FollowLemmas.{scopes-replaced}
use Rattle.js_machine_engine.proofs.following.parts.follow_scope.Goals as goal

pub returns-clause-scoped : goal.returns-clause-scoped
returns-clause-scoped c =
    on_ok_weaker c.uncover_part.result
    (λ d. λ s. d
    (scopes-replaced c.args.table.now c.args.root (begun ops.Scoped 0 0 0 0 c.args.scope None)
    c.args.stack.now c.pop.new.self c.push.new.self refl c.pop.ensures.outer c.in_ok-push.ensures s))
    c.uncover_part.ensures.scoped
