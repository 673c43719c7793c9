use Rattle.std.proofs.Common.{arith}
use Rattle.pure_eval.proofs.KnownLemmas.{known-first, known-all, known-few}
use Rattle.pure_eval.proofs.workspace.is_known.Goals as goal

pub returns-then-known-count-clause-only : goal.returns-then-known-count-clause-only
returns-then-known-count-clause-only c = λ k. absurd (omega (arith, k.known))

pub returns-then-count-began-clause-only : goal.returns-then-count-began-clause-only
returns-then-count-began-clause-only c =
    λ k. absurd (omega (arith, known-few c.args.base.now c.args.names.now c.args.own.now c.args.began k))

pub returns-clause-known : goal.returns-clause-known
returns-clause-known c =
    λ e. known-first c.args.base.now c.args.names.now c.args.own.now c.args.began (grind arith) (grind arith)
    (c.goes_on_from.ensures.goes_on e)

pub returns-clause-only : goal.returns-clause-only
returns-clause-only c =
    λ k. c.goes_on_from.ensures.only
    (known-all c.args.base.now c.args.names.now c.args.own.now c.args.began k).goes_on
