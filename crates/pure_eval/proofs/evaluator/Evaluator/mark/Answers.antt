use Rattle.std.proofs.Common.{refl}
use Rattle.pure_eval.proofs.ReturnLemmas.{came-first}
use Rattle.pure_eval.proofs.evaluator.Evaluator.mark.Goals as goal

pub returns-clause-came : goal.returns-clause-came
returns-clause-came c =
    λ p r. came-first _ p c.args.self.now
    (record { table = c.mark.ensures; next = refl; names = c.len.ensures.len }) r
