use Rattle.std.proofs.Common.{refl}
use Rattle.pure_eval.proofs.evaluator.Evaluator.keep.Goals as goal

pub returns-then-is_kept-clause-cut : goal.returns-then-is_kept-clause-cut
returns-then-is_kept-clause-cut c = λ o. let e = c.if-is_kept.ensures in absurd cc

pub returns-clause-kept : goal.returns-clause-kept
returns-clause-kept c = λ o. let e = c.if-is_kept.ensures in absurd cc

pub returns-clause-cut : goal.returns-clause-cut
returns-clause-cut c = λ o. (refl, c.cut.ensures.back)
