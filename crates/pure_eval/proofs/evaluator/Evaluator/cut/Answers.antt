use Rattle.std.proofs.Common.{refl}
use Rattle.pure_eval.proofs.ReturnLemmas.{again, came-again}
use Rattle.pure_eval.proofs.evaluator.Evaluator.cut.Goals as goal

pub returns-clause-back : goal.returns-clause-back
returns-clause-back c = λ e w k g. again e c.args.self.now _ c.args.mark refl refl c.cut.ensures.back w k g

pub returns-clause-runs : goal.returns-clause-runs
returns-clause-runs c =
    λ p came. came-again c.args.self.now _ c.args.mark p
    (λ e w k g. again e c.args.self.now _ c.args.mark refl refl c.cut.ensures.back w k g) came
