use Rattle.pure_eval.proofs.SettledTerms.{kept-settled}
use Rattle.pure_eval.proofs.laws.terms_of_expressions_are_settled.Goals as goal

pub returns : goal.returns
returns c = kept-settled
