use Rattle.pure_eval.proofs.EvaluatorLemmas.{made-of}
use Rattle.pure_eval.proofs.laws.terms_of_expressions_are_made_of_their_sources.Goals as goal

pub returns : goal.returns
returns c = made-of
