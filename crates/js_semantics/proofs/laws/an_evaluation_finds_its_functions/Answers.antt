use Rattle.js_semantics.proofs.EvaluationLemmas.{own-found, others-found}
use Rattle.js_semantics.proofs.laws.an_evaluation_finds_its_functions.Goals as goal

pub returns-clause-own : goal.returns-clause-own
returns-clause-own c = own-found

pub returns-clause-others : goal.returns-clause-others
returns-clause-others c = others-found
