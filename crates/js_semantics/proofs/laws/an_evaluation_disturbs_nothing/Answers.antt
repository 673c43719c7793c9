use Rattle.js_semantics.proofs.EvaluationLemmas.{evaluate-keeps}
use Rattle.js_semantics.proofs.laws.an_evaluation_disturbs_nothing.Goals as goal

pub returns : goal.returns
returns c = evaluate-keeps
