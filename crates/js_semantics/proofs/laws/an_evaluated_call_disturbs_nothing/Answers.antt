use Rattle.js_semantics.proofs.EvaluationLemmas.{call-keeps}
use Rattle.js_semantics.proofs.laws.an_evaluated_call_disturbs_nothing.Goals as goal

pub returns : goal.returns
returns c = call-keeps
