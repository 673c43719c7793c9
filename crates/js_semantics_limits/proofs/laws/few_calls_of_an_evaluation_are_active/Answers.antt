use Rattle.js_semantics_limits.proofs.CallLaws.{call-few, evaluation-few}
use Rattle.js_semantics_limits.proofs.laws.few_calls_of_an_evaluation_are_active.Goals as goal

pub returns : goal.returns
returns c = record { evaluated = evaluation-few; called = call-few }
