use Rattle.js_semantics_limits.proofs.AnswerLemmas.{call-balances, evaluate-balances}
use Rattle.js_semantics_limits.proofs.laws.an_evaluation_balances.Goals as goal

pub returns : goal.returns
returns c = record { evaluated = evaluate-balances; called = call-balances }
