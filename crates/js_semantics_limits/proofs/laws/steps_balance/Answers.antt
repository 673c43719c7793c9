use Rattle.js_semantics_limits.proofs.StepLemmas.{steps-balance}
use Rattle.js_semantics_limits.proofs.laws.steps_balance.Goals as goal

pub returns : goal.returns
returns c = steps-balance
