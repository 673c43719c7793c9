use Rattle.js_semantics_limits.proofs.CallLaws.{program-few}
use Rattle.js_semantics_limits.proofs.laws.few_calls_of_a_program_are_active.Goals as goal

pub returns : goal.returns
returns c = program-few
