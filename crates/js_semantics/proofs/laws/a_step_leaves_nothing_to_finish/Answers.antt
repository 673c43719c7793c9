use Rattle.js_semantics.proofs.WaitLemmas.{next-waits}
use Rattle.js_semantics.proofs.laws.a_step_leaves_nothing_to_finish.Goals as goal

pub returns : goal.returns
returns c = next-waits
