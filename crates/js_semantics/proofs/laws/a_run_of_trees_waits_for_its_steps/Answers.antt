use Rattle.js_semantics.proofs.SourceLemmas.{scripts-waiting}
use Rattle.js_semantics.proofs.laws.a_run_of_trees_waits_for_its_steps.Goals as goal

pub returns : goal.returns
returns c = scripts-waiting
