use Rattle.js_semantics.proofs.SourceLemmas.{scripts-shaped}
use Rattle.js_semantics.proofs.laws.a_run_of_trees_is_well_shaped.Goals as goal

pub returns : goal.returns
returns c = scripts-shaped
