use Rattle.js_semantics.proofs.SourceLemmas.{scripts-sound}
use Rattle.js_semantics.proofs.laws.a_run_of_trees_is_sound.Goals as goal

pub returns : goal.returns
returns c = scripts-sound
