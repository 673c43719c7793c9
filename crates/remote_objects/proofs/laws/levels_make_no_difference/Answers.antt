use Rattle.remote_objects.proofs.LevelLemmas.{ignores-levels}
use Rattle.remote_objects.proofs.laws.levels_make_no_difference.Goals as goal

pub returns : goal.returns
returns c = ignores-levels
